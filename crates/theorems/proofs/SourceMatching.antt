-- The six commands that write one source keep the match between ledger and state, before settling. Assumes nothing.
--   configured_matches, mask_matches, trigger_matches, redeliver_matches, complete_matches    for the source at index i, id i + 1
use Prim.Native.Nat.{ℕ, suc, ◌<◌}
use mathlib.Core.Path.{◌≡◌, refl, sym, ap, ◌∙◌}
use mathlib.Core.Bool.{Bool, true, false}
use native.Mathlib.Omega.{arith}
use lib.ListN.{length}
use Rattle.model.specs.declared.Source.{Source}
use Rattle.model.specs.declared.Controller.{Controller}
use Rattle.model.specs.Records.{no_source, source_at, with_source, with_configured, with_mask, with_delivered, opened, ended}
use Rattle.model.specs.WellFormed.{WellFormed}
use Rattle.model.specs.Ledger.{Ledger, Request, no_request, open_request, priority_of, write_configured, write_mask, write_request}
use Rattle.lists.specs.Rows.{write}
use Rattle.lists.proofs.Writes.{read_kept, read_written}
use Rattle.theorems.specs.Matches.{request_in, Matches}
use Rattle.theorems.proofs.Requests.{pending_priority}

-- What the ledger pictures of the source at j.
abbrev configured_of : ℕ → Source → ℕ
configured_of j r = r.configured

abbrev masked_of : ℕ → Source → Bool
masked_of j r = r.masked

-- f pictures the first n sources of s
abbrev Pictures : ℕ → Controller → {A : Type 0} → (ℕ → Source → A) → (ℕ → A) → Type 0
Pictures n s read f = (j : ℕ) → j < n → f (suc j) ≡ read j (source_at s j)

module _ (n m : ℕ) (b : Ledger) (s : Controller) (M : Matches n m b s) (W : WellFormed s) (i : ℕ) (named : i < n) where
  inside : i < length s.sources
  inside = omega arith

  module _ (r : Source) where
    kept :
        {A : Type 0} (read : ℕ → Source → A) (f : ℕ → A) → read i r ≡ read i (source_at s i) → Pictures n s read f →
        Pictures n (with_source s i r) read f
    kept read f same before j h = before j h ∙ sym (read_kept read s.sources i j r no_source same)

    written :
        {A : Type 0} (read : ℕ → Source → A) (f : ℕ → A) {v : A} → v ≡ read i r → Pictures n s read f →
        Pictures n (with_source s i r) read (write f (suc i) v)
    written read f {v} value before j h =
        read_written read s.sources i j r no_source inside (suc j) (suc i) (λ e. omega arith, λ e. ap suc e) (λ e. rw e value)
        (before j h)

    source_written :
        {f : ℕ → ℕ} {g : ℕ → Bool} {h : ℕ → Request} → Pictures n (with_source s i r) configured_of f →
        Pictures n (with_source s i r) masked_of g → Pictures n (with_source s i r) (request_in s) h →
        Matches n m (record { core = b.core; configured = f; masked = g; request = h }) (with_source s i r)
    source_written p q t =
        record { n_same = M.n_same; m_same = M.m_same; core = M.core; configured = p; masked = q; request = t }

  pub configured_matches : (p : ℕ) → Matches n m (write_configured (suc i) p b) (with_source s i (with_configured p (source_at s i)))
  configured_matches p =
      let r : Source = with_configured p (source_at s i) in
      source_written r (written r configured_of b.configured refl M.configured) (kept r masked_of b.masked refl M.masked)
      (kept r (request_in s) b.request refl M.request)

  pub mask_matches : (x : Bool) → Matches n m (write_mask (suc i) x b) (with_source s i (with_mask x (source_at s i)))
  mask_matches x =
      let r : Source = with_mask x (source_at s i) in
      source_written r (kept r configured_of b.configured refl M.configured) (written r masked_of b.masked refl M.masked)
      (kept r (request_in s) b.request refl M.request)

  -- a record with the same settings, and the ledger written the request that it stands for
  request_written :
      (r : Source) (v : Request) → r.configured ≡ (source_at s i).configured → r.masked ≡ (source_at s i).masked → v ≡ request_in s i r →
      Matches n m (write_request (suc i) v b) (with_source s i r)
  request_written r v p q value =
      source_written r (kept r configured_of b.configured p M.configured) (kept r masked_of b.masked q M.masked)
      (written r (request_in s) b.request value M.request)

  pub trigger_matches : Matches n m (write_request (suc i) (open_request (b.configured (suc i))) b) (with_source s i (opened (source_at s i)))
  trigger_matches =
      request_written (opened (source_at s i)) (open_request (b.configured (suc i))) refl refl (ap open_request (M.configured i named))

  pub complete_matches : Matches n m (write_request (suc i) no_request b) (with_source s i (ended (source_at s i)))
  complete_matches = request_written (ended (source_at s i)) no_request refl refl refl

  pub redeliver_matches : (source_at s i).pending ≡ true →
      Matches n m (write_request (suc i) (open_request (priority_of (b.request (suc i)))) b)
      (with_source s i (with_delivered false (source_at s i)))
  redeliver_matches e =
      request_written (with_delivered false (source_at s i)) (open_request (priority_of (b.request (suc i)))) refl refl
      (rw (pending_priority n m b s M i named e, e))
