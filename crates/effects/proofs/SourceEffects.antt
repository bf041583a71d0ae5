-- A command that writes one source record keeps the state consistent. Assumes nothing.
--   Replaces s i r          what record r must satisfy to stand at index i of state s
--   with_source-consistent   such a write keeps `Consistent`
-- and the records of the six commands that write one are such records.
use Prim.Native.Nat.{ℕ, suc, pred, ◌<◌, ◌≤◌}
use mathlib.Core.Path.{◌≡◌, refl, ◌∙◌}
use mathlib.Core.Bool.{Bool, true, false}
use lib.ListN.{length, length-set}
use native.Mathlib.Omega.{arith}
use Rattle.model.specs.declared.Source.{Source}
use Rattle.model.specs.declared.Core.{Core}
use Rattle.model.specs.declared.Controller.{Controller}
use Rattle.model.specs.Records.{no_source, reset_source, index_of, source_at, core_at, with_source, with_configured, with_mask, with_delivered}
use Rattle.model.specs.Records.{opened, ended}
use Rattle.model.specs.Priorities.{top_priority}
use Rattle.model.specs.Requests.{holds, claimed}
use Rattle.lists.proofs.Bools.{clash}
use Rattle.model.proofs.Boxes.{holds_in, holds_filled, holds_source, unboxed_out}
use Rattle.lists.proofs.Writes.{read_set}
use Rattle.model.specs.WellFormed.{Consistent, Holding}
use Rattle.effects.proofs.Checked.{InTop}
use Rattle.model.proofs.Claims.{claimed_out}

-- As far as a box goes: r is pending, delivered and of the same priority if q is.
abbrev pub SameRequest : Source → Source → Type 0
SameRequest q r = (r.pending ≡ q.pending) × (r.delivered ≡ q.delivered) × (r.priority ≡ q.priority)

pub record Replaces (s : Controller) (i : ℕ) (r : Source) : Type 0 where
  pub configured : InTop (top_priority s.n) r.configured
  pub request : r.pending ≡ true → InTop (top_priority s.n) r.priority
  pub idle : r.pending ≡ false → (r.delivered ≡ false) × (r.priority ≡ 0)
  pub in_box : (k : ℕ) → k < s.m → holds (suc i) (core_at s k) ≡ true → SameRequest (source_at s i) r

-- the id of the source at an index
id_of : (id i : ℕ) → 1 ≤ id → pred id ≡ i → id ≡ suc i
id_of id i h e = omega arith

-- The source's record q bears the request of core d's box.
abbrev Bears : Core → Source → Type 0
Bears d q = (q.pending ≡ true) × (q.delivered ≡ true) × (q.priority ≡ d.message.priority)

still_bears : (d : Core) (q r : Source) → Bears d q → SameRequest q r → Bears d r
still_bears d q r (p, f, e) (p', f', e') = (p' ∙ p, f' ∙ f, e' ∙ e)

module _ (s : Controller) (c : Consistent s) (i : ℕ) (i_lt : i < s.n) (r : Source) (fit : Replaces s i r) where
  read : (P : Source → Type 0) (j : ℕ) → (j ≡ i → P r) → P (source_at s j) → P (source_at (with_source s i r) j)
  read P j same old =
      let fits : i < length s.sources = omega arith in
      read_set P s.sources i j r no_source fits same (λ h. old)

  -- the box of core k is backed by the records after the write
  bears :
      (k : ℕ) → k < s.m → (core_at s k).message.filled ≡ true →
      Bears (core_at s k) (source_at (with_source s i r) (index_of (core_at s k).message.source))
  bears k k_lt filled =
      let d : Core = core_at s k in
      let j : ℕ = index_of d.message.source in
      let h : Holding s d = c.backed k k_lt filled in
      let old : Bears d (source_at s j) = (h.pending, h.delivered, h.same_priority) in
      read (Bears d) j
      (λ e.
      let own : d.message.source.0 ≡ suc i = id_of d.message.source.0 i h.some_id e in
      still_bears d (source_at s i) r (rw e at old) (fit.in_box k k_lt (holds_in (suc i) d filled own)))
      old

  pub with_source-consistent : Consistent (with_source s i r)
  with_source-consistent =
      record {
        some_source = c.some_source;
        n_le = c.n_le;
        some_core = c.some_core;
        m_le = c.m_le;
        sources_length = length-set s.sources i r ∙ c.sources_length;
        cores_length = c.cores_length;
        configured_source = λ j h. read (λ q. InTop (top_priority s.n) q.configured) j (λ e. fit.configured)
            (c.configured_source j h);
        request_range = λ j h. read (λ q. q.pending ≡ true → InTop (top_priority s.n) q.priority) j (λ e. fit.request)
            (c.request_range j h);
        idle_source = λ j h. read (λ q. q.pending ≡ false → (q.delivered ≡ false) × (q.priority ≡ 0)) j (λ e. fit.idle)
            (c.idle_source j h);
        configured_core = c.configured_core;
        unfilled_box = c.unfilled_box;
        spare_source = λ j h l. read (λ q. q ≡ reset_source) j (λ e. absurd (omega arith)) (c.spare_source j h l);
        spare_core = c.spare_core;
        backed = λ k h f.
            let old : Holding s (core_at s k) = c.backed k h f in
            let kept : Bears (core_at s k) (source_at (with_source s i r) (index_of (core_at s k).message.source)) = bears k h f in
            record {
              some_id = old.some_id;
              id_le = old.id_le;
              pending = kept.0;
              delivered = kept.1;
              same_priority = kept.2;
              above = old.above;
            };
        distinct = c.distinct;
      }

-- ---- the records that the commands write

module _ (s : Controller) (c : Consistent s) (i : ℕ) (i_lt : i < s.n) where
  -- another priority for later requests, another mask: the request is the same
  pub set_replaces : (p : ℕ) (b : Bool) → InTop (top_priority s.n) p → Replaces s i (with_mask b (with_configured p (source_at s i)))
  set_replaces p b range =
      record {
        configured = range;
        request = c.request_range i i_lt;
        idle = c.idle_source i i_lt;
        in_box = λ k h e. (refl, refl, refl);
      }

  -- a source without a request lies in no box
  idle_unboxed : (source_at s i).pending ≡ false → (k : ℕ) → k < s.m → holds (suc i) (core_at s k) ≡ true → ⊥
  idle_unboxed idle k h e =
      let old : Holding s (core_at s k) = c.backed k h (holds_filled (suc i) (core_at s k) e) in
      clash (rw (holds_source (suc i) (core_at s k) e) at old.pending) idle

  pub opened_replaces : (source_at s i).pending ≡ false → Replaces s i (opened (source_at s i))
  opened_replaces idle =
      record {
        configured = c.configured_source i i_lt;
        request = λ e. c.configured_source i i_lt;
        idle = λ e. clash refl e;
        in_box = λ k h e. absurd (idle_unboxed idle k h e);
      }

  claimed_unboxed : claimed s i ≡ true → (k : ℕ) → k < s.m → holds (suc i) (core_at s k) ≡ true → ⊥
  claimed_unboxed e k h f = clash f (unboxed_out s.cores s.m (suc i) (claimed_out s i e).2 k h)

  pub redelivered_replaces : claimed s i ≡ true → Replaces s i (with_delivered false (source_at s i))
  redelivered_replaces e =
      record {
        configured = c.configured_source i i_lt;
        request = c.request_range i i_lt;
        idle = λ f. (refl, (c.idle_source i i_lt f).1);
        in_box = λ k h f. absurd (claimed_unboxed e k h f);
      }

  pub ended_replaces : claimed s i ≡ true → Replaces s i (ended (source_at s i))
  ended_replaces e =
      record {
        configured = c.configured_source i i_lt;
        request = λ f. clash f refl;
        idle = λ f. (refl, refl);
        in_box = λ k h f. absurd (claimed_unboxed e k h f);
      }
