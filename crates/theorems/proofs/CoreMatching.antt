-- The two commands that write one core keep the match between ledger and state, before settling. Assumes nothing.
--   core_priority_matches    set core priority: every box keeps what it holds, so no request is claimed or given up
--   claim_matches            the box's request becomes claimed, and the core rises to the priority that the ledger has for it
use Prim.Native.Nat.{ℕ, suc, ◌<◌}
use mathlib.Core.Path.{◌≡◌, refl, sym, ◌∙◌}
use mathlib.Core.Logic.{◌≢◌}
use mathlib.Core.Bool.{true, false}
use native.Mathlib.Omega.{arith}
use native.Mathlib.Decide.{ℕ_discrete}
use lib.ListN.{length, set, get_or-map}
use borrow.Author.Tests.{eq-eqb, ne_eqb}
use Rattle.model.specs.declared.Core.{Core}
use Rattle.model.specs.declared.Controller.{Controller}
use Rattle.model.specs.Records.{no_core, core_with, source_at, core_at, with_cores, with_core}
use Rattle.model.specs.Requests.{holds, boxed}
use Rattle.model.specs.WellFormed.{WellFormed, Holding}
use Rattle.model.specs.Commands.{soiled, claimed_core}
use Rattle.model.specs.Ledger.{Ledger, claimed_request, priority_of, write_core, write_request}
use Rattle.lists.specs.Rows.{write}
use Rattle.lists.proofs.Bools.{refuted}
use Rattle.model.proofs.Boxes.{holds_filled, holds_source, unboxed_in, boxed_agree}
use Rattle.lists.proofs.Writes.{read_set, read_kept, read_written}
use Rattle.effects.proofs.CoreEffects.{claimed_cores, set_cores}
use Rattle.theorems.specs.Matches.{Matches, request_of}
use Rattle.theorems.proofs.Requests.{pending_priority}

module _ (n m : ℕ) (b : Ledger) (s : Controller) (M : Matches n m b s) (W : WellFormed s) (k : ℕ) (named : k < m) where
  inside : k < length s.cores
  inside = omega arith

  core_written : (c : Core) (p : ℕ) → p ≡ c.configured → (j : ℕ) → j < m → write b.core k p j ≡ (core_at (with_core s k c) j).configured
  core_written c p value j h =
      read_written (λ x y. y.configured) s.cores k j c no_core inside j k (λ e. e, λ e. e) (λ e. value) (M.core j h)

  module _ (p : ℕ) where
    -- core k with its new priority, before its box is soiled
    abbrev rewritten : Core
    rewritten = core_with p (core_at s k).message

    soiled_boxed : (id : ℕ) → boxed (set_cores s k p) s.m id ≡ boxed s.cores s.m id
    soiled_boxed id =
        boxed_agree (set_cores s k p) s.cores s.m id
        (λ j h. rw (get_or-map soiled (set s.cores k rewritten) j no_core)
        (read_kept (λ x c. holds id c) s.cores k j rewritten no_core refl))

    pub core_priority_matches : Matches n m (write_core k p b) (with_cores s (set_cores s k p))
    core_priority_matches =
        record {
          n_same = M.n_same;
          m_same = M.m_same;
          core = λ j h. rw (get_or-map soiled (set s.cores k rewritten) j no_core) (core_written rewritten p refl j h);
          configured = M.configured;
          masked = M.masked;
          request = λ i h. rw (soiled_boxed (suc i)) (M.request i h);
        }

  -- the box of core k holds the request of source i + 1
  module _ (i : ℕ) (source_named : i < n) (filled : (core_at s k).message.filled ≡ true)
      (names : (core_at s k).message.source.0 ≡ suc i) where
    backed : Holding s (core_at s k)
    backed = W.consistent.backed k (omega arith) filled

    pending : (source_at s i).pending ≡ true
    pending = rw names at backed.pending

    delivered : (source_at s i).delivered ≡ true
    delivered = rw names at backed.delivered

    same_priority : (source_at s i).priority ≡ (core_at s k).message.priority
    same_priority = rw names at backed.same_priority

    ledger_priority : priority_of (b.request (suc i)) ≡ (source_at s i).priority
    ledger_priority = pending_priority n m b s M i source_named pending

    -- no other box names the source
    not_elsewhere : (j : ℕ) → j < s.m → j ≢ k → holds (suc i) (core_at s j) ≡ false
    not_elsewhere j h apart =
        refuted (holds (suc i) (core_at s j))
        (λ e. apart (W.consistent.distinct j k h (omega arith) (holds_filled (suc i) (core_at s j) e) filled
        (holds_source (suc i) (core_at s j) e ∙ sym names)))

    unboxed : boxed (claimed_cores s k) s.m (suc i) ≡ false
    unboxed =
        unboxed_in (claimed_cores s k) s.m (suc i)
        (λ j h. read_set (λ c. holds (suc i) c ≡ false) s.cores k j (claimed_core (core_at s k)) no_core inside (λ e. refl)
        (not_elsewhere j h))

    others_boxed : (j : ℕ) → j ≢ i → boxed (claimed_cores s k) s.m (suc j) ≡ boxed s.cores s.m (suc j)
    others_boxed j apart =
        boxed_agree (claimed_cores s k) s.cores s.m (suc j)
        (λ x h. read_kept (λ y c. holds (suc j) c) s.cores k x (claimed_core (core_at s k)) no_core
        (rw (filled, names, ne_eqb (suc i) (suc j) (omega arith))))

    request_claimed :
        (j : ℕ) → j < n →
        write b.request (suc i) (claimed_request (priority_of (b.request (suc i)))) (suc j) ≡ request_of (with_cores s (claimed_cores s k)) j
    request_claimed j h = go (ℕ_discrete j i)
      where
        go :
            Dec (j ≡ i) →
            write b.request (suc i) (claimed_request (priority_of (b.request (suc i)))) (suc j)
            ≡ request_of (with_cores s (claimed_cores s k)) j
        go (yes e) = rw (e, eq-eqb (suc i) (suc i) refl, unboxed, pending, delivered, ledger_priority)
        go (no apart) = rw (ne_eqb (suc j) (suc i) (omega arith), others_boxed j apart) (M.request j h)

    pub claim_matches : Matches n m
        (write_core k (priority_of (b.request (suc i))) (write_request (suc i) (claimed_request (priority_of (b.request (suc i)))) b))
        (with_core s k (claimed_core (core_at s k)))
    claim_matches =
        record {
          n_same = M.n_same;
          m_same = M.m_same;
          core = core_written (claimed_core (core_at s k)) (priority_of (b.request (suc i))) (ledger_priority ∙ same_priority);
          configured = M.configured;
          masked = M.masked;
          request = request_claimed;
        }
