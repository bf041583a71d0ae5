-- A delivery keeps what holds in the middle of settling, and the claims; its evicted request has the old current priority. Assumes nothing.
use Prim.Native.Nat.{ℕ, pred, ◌<◌, ◌≤◌}
use mathlib.Core.Path.{◌≡◌, refl, sym, ◌∙◌, ap}
use mathlib.Core.Bool.{true, false, true≢false}
use native.Mathlib.Nat.{le_trans, le_of_lt}
use native.Mathlib.Omega.{arith}
use native.Mathlib.Decide.{ℕ_discrete}
use Rattle.model.specs.declared.Source.{Source}
use Rattle.model.specs.declared.Core.{Core}
use Rattle.model.specs.declared.Controller.{Controller}
use Rattle.model.specs.Records.{source_at, core_at}
use Rattle.model.specs.Requests.{current_priority, candidate, claimed}
use Rattle.model.proofs.Candidates.{delivered_no_candidate}
use Rattle.model.specs.Settling.{deliver}
use Rattle.lists.proofs.Bools.{clash}
use Rattle.model.specs.WellFormed.{Holding, Consistent}
use Rattle.settling.specs.Phases.{Delivering}
use Rattle.settling.proofs.Writes.{Names, names?, put_back_at_named, put_back_at_unnamed, put_back_at_undelivered, delivered_to}
use Rattle.settling.proofs.Writes.{core_deliver_same, core_deliver_other, source_deliver_same, source_deliver_other}
use Rattle.settling.proofs.Keeps.{deliver_keeps, kept_n, kept_pending, kept_priority}
use Rattle.settling.proofs.OneBox.{BoxWritten, BoxFits, each_core, box_written_consistent}
use Rattle.settling.proofs.OneBoxClaims.{MarksFollow, box_written_claimed}
use Rattle.settling.proofs.Arbitrated.{Arbitrated, CandidateBefore, stayed, evicted, index_in, number_in, was_pending}
use Rattle.settling.proofs.Arbitrated.{was_undelivered, not_held, configured_le_current}

module _ {s : Controller} {i k : ℕ} (a : Arbitrated s i k) where
  mark_same : (source_at (deliver s i k) i).delivered ≡ true
  mark_same = ap (λ (r : Source). r.delivered) (source_deliver_same s i k (index_in a))

  -- what is delivered is no candidate any more
  pub deliver_undelivers : candidate (source_at (deliver s i k) i) ≡ false
  deliver_undelivers = sym (delivered_no_candidate (source_at (deliver s i k) i) mark_same)

  stays_idle :
      (j : ℕ) → (source_at s j).pending ≡ false → (source_at s j).delivered ≡ false → (source_at (deliver s i k) j).delivered ≡ false
  stays_idle j p d = go (ℕ_discrete j i)
    where
      go : Dec (j ≡ i) → (source_at (deliver s i k) j).delivered ≡ false
      go (yes e) = clash (was_pending a) (rw e at p)
      go (no q) = rw (source_deliver_other s i k j q) (put_back_at_undelivered (core_at s k).message j (source_at s j) d)

  stays_delivered :
      (j : ℕ) → (source_at s j).delivered ≡ true → ¬ (Names (core_at s k).message j) → (source_at (deliver s i k) j).delivered ≡ true
  stays_delivered j d u = go (ℕ_discrete j i)
    where
      go : Dec (j ≡ i) → (source_at (deliver s i k) j).delivered ≡ true
      go (yes e) = rw e mark_same
      go (no q) = rw (source_deliver_other s i k j q, put_back_at_unnamed (core_at s k).message j (source_at s j) u) d

  written : BoxWritten s (deliver s i k) k
  written =
      record {
        kept = deliver_keeps s i k;
        core_other = core_deliver_other s i k;
        stays_idle = stays_idle;
        stays_delivered = stays_delivered;
      }

  here : core_at (deliver s i k) k ≡ delivered_to s i k
  here = core_deliver_same s i k (number_in a)

  holds_candidate : Holding (deliver s i k) (delivered_to s i k)
  holds_candidate =
      record {
        some_id = omega arith;
        id_le = rw (kept_n s (deliver s i k) (deliver_keeps s i k)) a.won.source_in;
        pending = kept_pending s (deliver s i k) (deliver_keeps s i k) i ∙ was_pending a;
        delivered = mark_same;
        same_priority = kept_priority s (deliver s i k) (deliver_keeps s i k) i;
        above = λ e. omega (arith, configured_le_current a, a.won.above);
      }

  fits : BoxFits s (deliver s i k) k
  fits =
      record {
        empty = rw here (λ e. absurd (true≢false e));
        backed = rw here (λ f. holds_candidate);
        alone = λ j h q f f'. rw here (λ e. not_held a j h (f, sym (ap pred e)));
      }

  pub deliver_consistent : Consistent (deliver s i k)
  deliver_consistent = box_written_consistent s (deliver s i k) k a.consistent a.won.core_in written fits

  pub deliver_current_same : current_priority (core_at (deliver s i k) k) ≡ (source_at s i).priority
  deliver_current_same = rw here

  clean : (j : ℕ) → j < (deliver s i k).m → (core_at (deliver s i k) j).message.dirty ≡ false
  clean =
      each_core s (deliver s i k) k written (λ (d : Core). d.message.dirty ≡ false)
      (rw here)
      (λ j h q. a.delivering.clean j h)

  covered_le :
      (j : ℕ) → j < (deliver s i k).m → (core_at (deliver s i k) j).message.filled ≡ true →
      (core_at (deliver s i k) j).configured ≤ current_priority (core_at s k)
  covered_le =
      each_core s (deliver s i k) k written (λ (d : Core). d.message.filled ≡ true → d.configured ≤ current_priority (core_at s k))
      (rw here (λ f. configured_le_current a))
      (λ j h q. a.delivering.covered j k h a.won.core_in)

  least_le : (j : ℕ) → j < (deliver s i k).m → current_priority (core_at s k) ≤ current_priority (core_at (deliver s i k) j)
  least_le =
      each_core s (deliver s i k) k written (λ (d : Core). current_priority (core_at s k) ≤ current_priority d)
      (rw deliver_current_same (le_of_lt a.won.above))
      (λ j h q. a.won.least j h)

  pub deliver_delivering : Delivering (deliver s i k)
  deliver_delivering =
      record { clean = clean; covered = λ j l h h' f. le_trans (covered_le j h f) (least_le l h') }

  marks_follow : (j : ℕ) → MarksFollow s (deliver s i k) k j
  marks_follow j =
      record {
        lost = λ n. rw here (λ u.
            rw (source_deliver_other s i k j (λ e. u (refl, e)), put_back_at_named (core_at s k).message j (source_at s j) n));
        gained = λ u. rw here (λ n. rw n.1 (was_undelivered a));
        same = λ u. rw here (λ u'.
            rw (source_deliver_other s i k j (λ e. u' (refl, e)), put_back_at_unnamed (core_at s k).message j (source_at s j) u));
      }

  pub deliver_claimed : (j : ℕ) → j < s.n → claimed (deliver s i k) j ≡ claimed s j
  deliver_claimed j h =
      box_written_claimed s (deliver s i k) k j a.won.core_in written a.consistent deliver_consistent (marks_follow j)

  -- the evicted request has the priority of the box that it lay in
  evicted_priority : (j : ℕ) → Names (core_at s k).message j → (source_at s j).priority ≡ current_priority (core_at s k)
  evicted_priority j n = rw (n.1, n.0) (a.consistent.backed k a.won.core_in n.0).same_priority

  pub deliver_candidate : (j : ℕ) → j < s.n → candidate (source_at (deliver s i k) j) ≡ true → CandidateBefore s k j
  deliver_candidate j h e = go (ℕ_discrete j i) (names? (core_at s k).message j)
    where
      go : Dec (j ≡ i) → Dec (Names (core_at s k).message j) → CandidateBefore s k j
      go (yes p) d = stayed (rw p a.won.is_candidate)
      go (no q) (yes n) = evicted (evicted_priority j n)
      go (no q) (no u) =
          stayed (rw (source_deliver_other s i k j q, put_back_at_unnamed (core_at s k).message j (source_at s j) u) at e)
