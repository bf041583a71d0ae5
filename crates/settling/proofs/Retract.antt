-- A retraction keeps what holds in the middle of settling, every other box's dirty mark, and the claims. Assumes nothing.
use Prim.Native.Nat.{ℕ, ◌<◌}
use mathlib.Core.Path.{◌≡◌, refl, sym}
use mathlib.Core.Bool.{true, true≢false}
use native.Mathlib.Omega.{arith}
use Rattle.model.specs.declared.Core.{Core}
use Rattle.model.specs.declared.Controller.{Controller}
use Rattle.model.specs.Records.{empty_box, core_with, source_at, core_at}
use Rattle.model.specs.Requests.{claimed}
use Rattle.model.specs.Settling.{retract}
use Rattle.model.specs.WellFormed.{Consistent}
use Rattle.settling.specs.Phases.{AllDirty}
use Rattle.settling.proofs.Writes.{put_back_at_named, put_back_at_unnamed, put_back_at_undelivered, core_retract_same, core_retract_other}
use Rattle.settling.proofs.Writes.{source_retract}
use Rattle.settling.proofs.Keeps.{retract_keeps}
use Rattle.settling.proofs.OneBox.{BoxWritten, BoxFits, each_core, box_written_consistent}
use Rattle.settling.proofs.OneBoxClaims.{MarksFollow, box_written_claimed}

module _ (s : Controller) (k : ℕ) where
  written : BoxWritten s (retract s k) k
  written =
      record {
        kept = retract_keeps s k;
        core_other = core_retract_other s k;
        stays_idle = λ j p d. rw (source_retract s k j) (put_back_at_undelivered (core_at s k).message j (source_at s j) d);
        stays_delivered = λ j d u. rw (source_retract s k j, put_back_at_unnamed (core_at s k).message j (source_at s j) u) d;
      }

  module _ (c : Consistent s) (k_in : k < s.m) where
    emptied : core_at (retract s k) k ≡ core_with (core_at s k).configured empty_box
    emptied = core_retract_same s k (omega (arith, c.cores_length))

    not-filled {ℓ} : {A : Type ℓ} → (core_at (retract s k) k).message.filled ≡ true → A
    not-filled f = absurd (true≢false (sym (rw emptied at f)))

    fits : BoxFits s (retract s k) k
    fits =
        record {
          empty = rw emptied (λ e. refl);
          backed = λ f. not-filled f;
          alone = λ j h q f f'. not-filled f';
        }

    pub retract_consistent : Consistent (retract s k)
    retract_consistent = box_written_consistent s (retract s k) k c k_in written fits

    marks_follow : (j : ℕ) → MarksFollow s (retract s k) k j
    marks_follow j =
        record {
          lost = λ n u. rw (source_retract s k j, put_back_at_named (core_at s k).message j (source_at s j) n);
          gained = λ u n. not-filled n.0;
          same = λ u u'. rw (source_retract s k j, put_back_at_unnamed (core_at s k).message j (source_at s j) u);
        }

    pub retract-all_dirty : AllDirty s → AllDirty (retract s k)
    retract-all_dirty dirty =
        each_core s (retract s k) k written (λ (d : Core). d.message.filled ≡ true → d.message.dirty ≡ true)
        (λ f. not-filled f)
        (λ j l q. dirty j l)

    pub retract_claimed : (i : ℕ) → i < s.n → claimed (retract s k) i ≡ claimed s i
    retract_claimed i l = box_written_claimed s (retract s k) k i k_in written c retract_consistent (marks_follow i)
