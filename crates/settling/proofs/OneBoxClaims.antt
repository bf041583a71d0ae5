-- A step that writes the box of one core changes no claim, if the marks go with the box. Retraction and delivery cite it. Assumes nothing.
--   MarksFollow s s' k j    the mark of source j + 1 is lost with the box, not yet there before the box, and else as it was
use Prim.Native.Nat.{ℕ, suc, pred, ◌<◌, ◌≤◌}
use mathlib.Core.Path.{◌≡◌, sym, ◌∙◌, ap}
use mathlib.Core.Bool.{true, false, ◌&&◌, and-false}
use native.Mathlib.Nat.{suc-pred-eq_of_pos}
use native.Mathlib.Decide.{ℕ_discrete}
use Rattle.model.specs.declared.Core.{Core}
use Rattle.model.specs.declared.Controller.{Controller}
use Rattle.model.specs.Records.{source_at, core_at}
use Rattle.model.specs.Requests.{holds, claimed}
use Rattle.lists.proofs.Bools.{refuted}
use Rattle.model.proofs.Boxes.{holds_in, holds_filled, holds_source, boxed_in, boxed_agree}
use Rattle.model.specs.WellFormed.{Consistent}
use Rattle.settling.proofs.Writes.{Names, names?}
use Rattle.settling.proofs.Keeps.{kept_m, kept_pending}
use Rattle.settling.proofs.OneBox.{BoxWritten}

pub record MarksFollow (s s' : Controller) (k j : ℕ) : Type 0 where
  pub lost : Names (core_at s k).message j → ¬ (Names (core_at s' k).message j) → (source_at s' j).delivered ≡ false
  pub gained : ¬ (Names (core_at s k).message j) → Names (core_at s' k).message j → (source_at s j).delivered ≡ false
  pub same :
      ¬ (Names (core_at s k).message j) → ¬ (Names (core_at s' k).message j) →
      (source_at s' j).delivered ≡ (source_at s j).delivered

-- ---- the test of a box, as a fact

named_held : (c : Core) (j : ℕ) → 1 ≤ c.message.source.0 → Names c.message j → holds (suc j) c ≡ true
named_held c j h n = holds_in (suc j) c n.0 (sym (ap suc n.1 ∙ suc-pred-eq_of_pos h))

unnamed_not_held : (c : Core) (j : ℕ) → ¬ (Names c.message j) → holds (suc j) c ≡ false
unnamed_not_held c j u =
    refuted (holds (suc j) c) (λ e. u (holds_filled (suc j) c e, sym (ap pred (holds_source (suc j) c e))))

-- ---- requests that are not claimed

unmarked_unclaimed : (s : Controller) (j : ℕ) → (source_at s j).delivered ≡ false → claimed s j ≡ false
unmarked_unclaimed s j e = rw (e, and-false (source_at s j).pending)

named_unclaimed : (s : Controller) (k j : ℕ) → Consistent s → k < s.m → Names (core_at s k).message j → claimed s j ≡ false
named_unclaimed s k j c h n =
    rw (boxed_in s.cores s.m (suc j) k h (named_held (core_at s k) j (c.backed k h n.0).some_id n))
    (and-false ((source_at s j).pending && (source_at s j).delivered))

-- ---- the step

module _ (s s' : Controller) (k j : ℕ) (k_in : k < s.m) (w : BoxWritten s s' k) where
  held_same : holds (suc j) (core_at s' k) ≡ holds (suc j) (core_at s k) → (l : ℕ) → holds (suc j) (core_at s' l) ≡ holds (suc j) (core_at s l)
  held_same e l = go (ℕ_discrete l k)
    where
      go : Dec (l ≡ k) → holds (suc j) (core_at s' l) ≡ holds (suc j) (core_at s l)
      go (yes p) = rw p e
      go (no q) = rw (w.core_other l q)

  claimed_same :
      (source_at s' j).delivered ≡ (source_at s j).delivered → holds (suc j) (core_at s' k) ≡ holds (suc j) (core_at s k) →
      claimed s' j ≡ claimed s j
  claimed_same d e =
      rw (kept_pending s s' w.kept j, d, kept_m s s' w.kept, boxed_agree s'.cores s.cores s.m (suc j) (λ l h. held_same e l))

  module _ (c : Consistent s) (c' : Consistent s') (f : MarksFollow s s' k j) where
    was_held : Names (core_at s k).message j → claimed s j ≡ false
    was_held = named_unclaimed s k j c k_in

    is_held : Names (core_at s' k).message j → claimed s' j ≡ false
    is_held = named_unclaimed s' k j c' (rw (kept_m s s' w.kept) k_in)

    pub box_written_claimed : claimed s' j ≡ claimed s j
    box_written_claimed = go (names? (core_at s k).message j) (names? (core_at s' k).message j)
      where
        go : Dec (Names (core_at s k).message j) → Dec (Names (core_at s' k).message j) → claimed s' j ≡ claimed s j
        go (yes n) (yes n') = is_held n' ∙ sym (was_held n)
        go (yes n) (no u') = unmarked_unclaimed s' j (f.lost n u') ∙ sym (was_held n)
        go (no u) (yes n') = is_held n' ∙ sym (unmarked_unclaimed s j (f.gained u n'))
        go (no u) (no u') =
            claimed_same (f.same u u') (unnamed_not_held (core_at s' k) j u' ∙ sym (unnamed_not_held (core_at s k) j u))
