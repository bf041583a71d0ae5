-- The retracting phase goes over into the delivering one: each retraction empties a dirty box, and every filled box is dirty.
-- Assumes nothing.
--   dirty_boxes s       how many boxes are dirty
--   retractions_end    settling ends, with at most m retractions and m deliveries
use Prim.Native.Nat.{ℕ, zero, suc, ◌+◌, ◌*◌, ◌<◌, ◌≤◌}
use mathlib.Core.Path.{◌≡◌}
use mathlib.Core.Bool.{true, cond}
use native.Mathlib.Omega.{arith}
use native.Mathlib.Decide.{ℕ_discrete}
use Rattle.model.specs.declared.Controller.{Controller}
use Rattle.model.specs.declared.Cycle.TheVariants.{Retract}
use Rattle.model.specs.Records.{core_id, core_at}
use Rattle.model.specs.Settling.{retract}
use Rattle.lists.proofs.Bools.{clash}
use Rattle.lists.proofs.Counting.{reached, reached_le, reached_more}
use Rattle.model.specs.WellFormed.{Consistent}
use Rattle.settling.specs.Phases.{AllDirty, Delivering, Ended}
use Rattle.settling.proofs.Writes.{core_retract_same, core_retract_other}
use Rattle.settling.proofs.Keeps.{retract_keeps, kept_n, kept_m}
use Rattle.settling.proofs.Retract.{retract_consistent, retract-all_dirty, retract_claimed}
use Rattle.settling.proofs.Next.{NoneDirty, Next, resting, retracting, arbitrating, next_cases}
use Rattle.settling.proofs.Run.{ended_step, ended_within}
use Rattle.settling.proofs.Deliveries.{deliveries_end}

-- 1 for a dirty box, 0 for a clean one
abbrev mark : Controller → ℕ → ℕ
mark s k = cond (core_at s k).message.dirty 1 0

abbrev dirty_boxes : Controller → ℕ
dirty_boxes s = reached s.m 1 (mark s)

-- with no box dirty none is filled
pub clean_delivering : {s : Controller} → AllDirty s → NoneDirty s.cores s.m → Delivering s
clean_delivering all clean = record { clean = clean; covered = λ j k p q e. clash (all j p e) (clean j p) }

module _ (s : Controller) (c : Consistent s) (k : ℕ) (h : k < s.m) (dirty : (core_at s k).message.dirty ≡ true) where
  mark_retract : (j : ℕ) → 1 ≤ mark (retract s k) j → 1 ≤ mark s j
  mark_retract j p = go (ℕ_discrete j k)
    where
      go : Dec (j ≡ k) → 1 ≤ mark s j
      go (yes e) = rw (e, dirty) (omega arith)
      go (no e) = rw (core_retract_other s k j e) at p

  fewer_dirty : dirty_boxes (retract s k) < dirty_boxes s
  fewer_dirty =
      rw (kept_m s (retract s k) (retract_keeps s k))
      (reached_more 1 1 (mark (retract s k)) (mark s) s.m (λ j p. mark_retract j) k h
      (rw (core_retract_same s k (omega (arith, c.cores_length, c.m_le))) (omega arith))
      (rw dirty (omega arith)))

dirty_end : (f : ℕ) (s : Controller) → Consistent s → AllDirty s → dirty_boxes s + s.m ≤ f → Ended s f (dirty_boxes s) s.m
dirty_end zero s c all enough = absurd (omega (arith, c.some_core))
dirty_end (suc f) s c all enough = go (next_cases s c.some_source c.some_core) (dirty_end f)
  where
    delivered : NoneDirty s.cores s.m → Ended s (suc f) (dirty_boxes s) s.m
    delivered clean =
        ended_within (deliveries_end s c (clean_delivering all clean) (suc f) (omega arith)) (dirty_boxes s) s.m
        (omega arith) (omega arith)

    go :
        Next s → ((s' : Controller) → Consistent s' → AllDirty s' → dirty_boxes s' + s'.m ≤ f → Ended s' f (dirty_boxes s') s'.m) →
        Ended s (suc f) (dirty_boxes s) s.m
    go (resting e clean st) rest = delivered clean
    go (arbitrating i k e clean con) rest = delivered clean
    go (retracting k e h dirty) rest =
        let fewer : dirty_boxes (retract s k) < dirty_boxes s = fewer_dirty s c k h dirty in
        let same : (retract s k).m ≡ s.m = kept_m s (retract s k) (retract_keeps s k) in
        ended_within
        (ended_step s (Retract (core_id k)) e (kept_n s (retract s k) (retract_keeps s k)) (retract_claimed s k c h)
        (rest (retract s k) (retract_consistent s k c h) (retract-all_dirty s k c h all) (omega arith)))
        (dirty_boxes s) s.m (omega arith) (omega arith)

pub retractions_end : (s : Controller) → Consistent s → AllDirty s → (f : ℕ) → 2 * s.m ≤ f → Ended s f s.m s.m
retractions_end s c all f h =
    let few : dirty_boxes s ≤ s.m = reached_le s.m 1 (mark s) in
    ended_within (dirty_end f s c all (omega arith)) s.m s.m few (omega arith)
