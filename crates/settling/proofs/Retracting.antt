-- The loop of retractions, turn by turn: what holds once the boxes of the cores below k are looked at. Assumes nothing.
--   Retracting s state cycles k   state is s after its first cycles, which are retractions, and no box below k is dirty
--   retracting_none               before the first turn
--   retracting_dirty, -clean      a turn that meets a dirty box, and one that does not
--   retracting_all                after the last turn
use Prim.Native.Nat.{ℕ, ◌+◌, ◌<◌, ◌≤◌}
use mathlib.Core.Path.{◌≡◌, refl}
use mathlib.Core.Bool.{true, false}
use native.Mathlib.Omega.{arith}
use borrow.Author.Count.{below_more}
use Rattle.model.specs.declared.Controller.{Controller}
use Rattle.model.specs.declared.Cycle.TheVariants.{Retract}
use Rattle.model.specs.Records.{core_id, core_at}
use Rattle.model.specs.Settling.{retract, is_retraction}
use Rattle.model.specs.WellFormed.{Consistent}
use Rattle.settling.specs.Phases.{AllDirty}
use Rattle.settling.specs.Runs.{AfterRetractions}
use Rattle.settling.proofs.Writes.{core_retract_same, core_retract_other}
use Rattle.settling.proofs.Retract.{retract_consistent, retract-all_dirty}
use Rattle.settling.proofs.Next.{NoneDirty, next_retract}
use Rattle.settling.proofs.Forward.{Ran, ran_none, ran_more, ran_n, ran_m}
use Rattle.settling.proofs.Retractions.{clean_delivering}

pub record Retracting (s state : Controller) (cycles k : ℕ) : Type 0 where
  pub ran : Ran is_retraction s state cycles
  pub consistent : Consistent state
  pub all_dirty : AllDirty state
  pub within : k ≤ s.m
  pub cycles_le : cycles ≤ k
  pub clean : NoneDirty state.cores k

pub retracting_none : (s : Controller) → Consistent s → AllDirty s → Retracting s s 0 0
retracting_none s c all =
    record {
      ran = ran_none is_retraction s;
      consistent = c;
      all_dirty = all;
      within = omega arith;
      cycles_le = omega arith;
      clean = λ j h. absurd (omega arith);
    }

-- ---- one turn

module _ (s state : Controller) (cycles k : ℕ) (r : Retracting s state cycles k) (h : k < s.m) where
  pub retracting_clean : (core_at state k).message.dirty ≡ false → Retracting s state cycles (k + 1)
  retracting_clean e =
      record {
        ran = r.ran;
        consistent = r.consistent;
        all_dirty = r.all_dirty;
        within = omega arith;
        cycles_le = omega arith;
        clean = below_more (λ (j : ℕ). (core_at state j).message.dirty ≡ false) k r.clean e;
      }

  module _ (dirty : (core_at state k).message.dirty ≡ true) where
    core_in : k < state.m
    core_in = omega (arith, ran_m r.ran)

    emptied_clean : (j : ℕ) → j < k → (core_at (retract state k) j).message.dirty ≡ false
    emptied_clean j p = rw (core_retract_other state k j (omega arith)) (r.clean j p)

    pub retracting_dirty : Retracting s (retract state k) (cycles + 1) (k + 1)
    retracting_dirty =
        record {
          ran = ran_more r.ran (Retract (core_id k)) (next_retract state k core_in r.clean dirty) refl;
          consistent = retract_consistent state k r.consistent core_in;
          all_dirty = retract-all_dirty state k r.consistent core_in r.all_dirty;
          within = omega arith;
          cycles_le = omega arith;
          clean =
              below_more (λ (j : ℕ). (core_at (retract state k) j).message.dirty ≡ false) k emptied_clean
              (rw (core_retract_same state k (omega (arith, core_in, r.consistent.m_le, r.consistent.cores_length))));
        }

-- ---- the end

pub retracting_all :
    (s state : Controller) (cycles k : ℕ) → Retracting s state cycles k → s.m ≤ k → AfterRetractions s state cycles
retracting_all s state cycles k r h =
    record {
      state_is = r.ran.state_is;
      each_retracts = r.ran.counted;
      consistent = r.consistent;
      delivering = clean_delivering r.all_dirty (λ j p. r.clean j (omega (arith, ran_m r.ran)));
      n_same = ran_n r.ran;
      m_same = ran_m r.ran;
      cycles_le = omega arith;
    }
