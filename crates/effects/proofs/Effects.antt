-- After an accepted command and before its settling: the state is consistent, in one of settling's two phases, and its last layer holds
-- unless a box is dirty. Assumes nothing.
--   effect_sizes         the sizes stay; effect_m is the number of cores
--   Begun, effect_begins from a sound state; set core priority leaves every filled box dirty, the other commands leave none dirty
--   effect_consistent    the first part of it, from the checks
use Prim.Native.Nat.{ℕ, ◌<◌}
use mathlib.Core.Path.{◌≡◌, refl}
use mathlib.Core.Bool.{true, false}
use Rattle.model.specs.declared.SourceId.{SourceId}
use Rattle.model.specs.declared.Controller.{Controller}
use Rattle.model.specs.declared.Command.{Command}
use Rattle.model.specs.declared.Command.TheVariants.{OnSource, OnCore}
use Rattle.model.specs.declared.SourceAction.{SourceAction}
use Rattle.model.specs.declared.SourceAction.TheVariants.{SetSourcePriority, Mask, Unmask, Trigger, Redeliver, Complete}
use Rattle.model.specs.declared.CoreAction.TheVariants.{SetCorePriority, Claim}
use Rattle.model.specs.Records.{index_of, source_at, with_cores}
use Rattle.model.specs.WellFormed.{WellFormed, Consistent}
use Rattle.model.specs.Commands.{source_after, effect, refusal_of}
use Rattle.settling.specs.Phases.{Delivering, Phase, retracting, delivering, Spared}
use Rattle.settling.proofs.Spared.{unfilled_frugal}
use Rattle.effects.proofs.Checked.{named_index, SourceChecked, Checked, checked}
use Rattle.effects.proofs.SourceEffects.{Replaces, with_source-consistent, set_replaces, opened_replaces, redelivered_replaces}
use Rattle.effects.proofs.SourceEffects.{ended_replaces}
use Rattle.effects.proofs.CoreEffects.{with_cores-consistent, claimed_cores, claimed_recored, claimed_delivering, claimed_frugal}
use Rattle.effects.proofs.CoreEffects.{set_cores, set_recored, set-all_dirty}

pub effect_sizes : (s : Controller) (o : Command) → ((effect s o).n ≡ s.n) × ((effect s o).m ≡ s.m)
unfolding effect
effect_sizes s (OnSource id a) = (refl, refl)
effect_sizes s (OnCore k a) = (refl, refl)

pub effect_m : (s : Controller) (o : Command) → (effect s o).m ≡ s.m
effect_m s o = (effect_sizes s o).1

-- ---- a sound state, as settling sees it

module _ (s : Controller) (w : WellFormed s) where
  pub well_formed-delivering : Delivering s
  well_formed-delivering = record { clean = w.clean; covered = w.quiet.covered_below }

-- ---- the effects

pub record Begun (s : Controller) : Type 0 where
  pub consistent : Consistent s
  pub phase : Phase s
  pub spared : Spared s

module _ (s : Controller) (w : WellFormed s) where
  old : Consistent s
  old = w.consistent

  -- what the write of one source puts in its place
  source_replaces : (i : ℕ) → i < s.n → (a : SourceAction) → SourceChecked s i a → Replaces s i (source_after a (source_at s i))
  source_replaces i l (SetSourcePriority p) (range, idle) = set_replaces s old i l p (source_at s i).masked range
  source_replaces i l Mask h = set_replaces s old i l (source_at s i).configured true (old.configured_source i l)
  source_replaces i l Unmask h = set_replaces s old i l (source_at s i).configured false (old.configured_source i l)
  source_replaces i l Trigger idle = opened_replaces s old i l idle
  source_replaces i l Redeliver taken = redelivered_replaces s old i l taken
  source_replaces i l Complete taken = ended_replaces s old i l taken

  -- the cores are left alone
  source_begins : (id : SourceId) (a : SourceAction) → Checked s (OnSource id a) → Begun (effect s (OnSource id a))
  unfolding effect
  source_begins id a (h, g) =
      let i_lt : index_of id < s.n = named_index s id h in
      record {
        consistent = with_source-consistent s old (index_of id) i_lt _ (source_replaces (index_of id) i_lt a g);
        phase = delivering (record { clean = w.clean; covered = w.quiet.covered_below });
        spared = λ clean. w.frugal;
      }

  pub effect_begins : (o : Command) → Checked s o → Begun (effect s o)
  unfolding effect
  effect_begins (OnSource id a) h = source_begins id a h
  effect_begins (OnCore k (SetCorePriority p)) (h, range) =
      record {
        consistent = with_cores-consistent s old (set_cores s k.0 p) (set_recored s old k.0 h p range);
        phase = retracting (set-all_dirty s old k.0 h p range);
        spared = unfilled_frugal (with_cores s (set_cores s k.0 p)) (set-all_dirty s old k.0 h p range);
      }
  effect_begins (OnCore k Claim) (h, filled) =
      record {
        consistent = with_cores-consistent s old (claimed_cores s k.0) (claimed_recored s old k.0 h filled);
        phase = delivering (claimed_delivering s old k.0 h filled (well_formed-delivering s w));
        spared = λ clean. claimed_frugal s old k.0 h filled w.frugal;
      }

pub effect_consistent : (s : Controller) (o : Command) → WellFormed s → refusal_of s o ≡ 0 → Consistent (effect s o)
effect_consistent s o w e = (effect_begins s w o (checked s o e)).consistent
