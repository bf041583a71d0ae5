-- The statements on dropped triggers are false of controllers that count wrongly. Assumes nothing.
--   fails_history    one list of commands from a fresh controller, computed: the count of source 1 isn't that of the answers
--   fails_changes    one command on one state: the count of the source that it names isn't what it has to be
use Prim.Native.Nat.{min}
use mathlib.Core.Path.{◌≡◌, refl}
use mathlib.Core.List.{List, [], ◌∷◌}
use mathlib.Core.Bool.{false, cond}
use lib.Dec.{eqb}
use borrow.Author.Tests.{eqb-false}
use Rattle.lists.specs.Numbers.{one_more_up_to}
use Rattle.model.specs.declared.Controller.{Controller}
use Rattle.model.specs.declared.Command.{Command}
use Rattle.model.specs.declared.Command.TheVariants.{OnSource, OnCore}
use Rattle.model.specs.declared.SourceAction.TheVariants.{Unmask, Trigger, Complete}
use Rattle.model.specs.declared.CoreAction.TheVariants.{Claim}
use Rattle.model.specs.Records.{source_id, core_id, most_dropped, with_dropped, source_at, with_source, reset}
use Rattle.model.specs.Behaviours.{Behaviour, run_by}
use Rattle.model.specs.Commands.{already_pending, execute}
use Rattle.model.specs.Ledger.{entries_by}
use Rattle.model.specs.Drops.{drops, drops_in}
use Rattle.model.specs.Statements.{DroppedChanges, DroppedIsHistory}
use Rattle.theorems.specs.Dummies.{refuse_everything, uncounted, wrapping, counts_refusals, complete_clears}
use Rattle.theorems.proofs.FailsThree.{booked}

abbrev trigger : Command
trigger = OnSource (source_id 1) Trigger

module _ (x : Behaviour) where
  pub fails_history :
      (cs : List Command) →
      eqb (source_at (run_by x (reset 1 1) cs) 0).dropped (min most_dropped (drops_in 1 (entries_by x (reset 1 1) cs))) ≡ false →
      ¬ DroppedIsHistory x
  fails_history cs differ h = eqb-false _ _ differ (h 1 1 cs 0)

  pub fails_changes :
      (s : Controller) (c : Command) →
      eqb (source_at (x s c).state 0).dropped
      (cond (drops 1 c (x s c).number) (one_more_up_to most_dropped (source_at s 0).dropped) (source_at s 0).dropped) ≡ false →
      ¬ DroppedChanges x
  fails_changes s c differ h = eqb-false _ _ differ (h s c 0)

pub uncounted_fails_dropped : ¬ DroppedIsHistory uncounted
unfolding booked drops_in
uncounted_fails_dropped = fails_history uncounted (trigger ∷ trigger ∷ []) refl

-- so a count that is at most the number of refusals isn't enough
pub refuse_everything-fails_dropped : ¬ DroppedIsHistory (refuse_everything already_pending)
unfolding booked drops_in
refuse_everything-fails_dropped = fails_history (refuse_everything already_pending) (trigger ∷ []) refl

-- a request that waits isn't completed: 8
pub counts_refusals-fails_dropped : ¬ DroppedIsHistory counts_refusals
unfolding booked drops_in
counts_refusals-fails_dropped = fails_history counts_refusals (trigger ∷ OnSource (source_id 1) Complete ∷ []) refl

-- one dropped, then claimed and completed
pub complete_clears-fails_dropped : ¬ DroppedIsHistory complete_clears
unfolding booked drops_in
complete_clears-fails_dropped =
    fails_history complete_clears
    (OnSource (source_id 1) Unmask ∷ trigger ∷ trigger ∷ OnCore (core_id 0) Claim ∷ OnSource (source_id 1) Complete ∷ []) refl

-- source 1 with a request and the largest count
abbrev full : Controller
full = let s : Controller = (execute (reset 1 1) trigger).state in with_source s 0 (with_dropped most_dropped (source_at s 0))

pub wrapping_fails_dropped : ¬ DroppedChanges wrapping
unfolding booked drops_in
wrapping_fails_dropped = fails_changes wrapping full trigger refl
