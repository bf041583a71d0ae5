-- Demand 2 is false of every dummy of document 01: each answers otherwise than `execute` to one command of its table. Assumes nothing.
--   fails_two    one number of the answer differs, at one state and command
-- T2 is trigger 4 at the table's start, T3 then trigger 3.
use Prim.Native.Nat.{ℕ}
use mathlib.Core.Path.{◌≡◌, refl, ap}
use mathlib.Core.Logic.{◌≢◌}
use mathlib.Core.Bool.{false}
use lib.Dec.{eqb}
use borrow.Author.Tests.{eqb-false, ne_eqb}
use Rattle.model.specs.declared.Controller.{Controller}
use Rattle.model.specs.declared.Answer.{Answer}
use Rattle.model.specs.declared.Command.{Command}
use Rattle.model.specs.declared.Command.TheVariants.{OnSource}
use Rattle.model.specs.declared.SourceAction.TheVariants.{Trigger}
use Rattle.model.specs.Records.{source_id, core_at}
use Rattle.model.specs.Requests.{current_priority}
use Rattle.model.specs.Commands.{execute}
use Rattle.model.specs.Behaviours.{Behaviour}
use Rattle.model.specs.Statements.{DemandTwo}
use Rattle.model.specs.Cases.{start}
use Rattle.model.proofs.Examples.{computed}
use Rattle.theorems.specs.Dummies.{change_nothing, refuse_everything, always_fresh, always_two_m, flags_only}

pub fails_two :
    (x : Behaviour) (read : Answer → ℕ) (s : Controller) (c : Command) →
    eqb (read (x s c)) (read (execute s c)) ≡ false →
    ¬ DemandTwo x
fails_two x read s c differ h = eqb-false (read (x s c)) (read (execute s c)) differ (ap read (h s c))

-- the current priority of core k in the state handed back
abbrev current_of : ℕ → Answer → ℕ
current_of k a = current_priority (core_at a.state k)

-- T2: core 0 stays at 0, where 4 is due
pub change_nothing-fails_two : ¬ DemandTwo change_nothing
unfolding computed
change_nothing-fails_two = fails_two change_nothing (current_of 0) start (OnSource (source_id 4) Trigger) refl

-- T2: the fresh state has core 0 at 0, where 4 is due
pub always_fresh-fails_two : ¬ DemandTwo always_fresh
unfolding computed
always_fresh-fails_two = fails_two always_fresh (current_of 0) start (OnSource (source_id 4) Trigger) refl

-- T2: 4 cycles, where 1 is due
pub always_two_m-fails_two : ¬ DemandTwo always_two_m
unfolding computed
always_two_m-fails_two = fails_two always_two_m (λ a. a.cycles) start (OnSource (source_id 4) Trigger) refl

-- T2: the number is not 0
pub refuse_everything-fails_two : (number : ℕ) → number ≢ 0 → ¬ DemandTwo (refuse_everything number)
unfolding computed
refuse_everything-fails_two number other =
    fails_two (refuse_everything number) (λ a. a.number) start (OnSource (source_id 4) Trigger) (ne_eqb number 0 other)

-- T3: core 1 stays at 0, where 3 is due
pub flags_only-fails_two : ¬ DemandTwo flags_only
unfolding computed
flags_only-fails_two =
    fails_two flags_only (current_of 1) (execute start (OnSource (source_id 4) Trigger)).state (OnSource (source_id 3) Trigger) refl
