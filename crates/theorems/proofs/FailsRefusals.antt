-- The statements on refusals are false of controllers that refuse wrongly. Assumes nothing.
--   fails_refusals     a number other than `execute`'s, at one state and command: the rows fit no two
--   fails_unchanged    the answer of a refusal, other than 6, that differs, in one number, from the state given with id 0 and 0 cycles
use Prim.Native.Nat.{ℕ}
use mathlib.Core.Path.{◌≡◌, refl, ap}
use mathlib.Core.Logic.{◌≢◌}
use mathlib.Core.Bool.{false}
use lib.Dec.{eqb}
use borrow.Author.Tests.{eqb-false, ne_eqb}
use Rattle.model.specs.declared.Controller.{Controller}
use Rattle.model.specs.declared.Answer.{Answer}
use Rattle.model.specs.declared.Command.{Command}
use Rattle.model.specs.declared.Command.TheVariants.{OnSource, OnCore}
use Rattle.model.specs.declared.SourceAction.TheVariants.{SetSourcePriority, Trigger}
use Rattle.model.specs.declared.CoreAction.TheVariants.{SetCorePriority}
use Rattle.model.specs.Records.{source_id, core_id, source_at, answer}
use Rattle.model.specs.Commands.{already_pending, execute}
use Rattle.model.specs.Behaviours.{Behaviour}
use Rattle.model.specs.Statements.{RefusalsExact, RefusedUnchanged}
use Rattle.model.specs.Cases.{start}
use Rattle.model.proofs.Examples.{computed}
use Rattle.theorems.proofs.Refusals.{number_unique}
use Rattle.theorems.specs.Dummies.{refuse_everything, always_two_m, fresh_when_refused, core_as_source, priority_first, sets_under_request}

module _ (x : Behaviour) (s : Controller) (c : Command) where
  pub fails_refusals : eqb (x s c).number (execute s c).number ≡ false → ¬ RefusalsExact x
  fails_refusals differ h = eqb-false _ _ differ (number_unique s c (x s c).number (h s c))

  pub fails_unchanged :
      (read : Answer → ℕ) → eqb (x s c).number 0 ≡ false → eqb (x s c).number already_pending ≡ false →
      eqb (read (x s c)) (read (answer s (x s c).number 0 0)) ≡ false →
      ¬ RefusedUnchanged x
  fails_unchanged read refused other differ h = eqb-false _ _ differ (ap read (h s c (eqb-false _ _ refused) (eqb-false _ _ other)))

-- T2 is accepted
pub refuse_everything-fails_refusals : (number : ℕ) → number ≢ 0 → ¬ RefusalsExact (refuse_everything number)
unfolding computed
refuse_everything-fails_refusals number other =
    fails_refusals (refuse_everything number) start (OnSource (source_id 4) Trigger) (ne_eqb number 0 other)

-- core 2 of two
pub core_as_source-fails_refusals : ¬ RefusalsExact core_as_source
unfolding computed
core_as_source-fails_refusals = fails_refusals core_as_source start (OnCore (core_id 2) (SetCorePriority 0)) refl

-- id 33 of 32, with priority 0
pub priority_first-fails_refusals : ¬ RefusalsExact priority_first
unfolding computed
priority_first-fails_refusals = fails_refusals priority_first start (OnSource (source_id 33) (SetSourcePriority 0)) refl

-- 4 in a box, then set to 9
pub sets_under_request-fails_refusals : ¬ RefusalsExact sets_under_request
unfolding computed
sets_under_request-fails_refusals =
    fails_refusals sets_under_request (execute start (OnSource (source_id 4) Trigger)).state (OnSource (source_id 4) (SetSourcePriority 9))
    refl

-- id 33 of 32: source 4 had priority 4, and has 1
pub fresh_when_refused-fails_unchanged : ¬ RefusedUnchanged fresh_when_refused
unfolding computed
fresh_when_refused-fails_unchanged =
    fails_unchanged fresh_when_refused start (OnSource (source_id 33) Trigger) (λ a. (source_at a.state 3).configured) refl refl refl

-- id 33 of 32: 4 cycles
pub always_two_m-fails_unchanged : ¬ RefusedUnchanged always_two_m
unfolding computed
always_two_m-fails_unchanged = fails_unchanged always_two_m start (OnSource (source_id 33) Trigger) (λ a. a.cycles) refl refl refl
