-- A request's priority isn't its source's under a controller that sets the source of a pending request. Assumes nothing.
use mathlib.Core.Path.{refl, ap}
use mathlib.Core.List.{List, [], ◌∷◌}
use mathlib.Core.Bool.{true≢false}
use native.Mathlib.Omega.{arith}
use borrow.Author.Tests.{eqb-false}
use Rattle.model.specs.declared.Command.{Command}
use Rattle.model.specs.declared.Command.TheVariants.{OnSource}
use Rattle.model.specs.declared.SourceAction.TheVariants.{SetSourcePriority, Trigger}
use Rattle.model.specs.Records.{source_id}
use Rattle.model.specs.Ledger.{is_open}
use Rattle.model.specs.Statements.{PriorityFollowsSource, LedgerFollowsSource}
use Rattle.theorems.specs.Dummies.{sets_under_request}
use Rattle.theorems.proofs.FailsThree.{booked, smallest}

-- a request of 1, its source set to 2
abbrev under_request : List Command
under_request = OnSource (source_id 1) Trigger ∷ OnSource (source_id 1) (SetSourcePriority 2) ∷ []

pub sets_under_request-fails_state : ¬ PriorityFollowsSource sets_under_request
unfolding booked
sets_under_request-fails_state h = eqb-false 1 2 refl (h 1 1 under_request smallest 0 (omega arith) refl)

pub sets_under_request-fails_ledger : ¬ LedgerFollowsSource sets_under_request
unfolding booked
sets_under_request-fails_ledger h =
    eqb-false 1 2 refl (h 1 1 under_request smallest 1 (omega arith) (omega arith) (λ e. true≢false (ap is_open e)))
