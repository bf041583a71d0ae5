-- The invariant of the loop of `source_steps::boxed`: no box of the first k cores holds the request. Assumes nothing.
use mathlib.Core.Path.{◌≡◌}
use mathlib.Core.Bool.{false}
use Rattle.model.specs.Requests.{boxed}
use Rattle.layout.specs.Bytes.{state_from}
use Rattle.source_steps.proofs.boxed.Given as goal

abbrev pub invariant-loop-k : goal.invariant-loop-k
invariant-loop-k l = boxed (state_from l.state).cores l.k l.id.0 ≡ false
