-- `state_test::spare_sources` meets its contract. The loop's invariant: every spare source below i is reset. Assumes nothing.
use mathlib.Core.Path.{◌≡◌}
use mathlib.Core.Bool.{true}
use Rattle.lists.specs.Walks.{every}
use Rattle.layout.specs.Bytes.{state_from}
use Rattle.well_formed.specs.Loops.{spare_source}
use Rattle.state_test.proofs.spare_sources.Given as goal

abbrev pub invariant-loop-i : goal.invariant-loop-i
invariant-loop-i l = true ≡ every l.i (spare_source (state_from l.state).sources l.n)
