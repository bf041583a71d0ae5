-- `state_test::spare_cores` meets its contract. The loop's invariant: every spare core below k is reset. Assumes nothing.
use mathlib.Core.Path.{◌≡◌}
use mathlib.Core.Bool.{true}
use Rattle.lists.specs.Walks.{every}
use Rattle.layout.specs.Bytes.{state_from}
use Rattle.well_formed.specs.Loops.{spare_core}
use Rattle.state_test.proofs.spare_cores.Given as goal

abbrev pub invariant-loop-k : goal.invariant-loop-k
invariant-loop-k l = true ≡ every l.k (spare_core (state_from l.state).cores l.m)
