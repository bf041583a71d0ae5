-- `routine_test::sound` meets its contract: each loop keeps that the cores, or the sources, passed stand as the test asks.
-- Assumes nothing.
use Prim.Native.Nat.{ℕ, ◌<◌}
use mathlib.Core.Path.{◌≡◌}
use mathlib.Core.Bool.{true}
use Rattle.routines.specs.Calls.{routines_in}
use Rattle.routine_test.specs.Standing.{core_stands, source_stands}
use Rattle.routine_test.proofs.sound.Given as goal

abbrev pub invariant-loop-k : goal.invariant-loop-k
invariant-loop-k l = (j : ℕ) → j < l.k → core_stands (routines_in l.state l.active l.holder) j ≡ true

abbrev pub invariant-loop-i : goal.invariant-loop-i
invariant-loop-i l = (j : ℕ) → j < l.i → source_stands (routines_in l.state l.active l.holder) j ≡ true
