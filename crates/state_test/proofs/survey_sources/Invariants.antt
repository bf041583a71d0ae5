-- `state_test::survey_sources` meets its contract. The loop's invariant: every source below i is in range, and `waiting` is the
-- greatest priority of a candidate among them. Assumes nothing.
use Prim.Native.Nat.{ℕ, ◌<◌}
use mathlib.Core.Path.{◌≡◌}
use mathlib.Core.Bool.{true}
use Rattle.layout.specs.Bytes.{state_from}
use Rattle.model.specs.Records.{source_at}
use Rattle.model.specs.WellFormed.{source_in_range}
use Rattle.well_formed.specs.Survey.{greatest_waiting}
use Rattle.state_test.proofs.survey_sources.Given as goal

abbrev pub invariant-loop-i : goal.invariant-loop-i
invariant-loop-i l =
    ((j : ℕ) → j < l.i → source_in_range l.top (source_at (state_from l.state) j) ≡ true) ×
    (l.waiting ≡ greatest_waiting (state_from l.state).sources l.i)
