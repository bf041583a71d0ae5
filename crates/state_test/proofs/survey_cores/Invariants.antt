-- `state_test::survey_cores` meets its contract. The loop's invariant: the cores below k are sound, `seen` marks the sources in
-- their boxes, and the survey is what they show. Each early answer is refuted by what sound cores have there. Assumes nothing.
use mathlib.Core.Path.{◌≡◌}
use Rattle.layout.specs.Bytes.{state_from}
use Rattle.well_formed.specs.Loops.{cores_to}
use Rattle.well_formed.proofs.Marks.{Boxes}
use Rattle.state_test.proofs.survey_cores.Given as goal

abbrev pub invariant-loop-k : goal.invariant-loop-k
invariant-loop-k l = Boxes (state_from l.state) l.seen l.k × (l.v ≡ cores_to (state_from l.state).cores l.k)
