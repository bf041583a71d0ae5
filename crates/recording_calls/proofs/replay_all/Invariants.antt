-- `recording_calls::replay_all` meets its contract. The loop's invariant is `ReplayedTo`: as many commands as are counted are run and
-- answered, and those to come end as the whole text's do from the start; and the state in the bytes can go on. The measure is `due`.
-- Assumes nothing.
use Rattle.model.specs.Records.{reset}
use Rattle.layout.specs.Bytes.{state_from}
use Rattle.steps.specs.Going.{Going}
use Rattle.recording_calls.specs.Remaining.{to_come}
use Rattle.recording_calls.proofs.Parts.{Inside, due}
use Rattle.recording_calls.proofs.Answers.{ReplayedTo}
use Rattle.recording_calls.proofs.replay_all.Given as goal

abbrev pub invariant-loop-next_at : goal.invariant-loop-next_at
invariant-loop-next_at l =
    Inside l.text l.next_at ×
    ReplayedTo l.text l.initial.answers (reset l.n l.m) l.answers (state_from l.state) l.count (to_come l.text l.next_at l.reader) ×
    Going l.ranking l.state

abbrev pub decreases-loop-next_at : goal.decreases-loop-next_at
decreases-loop-next_at l = due l.text l.next_at
