-- `recording_calls::read_all` meets its contract. The loop's invariant is `ReadTo`: as many commands as are counted stand in the two
-- buffers, and with those to come they are the whole text's. The measure is `due`. Assumes nothing.
use Rattle.recording_calls.specs.Remaining.{to_come}
use Rattle.recording_calls.proofs.Parts.{Inside, due}
use Rattle.recording_calls.proofs.Commands.{ReadTo}
use Rattle.recording_calls.proofs.read_all.Given as goal

abbrev pub invariant-loop-next_at : goal.invariant-loop-next_at
invariant-loop-next_at l =
    Inside l.text l.next_at ×
    ReadTo l.text l.initial.commands l.initial.times l.commands l.times l.count (to_come l.text l.next_at l.reader)

abbrev pub decreases-loop-next_at : goal.decreases-loop-next_at
decreases-loop-next_at l = due l.text l.next_at
