-- `recording_calls::taken` meets its contract. Assumes nothing.
use Rattle.recording.specs.Stamps.{commands_of}
use Rattle.recording_calls.proofs.taken.Goals as goal

pub returns-in_err-s : goal.returns-in_err-s
unfolding commands_of
returns-in_err-s c = rw (c.in_err-s.was, c.from_residual.ensures)

pub returns : goal.returns
unfolding commands_of
returns c = rw (c.in_ok-s.was, c.command.ensures)
