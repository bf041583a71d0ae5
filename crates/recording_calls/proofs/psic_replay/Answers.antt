-- `recording_calls::psic_replay` meets its contract: its tests are `fits_replay`. Assumes nothing.
use mathlib.Core.Path.{◌≡◌}
use mathlib.Core.Bool.{false}
use Rattle.std.proofs.Common.{arith}
use Rattle.recording.specs.Calls.{fits_replay}
use Rattle.recording_calls.proofs.Answers.{no_state, no_answers, replay_unfit}
use Rattle.recording_calls.proofs.psic_replay.Goals as goal
use Rattle.recording_calls.proofs.psic_replay.Goals.{then-state-ne-STATE_SIZE-via-then-state-ne-STATE_SIZE}
use Rattle.recording_calls.proofs.psic_replay.Goals.{then-state-ne-STATE_SIZE-via-else-state-ne-STATE_SIZE+then-answers-room}

pub returns-then-state-ne-STATE_SIZE : goal.returns-then-state-ne-STATE_SIZE
returns-then-state-ne-STATE_SIZE c =
    let a = c.args in
    let unfit : fits_replay a.text.now a.state.now a.answers.now ≡ false = elim c.then-state-ne-STATE_SIZE.branch [
      | then-state-ne-STATE_SIZE-via-then-state-ne-STATE_SIZE w ↦
          no_state a.text.now a.state.now a.answers.now w.if-state-ne-STATE_SIZE.true
      | then-state-ne-STATE_SIZE-via-else-state-ne-STATE_SIZE+then-answers-room w ↦
          no_answers a.text.now a.state.now a.answers.now (omega arith)
    ] in
    replay_unfit a.text.now a.state.now a.answers.now a.n a.m c.no_room.result c.no_room.ensures unfit
