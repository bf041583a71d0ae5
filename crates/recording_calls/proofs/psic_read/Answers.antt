-- `recording_calls::psic_read` meets its contract: its tests are `fits_read`. Assumes nothing.
use mathlib.Core.Path.{◌≡◌}
use mathlib.Core.Bool.{false}
use Rattle.std.proofs.Common.{arith}
use Rattle.recording.specs.Calls.{fits_read}
use Rattle.recording_calls.proofs.Commands.{no_commands, no_times, read_unfit}
use Rattle.recording_calls.proofs.psic_read.Goals as goal
use Rattle.recording_calls.proofs.psic_read.Goals.{then-commands-most-via-then-commands-most, then-commands-most-via-else-commands-most+then-times-most}

pub returns-then-commands-most : goal.returns-then-commands-most
returns-then-commands-most c =
    let a = c.args in
    let unfit : fits_read a.text.now a.commands.now a.times.now ≡ false = elim c.then-commands-most.branch [
      | then-commands-most-via-then-commands-most w ↦ no_commands a.text.now a.commands.now a.times.now (omega arith)
      | then-commands-most-via-else-commands-most+then-times-most w ↦ no_times a.text.now a.commands.now a.times.now (omega arith)
    ] in
    read_unfit a.text.now a.commands.now a.times.now c.no_room.result c.no_room.ensures unfit
