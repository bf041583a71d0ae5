-- `vcd_writer::lines::put_command` meets its contract: each part is put before those behind it. Assumes nothing.
use Prim.Native.Nat.{suc}
use native.Mathlib.Numerals.{add-one}
use Rattle.recording.specs.Writing.{time_line, strobe_line}
use Rattle.vcd_writer.specs.Lines.{value_of, value_lines, lines_of}
use Rattle.vcd_writer.proofs.Putting.{put_before, room_first}
use Rattle.vcd_writer.proofs.Parts.{from_next, from_up, from_values, values_left, up_left, next_left, down_left}
use Rattle.vcd_writer.proofs.lines.put_command.Goals as goal

pub put_ending-down-requires : goal.put_ending-down-requires
put_ending-down-requires c =
    let values = value_of c.args.numbers in
    down_left c.args.time values c.requires.1

pub put_time-next-requires : goal.put_time-next-requires
put_time-next-requires c =
    let values = value_of c.args.numbers in
    let left = next_left c.args.time values c.requires.1 in
    rw add-one (room_first (time_line (suc c.args.time)) (strobe_line 0) left c.put_ending-down.ensures)

pub put_ending-up-requires : goal.put_ending-up-requires
put_ending-up-requires c =
    let values = value_of c.args.numbers in
    let left = up_left c.args.time values c.requires.1 in
    let next = put_before c.put_ending-down.ensures (rw add-one at c.put_time-next.ensures) in
    room_first (strobe_line 1) (from_next c.args.time values) left next

pub put_values-values-requires : goal.put_values-values-requires
put_values-values-requires c =
    let values = value_of c.args.numbers in
    let left = values_left c.args.time values c.requires.1 in
    let next = put_before c.put_ending-down.ensures (rw add-one at c.put_time-next.ensures) in
    let up = put_before next c.put_ending-up.ensures in
    room_first (value_lines values) (from_up c.args.time values) left up

pub put_time-requires : goal.put_time-requires
unfolding lines_of
put_time-requires c =
    let values = value_of c.args.numbers in
    let next = put_before c.put_ending-down.ensures (rw add-one at c.put_time-next.ensures) in
    let up = put_before next c.put_ending-up.ensures in
    let vals = put_before up c.put_values-values.ensures in
    room_first (time_line c.args.time) (from_values c.args.time values) c.requires.1 vals

pub returns : goal.returns
unfolding lines_of
returns c =
    let next = put_before c.put_ending-down.ensures (rw add-one at c.put_time-next.ensures) in
    let up = put_before next c.put_ending-up.ensures in
    let vals = put_before up c.put_values-values.ensures in
    put_before vals c.put_time.ensures
