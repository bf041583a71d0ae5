-- `recording_calls::read_all` meets its contract: a command that is taken has room, and is written behind those before it. Assumes nothing.
use Rattle.std.proofs.Common.{arith}
use Rattle.recording_calls.proofs.Parts.{next_one}
use Rattle.recording_calls.proofs.Reached.{counted_room}
use Rattle.recording_calls.proofs.Commands.{read_room, read_more, read_end}
use Rattle.recording_calls.proofs.read_all.Goals as goal

pub overflow_mul-count : goal.overflow_mul-count
overflow_mul-count c =
    let one = next_one c.next-a.ensures c.in-Some.is c.then_some-next_at.ensures c.in-Some-taken.ensures in
    omega (arith, (read_room c.loop-next_at.invariant.1 one c.requires).2)

pub put_command-requires : goal.put_command-requires
put_command-requires c =
    let one = next_one c.next-a.ensures c.in-Some.is c.then_some-next_at.ensures c.in-Some-taken.ensures in
    (read_room c.loop-next_at.invariant.1 one c.requires).0

pub offset_bounds-times-count : goal.offset_bounds-times-count
offset_bounds-times-count c =
    let one = next_one c.next-a.ensures c.in-Some.is c.then_some-next_at.ensures c.in-Some-taken.ensures in
    omega (arith, (read_room c.loop-next_at.invariant.1 one c.requires).2)

pub bounds-times-count : goal.bounds-times-count
bounds-times-count c =
    let one = next_one c.next-a.ensures c.in-Some.is c.then_some-next_at.ensures c.in-Some-taken.ensures in
    (read_room c.loop-next_at.invariant.1 one c.requires).1

pub overflow_add-count : goal.overflow_add-count
overflow_add-count c =
    let one = next_one c.next-a.ensures c.in-Some.is c.then_some-next_at.ensures c.in-Some-taken.ensures in
    omega (arith, (read_room c.loop-next_at.invariant.1 one c.requires).2)

pub loop-next_at-preserved-in-Some-taken : goal.loop-next_at-preserved-in-Some-taken
loop-next_at-preserved-in-Some-taken c =
    let one = next_one c.next-a.ensures c.in-Some.is c.then_some-next_at.ensures c.in-Some-taken.ensures in
    (grind (arith, c.next-a.ensures.within, c.then_some-next_at.ensures), read_more c.loop-next_at.invariant.1 one c.put_command.ensures)

pub overflow_cast-count : goal.overflow_cast-count
overflow_cast-count c = omega (arith, counted_room c.args.text.now c.loop-next_at.invariant.1.reached)

pub returns : goal.returns
returns c = read_end {r = c.loop-next_at.reader} c.requires c.loop-next_at.invariant.1 (rw c.in_default.is) c.report_of.ensures
