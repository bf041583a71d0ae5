-- `vcd_writer::lines::put_values` meets its contract: each vector is put before those behind it. Assumes nothing.
use mathlib.Core.Path.{refl}
use Rattle.lists.specs.Rows.{joined}
use Rattle.vcd_writer.specs.Lines.{value_of, value_lines}
use Rattle.vcd_writer.proofs.Putting.{put_none}
use Rattle.vcd_writer.proofs.Parts.{value_room, value_put, prio_left, arg_left, core_left}
use Rattle.vcd_writer.proofs.lines.put_values.Goals as goal

pub put_vector-prio-requires : goal.put_vector-prio-requires
put_vector-prio-requires c =
    let values = value_of c.args.numbers in
    value_room 37 c.prio.ensures put_none (prio_left values c.requires)

pub put_vector-arg-requires : goal.put_vector-arg-requires
put_vector-arg-requires c =
    let values = value_of c.args.numbers in
    let prio = value_put 37 c.prio.ensures put_none c.put_vector-prio.ensures in
    value_room 36 c.arg.ensures prio (arg_left values c.requires)

pub put_vector-core-requires : goal.put_vector-core-requires
put_vector-core-requires c =
    let values = value_of c.args.numbers in
    let prio = value_put 37 c.prio.ensures put_none c.put_vector-prio.ensures in
    let arg = value_put 36 c.arg.ensures prio c.put_vector-arg.ensures in
    value_room 35 c.core.ensures arg (core_left values c.requires)

pub put_vector-requires : goal.put_vector-requires
unfolding value_lines joined
put_vector-requires c =
    let prio = value_put 37 c.prio.ensures put_none c.put_vector-prio.ensures in
    let arg = value_put 36 c.arg.ensures prio c.put_vector-arg.ensures in
    let core = value_put 35 c.core.ensures arg c.put_vector-core.ensures in
    value_room 34 refl core c.requires

pub returns : goal.returns
unfolding value_lines joined
returns c =
    let prio = value_put 37 c.prio.ensures put_none c.put_vector-prio.ensures in
    let arg = value_put 36 c.arg.ensures prio c.put_vector-arg.ensures in
    let core = value_put 35 c.core.ensures arg c.put_vector-core.ensures in
    value_put 34 refl core c.put_vector.ensures
