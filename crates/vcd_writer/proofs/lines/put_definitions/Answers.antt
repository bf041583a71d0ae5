-- `vcd_writer::lines::put_definitions` meets its contract: the bytes in the source are those of the definitions, computed. Assumes nothing.
use Rattle.std.proofs.Common.{sym, arith, length-take}
use Rattle.std.proofs.lemmas.List.Edits.{sets-eq}
use Rattle.lists.specs.Rows.{joined}
use Rattle.recording.specs.Declarations.{narrow}
use Rattle.recording.specs.Writing.{digits, definition_text}
use Rattle.vcd_writer.proofs.lines.put_definitions.Goals as goal

pub slice_bounds-copy_from_slice-end-2 : goal.slice_bounds-copy_from_slice-end-2
unfolding definition_text joined digits
slice_bounds-copy_from_slice-end-2 c = c.requires

pub slice_bounds-copy_from_slice-end-3 : goal.slice_bounds-copy_from_slice-end-3
unfolding definition_text joined digits
slice_bounds-copy_from_slice-end-3 c = omega (arith, length-take 197 c.args.text.now, c.requires)

pub copy_from_slice-requires : goal.copy_from_slice-requires
unfolding definition_text joined digits
copy_from_slice-requires c = omega (arith, length-take 197 c.args.text.now, c.requires)

pub returns : goal.returns
unfolding definition_text joined digits
returns c = rw c.copy_from_slice.ensures.after (sym (sets-eq (definition_text narrow) c.args.text.now 0 c.requires))
