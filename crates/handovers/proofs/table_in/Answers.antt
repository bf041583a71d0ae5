-- `handovers::table_in` meets its contract: the words are cut into the table's rows. Assumes nothing.
use Rattle.std.proofs.Common.{◌∙◌}
use Rattle.handovers.proofs.Table.{rows_read}
use Rattle.handovers.proofs.table_in.Goals as goal

pub returns : goal.returns
returns c = rows_read c.args.words.now c.requires (c.copy_from_slice.ensures.after ∙ c.as_chunks.ensures.front)
