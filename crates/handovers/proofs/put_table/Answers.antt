-- `handovers::put_table` meets its contract: the table's rows are laid one behind the other. Assumes nothing.
use Rattle.std.proofs.Common.{◌∙◌}
use Rattle.handovers.proofs.Table.{rows_laid}
use Rattle.handovers.proofs.put_table.Goals as goal

pub returns : goal.returns
returns c = c.copy_from_slice.ensures.after ∙ c.as_flattened.ensures.value ∙ rows_laid c.args.t
