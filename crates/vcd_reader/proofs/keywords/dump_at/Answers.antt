-- `vcd_reader::keywords::dump_at` meets its contract: each spelling is one of those that `opens_block` tells. Assumes nothing.
use Rattle.std.proofs.Common.{rules}
use Rattle.vcd_reader.proofs.Spelling.{told_by}
use Rattle.vcd_reader.proofs.keywords.dump_at.Goals as goal

pub returns : goal.returns
returns c = search (rules, told_by)
