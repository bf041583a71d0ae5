-- `in_place::number_all` meets its contract: the rows are filled from the front. Assumes nothing.
use Rattle.std.proofs.Common.{arith}
use Rattle.in_place.proofs.Numbering.{key_more, rank_more, numbered_all}
use Rattle.in_place.proofs.number_all.Goals as goal

pub loop-k-preserved : goal.loop-k-preserved
loop-k-preserved c = key_more c.loop-k.invariant (omega arith) c.core_at.ensures c.key_at.ensures

pub loop-i-preserved : goal.loop-i-preserved
loop-i-preserved c = rank_more c.loop-i.invariant (omega arith) c.source_at.ensures c.rank_at.ensures

pub returns : goal.returns
returns c = numbered_all c.loop-i.invariant (omega arith) (omega arith)
