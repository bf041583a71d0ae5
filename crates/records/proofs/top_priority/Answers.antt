-- The shift by 17 less the leading zeros is the power. Assumes nothing.
use Rattle.std.proofs.Common.{arith}
use Rattle.model.proofs.Priorities.{top_none, top_shifted}
use Rattle.records.proofs.top_priority.Goals as goal

pub returns-then-n-eq0 : goal.returns-then-n-eq0
returns-then-n-eq0 c = top_none c.args.n c.if-n-eq0.true

pub returns : goal.returns
returns c = top_shifted c.args.n (omega arith) (omega arith)
