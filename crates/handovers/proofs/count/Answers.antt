-- `handovers::count` meets its contract: each test decides the one that `counted` makes. Assumes nothing.
use Rattle.std.proofs.Common.{arith}
use Rattle.handovers.proofs.Counted.{no_core, same_core, other_core}
use Rattle.handovers.proofs.count.Goals as goal

pub returns-then-row-column : goal.returns-then-row-column
returns-then-row-column c = other_core c.args.table c.args.to.0 c.in-Some.is c.if-row-column.true (omega arith) (omega arith)

pub returns-else-row-column : goal.returns-else-row-column
returns-else-row-column c = same_core c.args.table c.args.to.0 c.in-Some.is c.if-row-column.false

pub returns-in_default : goal.returns-in_default
returns-in_default c = no_core c.args.table c.args.to.0 c.in_default.is
