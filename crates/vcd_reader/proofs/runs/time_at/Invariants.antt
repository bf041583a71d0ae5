-- `vcd_reader::runs::time_at` meets its contract. The loop's invariant is `TimeTo`. Assumes nothing.
use Rattle.vcd_reader.proofs.Reaching.{TimeTo}
use Rattle.vcd_reader.proofs.runs.time_at.Given as goal

abbrev pub invariant-loop-end : goal.invariant-loop-end
invariant-loop-end l = TimeTo l.text l.from l.time l.end
