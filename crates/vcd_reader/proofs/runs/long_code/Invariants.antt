-- `vcd_reader::runs::long_code` meets its contract. The loop's invariant is `CodeTo`. Assumes nothing.
use Rattle.vcd_reader.proofs.Reaching.{CodeTo}
use Rattle.vcd_reader.proofs.runs.long_code.Given as goal

abbrev pub invariant-loop-end : goal.invariant-loop-end
invariant-loop-end l = CodeTo l.text l.from l.code l.end
