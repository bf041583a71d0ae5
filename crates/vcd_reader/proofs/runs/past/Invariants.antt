-- `vcd_reader::runs::past` meets its contract. The loop's invariant is `Within`. Assumes nothing.
use Rattle.vcd_reader.proofs.Reaching.{Within}
use Rattle.vcd_reader.proofs.runs.past.Given as goal

abbrev pub invariant-loop-i : goal.invariant-loop-i
invariant-loop-i l = Within l.text l.from l.i
