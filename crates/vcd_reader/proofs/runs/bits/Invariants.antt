-- `vcd_reader::runs::bits` meets its contract. The loop's invariant is `BitsTo`. Assumes nothing.
use Rattle.vcd_reader.proofs.Reaching.{BitsTo}
use Rattle.vcd_reader.proofs.runs.bits.Given as goal

abbrev pub invariant-loop-end : goal.invariant-loop-end
invariant-loop-end l = BitsTo l.text l.from l.number l.end
