-- `vcd_writer::text_length` meets its contract. The loop's invariant is `MeasuredTo`. Assumes nothing.
use Rattle.vcd_writer.proofs.Texts.{MeasuredTo}
use Rattle.vcd_writer.proofs.text_length.Given as goal

abbrev pub invariant-loop-k : goal.invariant-loop-k
invariant-loop-k l = MeasuredTo l.list l.k l.sum
