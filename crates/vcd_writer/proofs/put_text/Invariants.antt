-- `vcd_writer::put_text` meets its contract. The loop's invariant is `WrittenFrom`. Assumes nothing.
use Rattle.vcd_writer.proofs.Texts.{WrittenFrom}
use Rattle.vcd_writer.proofs.put_text.Given as goal

abbrev pub invariant-loop-k : goal.invariant-loop-k
invariant-loop-k l = WrittenFrom l.list l.count l.initial.text l.text l.k l.end
