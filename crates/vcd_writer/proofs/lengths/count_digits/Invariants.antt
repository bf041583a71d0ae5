-- `vcd_writer::lengths::count_digits` meets its contract. The loop's invariant is `CountedTo`. The measure is what is left of the number.
-- Assumes nothing.
use Rattle.vcd_writer.proofs.Numerals.{CountedTo}
use Rattle.vcd_writer.proofs.lengths.count_digits.Given as goal

abbrev pub invariant-loop-rest : goal.invariant-loop-rest
invariant-loop-rest l = CountedTo l.base l.x l.n l.rest

abbrev pub decreases-loop-rest : goal.decreases-loop-rest
decreases-loop-rest l = l.rest
