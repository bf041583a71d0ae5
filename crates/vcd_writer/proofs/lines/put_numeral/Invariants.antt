-- `vcd_writer::lines::put_numeral` meets its contract. The loop's invariant is `DigitsTo`. The measure is what is left of the number.
-- Assumes nothing.
use Rattle.vcd_writer.proofs.Numerals.{DigitsTo}
use Rattle.vcd_writer.proofs.lines.put_numeral.Given as goal

abbrev pub invariant-loop-rest : goal.invariant-loop-rest
invariant-loop-rest l = DigitsTo l.base l.x l.mark l.initial.text l.end l.text l.at l.rest

abbrev pub decreases-loop-rest : goal.decreases-loop-rest
decreases-loop-rest l = l.rest
