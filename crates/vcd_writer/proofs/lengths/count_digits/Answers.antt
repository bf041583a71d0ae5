-- `vcd_writer::lengths::count_digits` meets its contract. The loop's invariant is `CountedTo`. The measure is what is left of the number.
-- Assumes nothing.
use Rattle.std.proofs.Common.{arith}
use Rattle.recording.proofs.Digits.{digits_length_le}
use Rattle.vcd_writer.proofs.Numerals.{counted_le, counted_one, counted_end}
use Rattle.vcd_writer.proofs.lengths.count_digits.Goals as goal

pub overflow_add-n : goal.overflow_add-n
overflow_add-n c =
    let l = c.loop-rest in
    omega (arith, counted_le _ _ c.requires l.n l.rest l.invariant, c.ranges.x)

pub loop-rest-preserved : goal.loop-rest-preserved
loop-rest-preserved c =
    let l = c.loop-rest in
    counted_one _ _ c.requires l.n l.rest l.invariant c.loop-rest-test.true

pub returns : goal.returns
returns c =
    let l = c.loop-rest in
    let n_is = counted_end _ _ c.requires l.n l.rest l.invariant c.loop-rest-test.false in
    (n_is, omega (arith, n_is, digits_length_le c.args.base c.args.x))
