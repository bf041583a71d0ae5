-- `vcd_writer::lines::put_numeral` meets its contract. The loop's invariant is `DigitsTo`. The measure is what is left of the number.
-- Assumes nothing.
use mathlib.Core.Path.{refl}
use Rattle.vcd_writer.proofs.Numerals.{digits_above, digits_one, digits_end}
use Rattle.vcd_writer.proofs.lines.put_numeral.Goals as goal

pub overflow_sub-at-in-loop-rest : goal.overflow_sub-at-in-loop-rest
overflow_sub-at-in-loop-rest c =
    let l = c.loop-rest in
    digits_above _ _ _ _ _ l.text l.at l.rest l.invariant

pub loop-rest-preserved : goal.loop-rest-preserved
loop-rest-preserved c =
    let l = c.loop-rest in
    digits_one _ _ _ _ _ c.requires.0 l.text _ l.at l.rest l.invariant c.loop-rest-test.true refl

pub overflow_sub-text : goal.overflow_sub-text
overflow_sub-text c =
    let l = c.loop-rest in
    digits_above _ _ _ _ _ l.text l.at l.rest l.invariant

pub overflow_sub-result : goal.overflow_sub-result
overflow_sub-result c =
    let l = c.loop-rest in
    digits_above _ _ _ _ _ l.text l.at l.rest l.invariant

pub returns : goal.returns
returns c =
    let l = c.loop-rest in
    digits_end _ _ _ _ _ c.requires.0 l.text _ l.at l.rest l.invariant c.loop-rest-test.false refl refl
