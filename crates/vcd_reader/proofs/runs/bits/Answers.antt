-- `vcd_reader::runs::bits` meets its contract. Assumes nothing.
use mathlib.Core.Path.{refl, sym, ◌∙◌}
use Rattle.vcd_reader.specs.Runs.{BitsThere}
use Rattle.vcd_words.proofs.Bytes.{run_separator, run_end}
use Rattle.vcd_reader.proofs.Reaching.{some_if, at_last, bits_more, bits_there}
use Rattle.vcd_reader.proofs.runs.bits.Goals as goal

pub returns-then-not-is_bit : goal.returns-then-not-is_bit
returns-then-not-is_bit c =
    let l = c.loop-end in
    some_if (BitsThere _ _) _ c.then_some.ensures
    (λ h. bits_there _ _ l.number l.end _ l.invariant (sym c.is_end.ensures ∙ c.if-is_end.false)
    (run_separator _ l.end c.loop-end-test.true (sym c.is_separator.ensures ∙ h)) refl)

pub loop-end-preserved : goal.loop-end-preserved
loop-end-preserved c =
    let l = c.loop-end in
    rw c.with_known_bit-number.ensures
    (bits_more _ _ l.number l.end l.invariant c.loop-end-test.true (sym c.is_bit.ensures ∙ c.if-not-is_bit.false))

pub returns : goal.returns
returns c =
    let l = c.loop-end in
    let some = sym c.is_end.ensures ∙ c.if-is_end.false in
    bits_there _ _ l.number l.end _ l.invariant some (run_end _ l.end c.loop-end-test.false)
    (at_last _ _ l.end l.invariant.inside some c.loop-end-test.false l.auto.end-end)
