-- `vcd_reader::runs::long_code` meets its contract. Assumes nothing.
use mathlib.Core.Path.{refl, sym, ◌∙◌}
use Rattle.std.proofs.Common.{arith}
use Rattle.vcd_reader.specs.Runs.{CodeThere}
use Rattle.vcd_words.proofs.Bytes.{run_separator, run_end}
use Rattle.vcd_reader.proofs.Reaching.{some_if, at_last, code_none, code_more, code_there}
use Rattle.vcd_reader.proofs.runs.long_code.Goals as goal

pub loop-end-init : goal.loop-end-init
loop-end-init c = code_none _ _

pub returns-then-not-is_ascii_graphic : goal.returns-then-not-is_ascii_graphic
returns-then-not-is_ascii_graphic c =
    let l = c.loop-end in
    some_if (CodeThere _ _) _ c.then_some.ensures
    (λ h. code_there _ _ l.code l.end _ l.invariant (sym c.is_end.ensures ∙ c.if-is_end.false)
    (run_separator _ l.end c.loop-end-test.true (sym c.is_separator.ensures ∙ h)) refl)

pub loop-end-preserved : goal.loop-end-preserved
loop-end-preserved c =
    let l = c.loop-end in
    rw (c.in_ok-code.ensures.1, c.from.ensures)
    (code_more _ _ l.code l.end l.invariant c.loop-end-test.true
    (sym c.is_ascii_graphic.ensures.value ∙ c.if-not-is_ascii_graphic.false) (omega (arith, c.in_ok-code.ensures.0)))

pub returns : goal.returns
returns c =
    let l = c.loop-end in
    let some = sym c.is_end.ensures ∙ c.if-is_end.false in
    code_there _ _ l.code l.end _ l.invariant some (run_end _ l.end c.loop-end-test.false)
    (at_last _ _ l.end l.invariant.inside some c.loop-end-test.false l.auto.end-end)
