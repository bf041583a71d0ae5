-- `vcd_reader::runs::time_at` meets its contract. Assumes nothing.
use mathlib.Core.Path.{refl, sym, ◌∙◌}
use Rattle.vcd_reader.specs.Runs.{TimeThere}
use Rattle.vcd_words.proofs.Bytes.{run_separator, run_end}
use Rattle.vcd_reader.proofs.Reaching.{some_if, at_last, time_there}
use Rattle.vcd_reader.proofs.runs.time_at.Goals as goal

pub returns-then-not-is_ascii_digit : goal.returns-then-not-is_ascii_digit
returns-then-not-is_ascii_digit c =
    let l = c.loop-end in
    some_if (TimeThere _ _) _ c.then_some.ensures
    (λ h. time_there _ _ l.time l.end _ l.invariant (sym c.is_end.ensures ∙ c.if-is_end.false)
    (run_separator _ l.end c.loop-end-test.true (sym c.is_separator.ensures ∙ h)) refl)

pub returns : goal.returns
returns c =
    let l = c.loop-end in
    let some = sym c.is_end.ensures ∙ c.if-is_end.false in
    time_there _ _ l.time l.end _ l.invariant some (run_end _ l.end c.loop-end-test.false)
    (at_last _ _ l.end l.invariant.inside some c.loop-end-test.false l.auto.end-end)
