-- `vcd_reader::skipping::turn` meets its contract. Assumes nothing.
use mathlib.Core.Path.{refl, sym, ap, ◌∙◌}
use mathlib.Core.Bool.{true, false}
use Rattle.recording.specs.Words.{is_text}
use Rattle.vcd_reader.specs.Skipping.{opens_block, change_place}
use Rattle.vcd_reader.proofs.Passing.{some_word, reads_end, reads_dump, turns_by, turns_comment}
use Rattle.vcd_reader.proofs.skipping.turn.Goals as goal

pub returns-then-block : goal.returns-then-block
returns-then-block c =
    let s = c.in_ok-end.ensures in
    turns_by _ _ _ _ false (some_word (is_text "$end") _ (sym s.found) refl) s.end
    (λ r pl good. reads_end r _ _ good (pl ∙ ap change_place c.if-block.true) (sym s.found))

pub returns-in-Some : goal.returns-in-Some
returns-in-Some c = turns_comment _ _ _ c.if-block.false _ c.in-Some.ensures

pub returns : goal.returns
returns c =
    let d = c.in_ok-end-2.ensures in
    turns_by _ _ _ _ true (some_word opens_block _ d.passes refl) d.end
    (λ r pl good. reads_dump r _ _ good (pl ∙ ap change_place c.if-block.false) d.passes)
