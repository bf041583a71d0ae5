-- `vcd_reader::skipping::comment` meets its contract. Assumes nothing.
use mathlib.Core.Path.{refl, sym}
use Rattle.recording.specs.declared.Place.TheVariants.{Body, SkipBody}
use Rattle.recording.specs.Words.{is_text}
use Rattle.vcd_reader.proofs.Passing.{reads_comment, skips_body, some_word, passed_by, passed_ok}
use Rattle.vcd_reader.proofs.skipping.comment.Goals as goal

pub returns : goal.returns
returns c =
    let s = c.in_ok-first.ensures in
    let told = sym s.found in
    passed_ok _ c.ok.ensures.value c.to_end.ensures
    (passed_by _ _ Body SkipBody (skips_body SkipBody refl) (some_word (is_text "$comment") _ told refl)
    (λ r pl good. reads_comment r _ _ good pl told) _ s.end)
