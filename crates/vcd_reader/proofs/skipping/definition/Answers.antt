-- `vcd_reader::skipping::definition` meets its contract. Assumes nothing.
use mathlib.Core.Path.{refl}
use Rattle.recording.specs.declared.Place.TheVariants.{Definition, SkipDefinition}
use Rattle.recording.specs.Reading.{is_skipped}
use Rattle.vcd_reader.proofs.Passing.{reads_skipped, skips_definition, some_word, passed_by, passed_ok}
use Rattle.vcd_reader.proofs.skipping.definition.Goals as goal

pub returns : goal.returns
returns c =
    let told = c.in_ok-first.ensures in
    passed_ok _ c.ok.ensures.value c.to_end.ensures
    (passed_by _ _ Definition SkipDefinition (skips_definition SkipDefinition refl) (some_word is_skipped _ told.passes refl)
    (λ r pl good. reads_skipped r _ _ good pl told.passes) _ told.end)
