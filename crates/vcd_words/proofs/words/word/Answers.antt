-- `vcd_words::words::word` meets its contract. Assumes nothing.
use Rattle.std.proofs.Common.{arith}
use Rattle.std.proofs.lemmas.Grind.{common_steps}
use Rattle.recording.specs.Reading.{read_at, read_word}
use Rattle.vcd_words.proofs.words.word.Goals as goal

pub returns-in-SkipDefinition : goal.returns-in-SkipDefinition
unfolding read_word read_at
returns-in-SkipDefinition c = λ w k. let h = c.skipping.ensures c.args.at w k in grind (arith, common_steps)

pub returns-in-SkipBody : goal.returns-in-SkipBody
unfolding read_word read_at
returns-in-SkipBody c = λ w k. let h = c.skipping-in-SkipBody.ensures c.args.at w k in grind (arith, common_steps)
