-- `vcd_words::words::vector_code` meets its contract. Assumes nothing.
use mathlib.Core.Path.{sym, ◌∙◌}
use borrow.Author.Tests.{le-leb, lt-leb}
use Rattle.recording.specs.Reading.{read_vector_code}
use Rattle.vcd_words.proofs.Telling.{ends_word}
use Rattle.vcd_words.proofs.words.vector_code.Goals.{in_default-via-in-Some+else-given-variable, in_default-via-in_default}
use Rattle.vcd_words.proofs.words.vector_code.Goals as goal

pub returns-in-Some : goal.returns-in-Some
unfolding read_vector_code
returns-in-Some c =
    λ w k.
    let signal = sym (c.coded.ensures w (c.code_of.ensures w (ends_word k))) ∙ c.in-Some.is in
    rw (
      c.at.ensures,
      c.with_value.ensures,
      signal,
      ← c.variable.ensures,
      le-leb _ _ c.if-given-variable.true,
    )

pub returns-in_default : goal.returns-in_default
unfolding read_vector_code
returns-in_default c =
    λ w k.
    let signal = sym (c.coded.ensures w (c.code_of.ensures w (ends_word k))) in
    elim c.in_default.branch [
      | in_default-via-in-Some+else-given-variable v ↦
          rw (c.misread.ensures, signal ∙ v.in-Some.is, ← v.variable.ensures, lt-leb _ _ v.if-given-variable.false)
      | in_default-via-in_default v ↦ rw (c.misread.ensures, signal ∙ v.in_default.is)
    ]
