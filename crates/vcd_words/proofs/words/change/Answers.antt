-- `vcd_words::words::change` meets its contract. Assumes nothing.
use mathlib.Core.Path.{sym, ◌∙◌}
use Rattle.recording.specs.Reading.{is_vector, read_change}
use Rattle.vcd_words.proofs.Keeping.{kept_first}
use Rattle.vcd_words.proofs.Telling.{none_told}
use Rattle.vcd_words.proofs.words.change.Goals as goal

pub returns-then-is_scalar : goal.returns-then-is_scalar
unfolding read_change
returns-then-is_scalar c =
    λ w k.
    rw (
      c.at-then-is_scalar.ensures,
      c.with_value.ensures,
      c.bit_value-level.ensures,
      none_told (is_vector w) _ (sym c.in_default.is ∙ c.vector.ensures w k),
      sym (c.is_scalar.ensures w k) ∙ c.if-is_scalar.true,
      kept_first k,
    )
