-- `vcd_reader::runs::code_at` meets its contract. Assumes nothing.
use mathlib.Core.Path.{sym, ◌∙◌}
use Rattle.vcd_reader.proofs.Reaching.{over, one_code}
use Rattle.vcd_reader.proofs.runs.code_at.Goals as goal

pub returns-then-is_end : goal.returns-then-is_end
returns-then-is_end c =
    one_code _ _ _ c.from.ensures c.if-from-text.false
    (sym c.is_ascii_graphic.ensures.value ∙ c.if-not-is_ascii_graphic.false) (over _ c.is_end.ensures c.if-is_end.true)
