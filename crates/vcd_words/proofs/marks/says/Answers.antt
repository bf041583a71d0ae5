-- `vcd_words::marks::says` meets its contract. Assumes nothing.
use mathlib.Core.Path.{◌∙◌}
use Rattle.vcd_words.proofs.Keeping.{said}
use Rattle.vcd_words.proofs.marks.says.Goals as goal

pub returns : goal.returns
returns c = λ w k. c.eq.ensures ∙ said k c.args.k c.spelling.ensures
