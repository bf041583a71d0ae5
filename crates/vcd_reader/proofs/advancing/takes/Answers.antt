-- `vcd_reader::advancing::takes` meets its contract. Assumes nothing.
use mathlib.Core.Path.{sym, ◌∙◌}
use Rattle.std.proofs.Common.{arith}
use Rattle.vcd_reader.proofs.Changing.{takes_all}
use Rattle.vcd_reader.proofs.advancing.takes.Goals as goal

pub returns-then-r-lt65535 : goal.returns-then-r-lt65535
returns-then-r-lt65535 c =
    λ e.
    takes_all _ _ (grind arith) (grind arith) (grind arith) (grind arith) (grind arith) (grind arith)
    (sym c.is_readable.ensures ∙ e)
