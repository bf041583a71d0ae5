-- `vcd_words::marks::time` meets its contract. Assumes nothing.
use Rattle.std.proofs.Common.{arith}
use Rattle.std.proofs.lemmas.Grind.{common_steps}
use Rattle.vcd_words.proofs.Telling.{time_told}
use Rattle.vcd_words.proofs.marks.time.Goals as goal

pub returns-in-Some-Decimal : goal.returns-in-Some-Decimal
returns-in-Some-Decimal c = λ w k s. grind (arith, common_steps, time_told k s)

pub returns-in_default : goal.returns-in_default
returns-in_default c = λ w k s. grind (arith, common_steps, time_told k s)

pub returns-in_default-2 : goal.returns-in_default-2
returns-in_default-2 c = λ w k s. grind (arith, common_steps, time_told k s)

pub returns-in_default-3 : goal.returns-in_default-3
returns-in_default-3 c = λ w k s. grind (arith, common_steps, time_told k s)
