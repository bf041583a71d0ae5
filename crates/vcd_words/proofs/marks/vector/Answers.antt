-- `vcd_words::marks::vector` meets its contract. Assumes nothing.
use Rattle.std.proofs.Common.{arith}
use Rattle.std.proofs.lemmas.Grind.{common_steps}
use Rattle.vcd_words.proofs.Telling.{vector_told}
use Rattle.vcd_words.proofs.marks.vector.Goals as goal

pub returns-in-Some-Binary : goal.returns-in-Some-Binary
returns-in-Some-Binary c = λ w k. grind (arith, common_steps, vector_told k)

pub returns-in_default : goal.returns-in_default
returns-in_default c = λ w k. grind (arith, common_steps, vector_told k)

pub returns-in_default-2 : goal.returns-in_default-2
returns-in_default-2 c = λ w k. grind (arith, common_steps, vector_told k)

pub returns-in_default-3 : goal.returns-in_default-3
returns-in_default-3 c = λ w k. grind (arith, common_steps, vector_told k)
