-- `vcd_words::marks::are_printable` meets its contract. Assumes nothing.
use mathlib.Core.Path.{◌≡◌}
use mathlib.Core.Bool.{true, false}
use borrow.Author.Tests.{tests}
use Rattle.std.proofs.Common.{rules}
use Rattle.std.proofs.lemmas.Iterator.{cases_from_all, YieldsList-from_slice}
use Rattle.lists.specs.Numbers.{between}
use Rattle.vcd_words.proofs.Codes.{all_told}
use Rattle.vcd_words.proofs.marks.are_printable.Goals as goal

pub returns : goal.returns
returns c =
    all_told (between 33 126) c.all.result c.args.bytes.now
    (cases_from_all _ _ _ (λ b. between 33 126 b ≡ true) (λ b. between 33 126 b ≡ false) c.all.ensures.ran
    (YieldsList-from_slice c.args.bytes.now cc) (λ x q k. search (rules, tests)) (λ x q k. search (rules, tests)))
