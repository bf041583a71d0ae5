-- `vcd_writer::all_fit` meets its contract: each command is tested. Assumes nothing.
use Rattle.std.proofs.Common.{refl, rules, ◌∙◌, arith}
use Rattle.std.proofs.lemmas.Iterator.{YieldsList-from_range}
use Rattle.std.proofs.lemmas.Iterator.Search.{all_from_yields_List}
use Rattle.decoding.proofs.Flags.{every_all}
use borrow.Author.Tests.{tests}
use Rattle.vcd_writer.specs.Lines.{fits_at}
use Rattle.vcd_writer.proofs.all_fit.Goals as goal

pub returns : goal.returns
returns c =
    all_from_yields_List (fits_at c.args.list.now) _ _ c.all.result c.all.ensures.ran
    (YieldsList-from_range 0 c.args.count c.args.count refl (omega arith)) (λ x v q k. search (rules, tests))
    ∙ every_all c.args.count (fits_at c.args.list.now)
