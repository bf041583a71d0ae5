-- `vcd_writer::is_run` meets its contract: each number is tested. Assumes nothing.
use Rattle.std.proofs.Common.{refl, ◌∙◌, rules, arith}
use borrow.Author.Tests.{tests}
use Rattle.std.proofs.lemmas.Iterator.{YieldsList-from_range}
use Rattle.std.proofs.lemmas.Iterator.Search.{all_from_yields_List}
use Rattle.vcd_writer.proofs.Runs.{small, run_numbers}
use Rattle.decoding.proofs.Flags.{every_all}
use Rattle.vcd_writer.proofs.is_run.Goals as goal

pub returns-then-list-eq0 : goal.returns-then-list-eq0
returns-then-list-eq0 c =
    let list = c.args.list.now in
    all_from_yields_List (small list) _ _ c.all.result c.all.ensures.ran
    (YieldsList-from_range 0 _ _ refl (omega arith)) (λ x v q k. search (rules, tests))
    ∙ every_all _ (small list) ∙ run_numbers list c.if-list-eq0.true
