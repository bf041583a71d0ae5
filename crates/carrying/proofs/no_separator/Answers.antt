-- `carrying::no_separator` meets its contract. Assumes nothing.
use Rattle.std.proofs.Common.{rules, ◌∙◌, not}
use borrow.Author.Tests.{tests}
use Rattle.std.proofs.lemmas.Iterator.{YieldsList-from_slice}
use Rattle.std.proofs.lemmas.Iterator.Search.{all_from_yields_List}
use Rattle.recording.specs.Words.{separator}
use Rattle.carrying.proofs.Flags.{all_list}
use Rattle.carrying.proofs.no_separator.Goals as goal

pub returns : goal.returns
returns c =
    let w = c.args.word.now in
    all_from_yields_List (λ x. not (separator x)) _ _ c.all.result c.all.ensures.ran (YieldsList-from_slice w cc)
    (λ x v q k. search (rules, tests))
    ∙ all_list (λ x. not (separator x)) w
