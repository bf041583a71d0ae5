-- A list that fits is searched by the ranks of its records. Assumes nothing.
use Rattle.std.proofs.Common.{◌∙◌, length, arith}
use Rattle.std.proofs.lemmas.List.{get_or-take, length-take}
use Rattle.borrowed.proofs.Searches.{sought_too_long, sought_by_keys}
use Rattle.borrowed.proofs.seek.Goals as goal

pub returns-then-list-gt-SOURCES : goal.returns-then-list-gt-SOURCES
returns-then-list-gt-SOURCES c = sought_too_long c.args.list.now (omega arith)

pub returns : goal.returns
returns c =
    let n = length c.args.list.now in
    sought_by_keys c.args.list.now _ c.find.result (omega arith) (omega (arith, length-take n c.loop-i.keys))
    (λ j h. get_or-take n c.loop-i.keys j 0 h ∙ c.loop-i.invariant.filled j (omega arith)) c.find.ensures
