-- `in_place::put_back` meets its contract: a filled box names a source, which is written with its mark off. Assumes nothing.
use Rattle.std.proofs.Common.{ap}
use Rattle.in_place.specs.declared.Ranking.{Ranking}
use Rattle.in_place.proofs.Stored.{back_filled}
use Rattle.in_place.proofs.put_back.Goals as goal

pub returns-then-c : goal.returns-then-c
returns-then-c c = (
  ap (λ (g : Ranking). g.keys) c.put_source.ensures.1,
  λ s h. back_filled h c.args.c.message c.requires.1 c.if-c.true c.source_at-r.ensures c.with_delivered.ensures c.put_source.ensures,
)
