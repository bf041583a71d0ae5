-- `borrowed::seek` meets its contract: the ranks are copied out one record at a time. Assumes nothing.
use Rattle.model.specs.Records.{max_sources, no_source}
use Rattle.model.specs.Arbitration.{rank}
use Rattle.lists.proofs.Filling.{Filling}
use Rattle.borrowed.proofs.seek.Given as goal

abbrev pub invariant-loop-i : goal.invariant-loop-i
invariant-loop-i l = Filling (λ i. rank) no_source l.list max_sources l.i l.keys
