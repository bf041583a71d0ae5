-- `in_place::number_all` meets its contract: the rows are filled from the front. Assumes nothing.
use Rattle.layout.specs.Bytes.{state_from}
use Rattle.in_place.proofs.Numbering.{Numbering}
use Rattle.in_place.proofs.number_all.Given as goal

abbrev pub invariant-loop-k : goal.invariant-loop-k
invariant-loop-k l = Numbering l.state l.k 0 l.ranking

abbrev pub invariant-loop-i : goal.invariant-loop-i
invariant-loop-i l = Numbering l.state (state_from l.state).m l.i l.ranking
