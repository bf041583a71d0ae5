-- `encoding::put_state` meets its contract: both loops keep `Written`, that the bytes so far are those of the records passed.
-- Assumes nothing.
use Rattle.model.specs.Records.{max_sources}
use Rattle.encoding.proofs.Writing.{Written}
use Rattle.encoding.proofs.put_state.Given as goal

abbrev pub invariant-loop-i : goal.invariant-loop-i
invariant-loop-i l = Written l.fn.s l.b l.i 0

abbrev pub invariant-loop-k : goal.invariant-loop-k
invariant-loop-k l = Written l.fn.s l.b max_sources l.k
