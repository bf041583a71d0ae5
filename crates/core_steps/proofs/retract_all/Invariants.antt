-- `core_steps::retract_all` meets its contract: the boxes passed are empty. Assumes nothing.
use Rattle.layout.specs.Bytes.{state_from}
use Rattle.core_steps.proofs.Retracted.{Emptying}
use Rattle.core_steps.proofs.retract_all.Given as goal

abbrev pub invariant-loop-k : goal.invariant-loop-k
invariant-loop-k l = Emptying (state_from l.initial.state) l.state l.ranking l.cycles l.k
