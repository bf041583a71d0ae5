-- `core_steps::deliver_all` meets its contract: each turn is the next cycle. Assumes nothing.
use Rattle.layout.specs.Bytes.{state_from}
use Rattle.core_steps.proofs.Deliveries.{DeliveredTo}
use Rattle.core_steps.proofs.deliver_all.Given as goal

abbrev pub invariant-loop-t : goal.invariant-loop-t
invariant-loop-t l = DeliveredTo (state_from l.initial.state) l.state l.ranking l.t
