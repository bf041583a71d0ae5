-- `core_steps::settle` meets its contract: the retractions, then the deliveries. Assumes nothing.
use Rattle.core_steps.proofs.Settled.{settled_by}
use Rattle.core_steps.proofs.settle.Goals as goal

pub returns : goal.returns
returns c =
    settled_by c.retract_all-retracted.ensures c.deliver_all-delivered.ensures
