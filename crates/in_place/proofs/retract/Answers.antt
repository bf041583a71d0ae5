-- `in_place::retract` meets its contract: the request is put back, and the box emptied. Assumes nothing.
use Rattle.in_place.proofs.Stored.{held_retracted}
use Rattle.in_place.proofs.retract.Goals as goal

pub returns : goal.returns
returns c = λ s h at-k. held_retracted h c.requires.1 at-k c.put_back.ensures c.emptied.ensures c.put_core.ensures
