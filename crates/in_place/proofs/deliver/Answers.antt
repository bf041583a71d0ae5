-- `in_place::deliver` meets its contract: the stores are those of the delivery, one after the other. Assumes nothing.
use Rattle.in_place.proofs.Stored.{held_delivered}
use Rattle.in_place.proofs.deliver.Goals as goal

pub returns : goal.returns
returns c =
    λ s h at_i at-k.
    held_delivered h c.requires.2 at-k c.put_back.ensures c.requires.1 at_i c.with_delivered.ensures c.put_source.ensures
    c.filled_with.ensures c.put_core.ensures
