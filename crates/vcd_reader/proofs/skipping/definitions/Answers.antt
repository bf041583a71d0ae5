-- `vcd_reader::skipping::definitions` meets its contract. The loop's invariant is the contract up to i. Assumes nothing.
use Rattle.vcd_reader.proofs.Follows.{follows_then, follows_skips}
use Rattle.vcd_reader.proofs.skipping.definitions.Goals as goal

pub loop-end-preserved : goal.loop-end-preserved
loop-end-preserved c =
    λ r pl good.
    follows_then _ (c.loop-end.invariant r pl good)
    (follows_then _ (c.in-Some.ensures.passes r pl good) (follows_skips _ _ _ r c.skip-i-in-Some.ensures))
