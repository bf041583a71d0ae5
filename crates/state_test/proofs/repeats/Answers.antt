-- `state_test::repeats` meets its contract. The loop's invariant: the flag says whether all bytes below `at` repeat.
-- Assumes nothing.
use Rattle.std.proofs.Common.{arith}
use Rattle.lists.proofs.Turns.{since_begin, since_end, since_turn}
use Rattle.state_test.proofs.repeats.Goals as goal

pub loop-at-init : goal.loop-at-init
loop-at-init c = since_begin _ _ _ (omega arith)

pub loop-at-preserved : goal.loop-at-preserved
loop-at-preserved c = since_turn _ _ _ c.loop-at.invariant (omega arith)

pub returns : goal.returns
returns c = since_end _ _ _ c.loop-at.invariant _ (omega arith)
