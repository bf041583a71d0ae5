-- `state_test::repeats` meets its contract. The loop's invariant: the flag says whether all bytes below `at` repeat.
-- Assumes nothing.
use mathlib.Core.Path.{◌≡◌}
use Rattle.lists.specs.Walks.{every}
use Rattle.state_test.specs.OnBytes.{repeating}
use Rattle.state_test.proofs.repeats.Given as goal

abbrev pub invariant-loop-at : goal.invariant-loop-at
invariant-loop-at l = l.same ≡ every l.at (repeating l.state l.step l.from)
