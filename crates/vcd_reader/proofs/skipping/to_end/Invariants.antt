-- `vcd_reader::skipping::to_end` meets its contract. The loop's invariant is `Reaches`. The measure is what is left of the text.
-- Assumes nothing.
use Prim.Native.Nat.{◌-◌}
use lib.ListN.{length}
use Rattle.vcd_reader.proofs.Passing.{Reaches}
use Rattle.vcd_reader.proofs.skipping.to_end.Given as goal

abbrev pub invariant-loop-i : goal.invariant-loop-i
invariant-loop-i l = Reaches l.text l.from l.i

abbrev pub decreases-loop-i : goal.decreases-loop-i
decreases-loop-i l = length l.text - l.i
