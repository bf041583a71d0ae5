-- `vcd_reader::changes::quiet` meets its contract. The loop's invariant is the contract up to the end. The measure is what is left of the
-- text. Assumes nothing.
use Prim.Native.Nat.{◌-◌}
use lib.ListN.{length}
use Rattle.vcd_reader.specs.Changes.{Quiet}
use Rattle.vcd_reader.proofs.changes.quiet.Given as goal

abbrev pub invariant-loop-next : goal.invariant-loop-next
invariant-loop-next l = Quiet l.text l.from l.fn.r l.end l.reader

abbrev pub decreases-loop-next : goal.decreases-loop-next
decreases-loop-next l = length l.text - l.end
