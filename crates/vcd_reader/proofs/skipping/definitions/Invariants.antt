-- `vcd_reader::skipping::definitions` meets its contract. The loop's invariant is the contract up to i. The measure is what is left of
-- the text. Assumes nothing.
use Prim.Native.Nat.{◌-◌}
use lib.ListN.{length}
use Rattle.recording.specs.declared.Place.TheVariants.{Definition}
use Rattle.vcd_reader.specs.Skipping.{Passes}
use Rattle.vcd_reader.proofs.skipping.definitions.Given as goal

abbrev pub invariant-loop-end : goal.invariant-loop-end
invariant-loop-end l = Passes Definition l.text l.from l.i

abbrev pub decreases-loop-end : goal.decreases-loop-end
decreases-loop-end l = length l.text - l.i
