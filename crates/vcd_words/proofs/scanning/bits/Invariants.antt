-- The invariant of the loop of `vcd_words::scanning::bits`: the bytes that are left make of the number so far what all make of the
-- number given. Assumes nothing.
use mathlib.Core.Path.{◌≡◌}
use lib.ListN.{drop}
use Rattle.vcd_words.specs.Partial.{more_bits}
use Rattle.vcd_words.proofs.scanning.bits.Given as goal

abbrev pub invariant-loop-b : goal.invariant-loop-b
invariant-loop-b l = more_bits l.sum (drop l.b-index l.bytes) ≡ more_bits l.fn.n l.bytes
