-- The invariant of the loop of `vcd_words::scanning::digits`: the bytes that are left make of the number so far what all make of the
-- number given. Assumes nothing.
use mathlib.Core.Path.{◌≡◌}
use lib.ListN.{drop}
use Rattle.vcd_words.specs.Partial.{more_digits}
use Rattle.vcd_words.proofs.scanning.digits.Given as goal

abbrev pub invariant-loop-b : goal.invariant-loop-b
invariant-loop-b l = more_digits l.sum (drop l.b-index l.bytes) ≡ more_digits l.fn.n l.bytes
