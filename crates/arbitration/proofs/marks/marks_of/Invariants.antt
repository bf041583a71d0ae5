-- `arbitration::marks::marks_of` meets its contract. The loop's invariant: so many of the first i keys are candidates', and the marks up
-- to i are made. Assumes nothing.
use Rattle.arbitration.proofs.Marking.{Marking}
use Rattle.arbitration.proofs.marks.marks_of.Given as goal

abbrev pub invariant-loop-i : goal.invariant-loop-i
invariant-loop-i l = Marking l.keys l.marks l.before l.i
