-- `arbitration::marks::marks_of` meets its contract: a key is a candidate's exactly if it is above 0. Assumes nothing.
use Rattle.std.proofs.Common.{ℕ, ◌+◌, ◌<◌, length, length-set, arith}
use Rattle.arbitration.proofs.Marking.{marking_none, marking_fits, marking_on, marking_off}
use Rattle.arbitration.proofs.marks.marks_of.Goals as goal
use Rattle.arbitration.proofs.marks.marks_of.Goals.{else-key-gt0, then-key-gt0}

pub loop-i-init : goal.loop-i-init
loop-i-init c = marking_none c.args.keys.now c.args.marks.now (omega arith)

pub overflow_add-before : goal.overflow_add-before
overflow_add-before c = omega (arith, length-set {A = ℕ}, marking_fits c.loop-i.invariant (omega (arith, length-set {A = ℕ})))

pub loop-i-preserved : goal.loop-i-preserved
loop-i-preserved c =
    let inv = c.loop-i.invariant in
    let room : c.loop-i.i + 1 < length c.loop-i.marks = omega (arith, length-set {A = ℕ}) in
    elim c.if-key-gt0.branch [ then-key-gt0 w ↦ rw w.before-is (marking_on inv room (omega arith)) | else-key-gt0 w ↦ rw w.before-is (marking_off inv room (omega arith)) ]
