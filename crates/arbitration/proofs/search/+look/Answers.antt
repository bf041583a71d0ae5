-- A range of one key is answered at once, a half without a candidate is skipped, as the marks at its two ends tell, and of two halves the
-- right one's highest is kept only if it is above. Assumes nothing.
use Rattle.std.proofs.Common.{arith}
use Rattle.arbitration.proofs.Looks.{look_one, Halved, halved, only_right, first, second, skipped_left, skipped_right, both_right, both_left}
use Rattle.arbitration.proofs.search.+look.Goals as goal

pub returns-then-len-eq1 : goal.returns-then-len-eq1
returns-then-len-eq1 t c = look_one c.requires c.if-len-eq1.true

pub look-right-requires : goal.look-right-requires
look-right-requires t c =
    let p : Halved c.args.keys.now c.args.marks.now c.args.lo c.args.len c.div_ceil-half.result =
    halved c.requires c.if-len-eq1.false (λ h. omega arith) in
    (omega arith, only_right p c.if-marks-lo.true)

pub returns-then-marks-lo : goal.returns-then-marks-lo
returns-then-marks-lo t c =
    skipped_left (halved c.requires c.if-len-eq1.false (λ h. omega arith)) (omega arith) c.if-marks-lo.true
    c.look-right.ensures

pub look-left-requires : goal.look-left-requires
look-left-requires t c =
    let p : Halved c.args.keys.now c.args.marks.now c.args.lo c.args.len c.div_ceil-half.result =
    halved c.requires c.if-len-eq1.false (λ h. omega arith) in
    (omega arith, first p c.if-marks-lo.false)

pub returns-then-marks-middle : goal.returns-then-marks-middle
returns-then-marks-middle t c =
    skipped_right (halved c.requires c.if-len-eq1.false (λ h. omega arith)) (omega arith) c.if-marks-middle.true
    c.look-left.ensures

pub look-right-requires-2 : goal.look-right-requires-2
look-right-requires-2 t c =
    let p : Halved c.args.keys.now c.args.marks.now c.args.lo c.args.len c.div_ceil-half.result =
    halved c.requires c.if-len-eq1.false (λ h. omega arith) in
    (omega arith, second p c.if-marks-middle.false)

pub returns-then-keys-left : goal.returns-then-keys-left
returns-then-keys-left t c =
    both_right (halved c.requires c.if-len-eq1.false (λ h. omega arith)) (omega arith) c.look-left.ensures
    c.look-right-2.ensures c.if-keys-left.true

pub returns-else-keys-left : goal.returns-else-keys-left
returns-else-keys-left t c =
    both_left (halved c.requires c.if-len-eq1.false (λ h. omega arith)) (omega arith) c.look-left.ensures
    c.look-right-2.ensures c.if-keys-left.false
