-- `routine_calls::psic_make_routines` meets its contract: lengths that don't fit and sizes out of range leave the memory as it was.
-- Assumes nothing.
use mathlib.Core.Path.{refl}
use Rattle.std.proofs.Common.{arith}
use Rattle.routine_calls.proofs.Calls.{make_unfit, make_refused, make_done}
use Rattle.routine_calls.proofs.psic_make_routines.Goals as goal

pub returns-then-state-ne-STATE_SIZE : goal.returns-then-state-ne-STATE_SIZE
returns-then-state-ne-STATE_SIZE c =
    let a = c.args in
    make_unfit a.state.now a.active.now a.holder.now a.n a.m c.then-state-ne-STATE_SIZE.either

pub returns-then-made-ne0 : goal.returns-then-made-ne0
returns-then-made-ne0 c =
    let a = c.args in
    make_refused a.state.now a.active.now a.holder.now a.n a.m (omega arith) (omega arith) (omega arith) c.make-made.result
    c.make-made.ensures _ (omega arith) refl

pub returns : goal.returns
returns c =
    let a = c.args in
    make_done a.state.now a.active.now a.holder.now a.n a.m (omega arith) (omega arith) (omega arith) c.make-made.result
    c.make-made.ensures (omega arith) c.put_state.ensures (c.fill.ensures.after (λ y e. e)) (c.fill-2.ensures.after (λ y e. e))
