-- `exports::psic_make` meets its contract: a buffer of another length and sizes out of range leave the buffer as it was, and otherwise it
-- gets the bytes of the controller made. Assumes nothing.
use Rattle.std.proofs.Common.{arith}
use Rattle.exports.proofs.Calls.{make_unfit, make_refused, make_answered}
use Rattle.exports.proofs.psic_make.Goals as goal

pub returns-then-state-ne-STATE_SIZE : goal.returns-then-state-ne-STATE_SIZE
returns-then-state-ne-STATE_SIZE c = let a = c.args in make_unfit a.n a.m a.state.now (omega arith)

pub returns-then-made-ne0 : goal.returns-then-made-ne0
returns-then-made-ne0 c =
    let a = c.args in
    make_refused a.n a.m a.state.now c.packed-answer.result c.make-made.result c.if-state-ne-STATE_SIZE.false
    c.make-made.ensures c.packed-answer.ensures (omega arith)

pub returns : goal.returns
returns c =
    let put = c.put_state in
    let answer = c.packed-answer in
    let a = c.args in
    make_answered a.n a.m a.state.now answer.result c.make-made.result c.if-state-ne-STATE_SIZE.false
    c.make-made.ensures answer.ensures put.new.b (omega arith) put.ensures
