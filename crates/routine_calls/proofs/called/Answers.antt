-- `routine_calls::called` meets its contract: memory that can't be read is left, and past the test the call runs on it. Assumes nothing.
use mathlib.Core.Path.{sym, ◌∙◌}
use Rattle.std.proofs.Common.{rules}
use Rattle.routine_calls.proofs.Calls.{call_unread, call_went}
use Rattle.routine_calls.proofs.called.Goals as goal

pub returns-then-not-is_simulation : goal.returns-then-not-is_simulation
returns-then-not-is_simulation c =
    let a = c.args in
    call_unread a.state.now a.active.now a.holder.now a.c (sym c.is_simulation.ensures ∙ c.if-not-is_simulation.true)

pub returns : goal.returns
returns c =
    let a = c.args in
    call_went a.state.now a.active.now a.holder.now a.c (sym c.is_simulation.ensures ∙ c.if-not-is_simulation.false)
    c.step-o.ensures.went c.numbers_of-number.ensures c.packed.ensures (search rules) (search rules) (search rules)
