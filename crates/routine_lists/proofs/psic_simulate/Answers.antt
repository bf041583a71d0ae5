-- `routine_lists::psic_simulate` meets its contract: what doesn't fit is left as it was, and past the tests the list runs. Assumes nothing.
use mathlib.Core.Path.{◌≡◌, sym, ◌∙◌}
use mathlib.Core.Bool.{false, and-false}
use Rattle.std.proofs.Common.{arith}
use borrow.Author.Tests.{ne_eqb}
use Rattle.layout.proofs.Lists.{not_whole, no_room}
use Rattle.routines.specs.Calls.{fits_simulate}
use Rattle.routine_lists.proofs.Simulating.{no_run}
use Rattle.routine_lists.proofs.psic_simulate.Goals as goal
use Rattle.routine_lists.proofs.psic_simulate.Goals.{then-list-ne0-via-then-list-ne0, then-list-ne0-via-else-list-ne0+then-answers-list}
use Rattle.routine_lists.proofs.psic_simulate.Goals.{then-list-ne0-via-else-list-ne0+else-answers-list+then-table}
use Rattle.routine_lists.proofs.psic_simulate.Goals.{then-list-ne0-via-else-list-ne0+else-answers-list+else-table+then-not-is_simulation}

pub returns-then-list-ne0 : goal.returns-then-list-ne0
returns-then-list-ne0 c =
    let a = c.args in
    let unfit : fits_simulate a.state.now a.active.now a.holder.now a.list.now a.answers.now a.table.now ≡ false =
    elim c.then-list-ne0.branch [
      | then-list-ne0-via-then-list-ne0 w ↦ simp (not_whole a.list.now a.answers.now (omega arith), and-false)
      | then-list-ne0-via-else-list-ne0+then-answers-list w ↦ simp (no_room a.list.now a.answers.now (omega arith), and-false)
      | then-list-ne0-via-else-list-ne0+else-answers-list+then-table w ↦ simp (ne_eqb _ _ w.if-table.true, and-false)
      | then-list-ne0-via-else-list-ne0+else-answers-list+else-table+then-not-is_simulation w ↦
          rw (sym w.is_simulation.ensures ∙ w.if-not-is_simulation.true)
    ] in
    no_run a.state.now a.active.now a.holder.now a.list.now a.answers.now a.table.now unfit
