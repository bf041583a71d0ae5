-- `exports::psic_run` meets its contract. The loop's invariant is `RunTo`: the first k commands are taken, and what is left of the list
-- ends as the whole does from the start; and the state in the bytes can go on. Assumes nothing.
use Rattle.std.proofs.Common.{◌≡◌, ◌+◌, ◌*◌, arith, sym, ap, ◌∙◌}
use Rattle.model.specs.Commands.{execute}
use Rattle.layout.specs.Bytes.{command_size, one_command, state_from}
use Rattle.layout.proofs.Answers.{read_command, same_bytes_lem}
use Rattle.layout.proofs.Fives.{fives_read}
use Rattle.layout.proofs.Lists.{not_whole, no_room, run_more, run_end, run_stop}
use Rattle.in_place.proofs.Refused.{says_same, none_here}
use Rattle.steps.specs.Going.{Went}
use Rattle.steps.proofs.Gone.{go_refused}
use Rattle.exports.proofs.Calls.{run_unread, run_no_room, run_ran}
use Rattle.exports.proofs.psic_run.Goals as goal
use Rattle.exports.proofs.psic_run.Goals.{then-sound, else-sound}
use Rattle.exports.proofs.psic_run.Goals.{then-list-ne0-via-then-list-ne0, then-list-ne0-via-else-list-ne0+then-answers-list}
use Rattle.exports.proofs.psic_run.Goals.{then-list-ne0-via-else-list-ne0+else-answers-list+then-not-is_state}

pub returns-then-list-ne0 : goal.returns-then-list-ne0
returns-then-list-ne0 c =
    let a = c.args in
    elim c.then-list-ne0.branch [
      | then-list-ne0-via-then-list-ne0 w ↦
          run_no_room a.state.now a.list.now a.answers.now (not_whole a.list.now a.answers.now (omega arith))
      | then-list-ne0-via-else-list-ne0+then-answers-list w ↦
          run_no_room a.state.now a.list.now a.answers.now (no_room a.list.now a.answers.now (omega arith))
      | then-list-ne0-via-else-list-ne0+else-answers-list+then-not-is_state w ↦
          run_unread a.state.now a.list.now a.answers.now (sym w.is_state.ensures ∙ w.if-not-is_state.true)
    ]

pub loop-k-preserved : goal.loop-k-preserved
loop-k-preserved c =
    let l = c.loop-k in
    let i = command_size * l.k in
    let read = fives_read read_command c.args.list.now i c.word_at.ensures c.word_at-in-loop-k.ensures
    (ap one_command (sym c.command-read.ensures ∙ c.in-Some.is)) in
    let went : Went (execute (state_from l.state) c.in-Some.c) l.ranking c.if-sound.o c.if-sound.state c.if-sound.ranking =
    elim c.if-sound.branch [
      | then-sound w ↦ rw (w.state-is, w.ranking-is, w.o-is) w.step-o.ensures
      | else-sound w ↦
          rw (w.state-is, w.ranking-is, w.o-is) (go_refused _ _ l.invariant.1 (none_here l.ranking (l.invariant.2 ∙ w.if-sound.false)))
    ] in
    let said = says_same _ c.numbers_of-number.ensures went.says in
    let next : i + command_size ≡ command_size * (l.k + 1) = omega arith in (
      rw next at (run_more l.invariant.0 (omega arith) read went.state_is c.put_answer.ensures (same_bytes_lem said)),
      went.going,
      went.kept ∙ l.invariant.2,
    )

-- the next bytes name no command
pub returns-in_default : goal.returns-in_default
returns-in_default c =
    let a = c.args in
    let l = c.loop-k in
    let read = fives_read read_command a.list.now (command_size * l.k) c.word_at.ensures c.word_at-in-loop-k.ensures
    (ap one_command (sym c.command-read.ensures ∙ c.in_default.is)) in
    run_ran a.state.now a.list.now a.answers.now (sym c.is_state.ensures ∙ c.if-not-is_state.false)
    (run_stop l.invariant.0 (omega arith) read) (omega arith) l.invariant.1.whole

-- the list has ended
pub returns : goal.returns
returns c =
    let a = c.args in
    let l = c.loop-k in
    run_ran a.state.now a.list.now a.answers.now (sym c.is_state.ensures ∙ c.if-not-is_state.false)
    (run_end l.invariant.0 (omega arith)) (omega arith) l.invariant.1.whole
