-- What is refused leaves the lent bytes as they were, call by call. Assumes nothing.
use Prim.Native.Nat.{ℕ, ◌*◌, ◌<◌, ◌≤◌}
use mathlib.Core.Path.{◌≡◌, refl, ap, ◌∙◌}
use mathlib.Core.Logic.{◌≢◌}
use mathlib.Core.List.{List}
use mathlib.Core.Bool.{true}
use native.Mathlib.Omega.{arith}
use lib.ListN.{length, drop}
use lib.Seq.{length-sets, drop_at}
use lib.Dec.{eqb}
use borrow.Author.Tests.{eqb-true}
use Rattle.lists.proofs.Bools.{and_l, and_r, Flag, on, off, flag}
use Rattle.model.specs.declared.Command.{Command}
use Rattle.std.specs.Prelude.{Option, Some, None}
use Rattle.model.specs.Commands.{already_pending, execute, make}
use Rattle.layout.specs.Commands.{command_of}
use Rattle.layout.specs.Bytes.{state_size, state_bytes, state_from, is_state, commands_in, answer_size, number_in, Call, make_call, executed_on}
use Rattle.layout.specs.Bytes.{execute_call, no_count, room_for, fits_run}
use Rattle.layout.specs.Statements.{AreBytes}
use Rattle.layout.proofs.RoundTrip.{bytes_written_back}
use Rattle.layout.specs.CallStatements.{RefusedMakeKeeps, RefusedExecuteKeeps, RefusedRunKeeps, AllRefusedKeeps, RestKept, RunKeepsRest}
use Rattle.layout.proofs.Answers.{read_command, answers_from, controller}
use Rattle.layout.proofs.Fives.{fives_length}
use Rattle.layout.proofs.Machines.{answers_length, answers_in_front}
use Rattle.layout.proofs.Lists.{answers_fit}
use Rattle.exports.proofs.Calls.{run_by}
use Rattle.theorems.proofs.AnswerBytes.{refused_state, Unaltered, kept_refused}

-- a call that answers a number other than 0, and of a command other than 6, leaves the bytes b
abbrev MakeKeeps : List ℕ → Call → Type 0
MakeKeeps b call = number_in call.result ≢ 0 → call.bytes ≡ b

abbrev Keeps : List ℕ → Call → Type 0
Keeps b call = number_in call.result ≢ 0 → number_in call.result ≢ already_pending → call.bytes ≡ b

pub refused_make_keeps : RefusedMakeKeeps
unfolding make_call
refused_make_keeps n m b = go (flag (eqb (length b) state_size)) (flag (eqb (make n m).number 0))
  where
    go : Flag (eqb (length b) state_size) → Flag (eqb (make n m).number 0) → MakeKeeps b (make_call n m b)
    go (off e) f = rw e (λ h. refl)
    go (on e) (off f) = rw (e, f) (λ h. refl)
    go (on e) (on f) =
        let accepted : (make n m).number ≡ 0 = eqb-true _ _ f in
        rw (e, f) (λ h. absurd (h (omega (arith, accepted))))

-- on bytes that encode a state
executed_keeps : (b : List ℕ) → AreBytes b → is_state b ≡ true → (d : Option Command) → Keeps b (executed_on b d)
executed_keeps b are e None h other = refl
executed_keeps b are e (Some c) h other =
    let some : (execute (state_from b) c).number ≢ 0 = λ q. h (omega (arith, q)) in
    let unaltered : (execute (state_from b) c).number ≢ already_pending = λ q. other (omega (arith, q)) in
    ap state_bytes (refused_state (state_from b) c some unaltered) ∙ bytes_written_back b are e

pub refused_execute_keeps : RefusedExecuteKeeps
unfolding execute_call
refused_execute_keeps number at p b are = go (flag (is_state b))
  where
    go : Flag (is_state b) → Keeps b (execute_call number at p b)
    go (on e) = rw e (executed_keeps b are e (command_of number at p))
    go (off e) = rw e (λ h other. refl)

-- ---- a list

pub refused_run_keeps : RefusedRunKeeps
refused_run_keeps b list answers h =
    run_by b list answers (λ ran. ran.result ≡ no_count → (ran.bytes ≡ b) × (ran.answers ≡ answers))
    (λ e q. absurd (omega (arith, q, fives_length read_command list)))
    (λ q. (refl, refl))

-- a run has room for its answers
room : (b list answers : List ℕ) → fits_run b list answers ≡ true → answer_size * length (commands_in list) ≤ length answers
room b list answers e = answers_fit list answers read_command (and_r (is_state b) (room_for list answers) e)

pub all_refused_keeps : AllRefusedKeeps
all_refused_keeps b list answers are =
    run_by b list answers (λ ran. ((i : ℕ) → i < ran.result → Unaltered ran.answers i) → ran.bytes ≡ b)
    (λ e h.
    let s = state_from b in
    let cs = commands_in list in
    let rest = drop (answer_size * length cs) answers in
    ap state_bytes (kept_refused s cs rest (rw (← answers_in_front controller answers s cs (room b list answers e)) h))
    ∙ bytes_written_back b are (and_l (is_state b) (room_for list answers) e))
    (λ h. refl)

pub run_keeps_rest : RunKeepsRest
run_keeps_rest b list answers =
    run_by b list answers (RestKept answers)
    (λ e.
    let v = answers_from (state_from b) (commands_in list) in
    let size = answer_size * length (commands_in list) in (
      length-sets answers 0 v,
      ap (drop size) (answers_in_front controller answers (state_from b) (commands_in list) (room b list answers e))
          ∙ drop_at v (drop size answers) size (answers_length controller (state_from b) (commands_in list)),
    ))
    (refl, refl)
