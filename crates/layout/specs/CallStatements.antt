-- What is claimed of the calls on bytes, as propositions over what they answer and write. Assumes nothing.
-- Source: demands 1 and 3; document 02, request 7.
--   ExecuteTells                             number, id and cycles of a command are read back from what its call answers
--   RefusedMakeKeeps, RefusedExecuteKeeps    an answer other than 0, that for unreadable bytes too, leaves the lent bytes as they were;
--                                            of a command, other than 6 too
--   RefusedRunKeeps                          a list that is not run leaves the state and the answers as they were
--   AllRefusedKeeps                          a list whose commands are all refused, none by 6, leaves the state's bytes as they were
--   RunKeepsRest                             the answers keep their length, and what stands behind those written
--   RunStrict, ListStrict                    demand 3 and the counts of dropped triggers, the ledger kept from the answers' bytes: of any
--                                            bytes, and of any list of commands
--   CallsStrict                              the same of any list of commands that are called one by one
use Rattle.std.specs.Prelude.{ℕ, ◌+◌, ◌*◌, ◌^◌, ◌<◌, ◌≤◌, ◌≡◌, ◌≢◌, List, [], ◌∷◌, true, length, get_or, drop, Some}
use Rattle.model.specs.declared.Command.{Command}
use Rattle.model.specs.Commands.{already_pending, execute}
use Rattle.model.specs.Ledger.{Entry, entry_with, opening, ledger}
use Rattle.layout.specs.Commands.{command_of, number_of, target_of, level_of}
use Rattle.layout.specs.Bytes.{word_at, state_size, state_from, is_state, command_bytes, commands_in, answer_size, entries_in, number_in, id_in}
use Rattle.layout.specs.Bytes.{cycles_in, Call, make_call, execute_call, RunCall, no_count, room_for, run_call}
use Rattle.lists.specs.Rows.{joined}
use Rattle.model.specs.Statements.{InRange, PriorityStrict, CountsDrops}
use Rattle.layout.specs.Statements.{AreBytes}

-- ---- answers and refusals

abbrev pub RefusedMakeKeeps : Type 0
RefusedMakeKeeps = (n m : ℕ) (b : List ℕ) → number_in (make_call n m b).result ≢ 0 → (make_call n m b).bytes ≡ b

-- On bytes that encode a state, a command's call tells what the command answers.
abbrev pub ExecuteTells : Type 0
ExecuteTells =
    (number at p : ℕ) (b : List ℕ) (c : Command) → is_state b ≡ true → command_of number at p ≡ Some c →
    let told = (execute_call number at p b).result in
    let a = execute (state_from b) c in
    (number_in told ≡ a.number) × (id_in told ≡ a.id.0) × (cycles_in told ≡ a.cycles)

abbrev pub RefusedExecuteKeeps : Type 0
RefusedExecuteKeeps =
    (number at p : ℕ) (b : List ℕ) → AreBytes b →
    let told = number_in (execute_call number at p b).result in
    told ≢ 0 → told ≢ already_pending → (execute_call number at p b).bytes ≡ b

-- A slice is shorter than 2^64, so that no count of commands is `no_count`.
abbrev pub RefusedRunKeeps : Type 0
RefusedRunKeeps =
    (b list answers : List ℕ) → length list < 2 ^ 64 → (run_call b list answers).result ≡ no_count →
    ((run_call b list answers).bytes ≡ b) × ((run_call b list answers).answers ≡ answers)

-- The number of the i-th answer is the first of its bytes.
abbrev pub AllRefusedKeeps : Type 0
AllRefusedKeeps =
    (b list answers : List ℕ) → AreBytes b →
    ((i : ℕ) → i < (run_call b list answers).result →
    let told = get_or (run_call b list answers).answers (answer_size * i) 0 in
    (told ≢ 0) × (told ≢ already_pending)) →
    (run_call b list answers).bytes ≡ b

-- Of the answers lent, the length and what stands behind those written.
abbrev pub RestKept : List ℕ → RunCall → Type 0
RestKept answers ran =
    (length ran.answers ≡ length answers) ×
    (drop (answer_size * ran.result) ran.answers ≡ drop (answer_size * ran.result) answers)

-- Whether the list is run or not.
abbrev pub RunKeepsRest : Type 0
RunKeepsRest = (b list answers : List ℕ) → RestKept answers (run_call b list answers)

-- ---- demand 3

-- What a call has answered and written that ran the commands cs for n sources and m cores.
pub record Strict (n m : ℕ) (cs : List Command) (ran : RunCall) : Type 0 where
  -- all are taken
  pub taken : ran.result ≡ length cs
  -- the state that the bytes encode, held against the ledger of the commands and of the answers' bytes
  pub strict : PriorityStrict n m (ledger opening (entries_in cs ran.answers)) (state_from ran.bytes)
  -- each source's count of dropped triggers, held against the same commands and answers
  pub counted : CountsDrops (entries_in cs ran.answers) (state_from ran.bytes)
  -- no answer's bytes tell more than 2m cycles
  pub cycles : (i : ℕ) → i < length cs → word_at ran.answers (answer_size * i + 3) ≤ 2 * m

-- A list run from what making writes into the bytes b.
abbrev pub ran_fresh : ℕ → ℕ → List ℕ → List ℕ → List ℕ → RunCall
ran_fresh n m b list answers = run_call (make_call n m b).bytes list answers

-- Any bytes in whole commands, and any answers that have room.
abbrev pub RunStrict : Type 0
RunStrict =
    (n m : ℕ) (b list answers : List ℕ) → InRange n m → length b ≡ state_size → room_for list answers ≡ true →
    Strict n m (commands_in list) (ran_fresh n m b list answers)

-- Any list of commands: by its bytes it can be handed over.
abbrev pub ListStrict : Type 0
ListStrict =
    (n m : ℕ) (b answers : List ℕ) (cs : List Command) → InRange n m → length b ≡ state_size → answer_size * length cs ≤ length answers →
    Strict n m cs (ran_fresh n m b (joined command_bytes cs) answers)

-- ---- demand 3, called command by command

-- A command on the bytes b, by its numbers.
abbrev pub calling : List ℕ → Command → Call
calling b c = execute_call (number_of c) (target_of c) (level_of c) b

-- The bytes after a list of such calls, each on what the one before has written.
unfoldable pub after_calls : List ℕ → List Command → List ℕ
after_calls b [] = b
after_calls b (c ∷ cs) = after_calls (calling b c).bytes cs

-- The commands, each with the number and the id of what its call answered.
unfoldable pub told_by_calls : List ℕ → List Command → List Entry
told_by_calls b [] = []
told_by_calls b (c ∷ cs) =
    entry_with c (number_in (calling b c).result) (id_in (calling b c).result) ∷ told_by_calls (calling b c).bytes cs

abbrev pub CallsStrict : Type 0
CallsStrict =
    (n m : ℕ) (b : List ℕ) (cs : List Command) → InRange n m → length b ≡ state_size →
    let fresh = (make_call n m b).bytes in
    PriorityStrict n m (ledger opening (told_by_calls fresh cs)) (state_from (after_calls fresh cs)) ×
    CountsDrops (told_by_calls fresh cs) (state_from (after_calls fresh cs))
