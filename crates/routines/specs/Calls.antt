-- A simulation of the interrupt routines in a host's memory, and what the calls for hosts answer and write. Definitions only. Assumes
-- nothing.
-- The controller's state lies in its bytes, as for the commands; the active ids, the last holders and the table of handovers are
-- numbers of 16 bits. The page docs/ENCODING.md has the layout with an example.
--   call_of number at p          the call that three numbers name: a command by its own, entry by 16, exit by 17; none by any other
--   routines_in b active holder  the simulation; is_simulation: the bytes encode a state, and the others have their lengths
--   table_in w                   the table whose rows, one behind the other, are w; table_words t is a table's rows
--   make_routines_call            a fresh simulation
--   routine_call c               one call; a handover isn't counted
--   simulate_call                a list of calls, with an answer for each, and the handovers in it counted on in a table
use Rattle.std.specs.Prelude.{ℕ, ◌+◌, ◌*◌, ◌≡◌, List, [], ◌∷◌, Bool, ◌&&◌, cond, length, get_or, eqb, Option, Some, None}
use Rattle.std.proofs.lemmas.List.Edits.{sets}
use Rattle.lists.specs.Rows.{joined, tabulated}
use Rattle.model.specs.Records.{max_sources, max_cores, source_id, core_id}
use Rattle.layout.specs.Bytes.{answer_row, packed_as, state_size, state_bytes, state_from, is_state, in_fives, unreadable, no_count, room_for}
use Rattle.routines.specs.declared.Routines.{Routines}
use Rattle.routines.specs.declared.DirectAction.{DirectAction}
use Rattle.routines.specs.declared.DirectAction.TheVariants.{SetPriority, Mask, Unmask, Trigger}
use Rattle.routines.specs.declared.RoutineCall.{RoutineCall}
use Rattle.routines.specs.declared.RoutineCall.TheVariants.{Direct, Enter, Exit}
use Rattle.routines.specs.declared.RoutineAnswer.{RoutineAnswer}
use Rattle.routines.specs.Routines.{routines_with, make_routines, call_routine, Handovers, run_routines, run_table}

-- ---- a call as three numbers

abbrev pub direct : ℕ → DirectAction → Option RoutineCall
direct at a = Some (Direct (source_id at) a)

-- Apart from the commands' numbers.
abbrev pub enter_number : ℕ
enter_number = 16

abbrev pub exit_number : ℕ
exit_number = 17

-- Set core priority, claim, redeliver and complete are no calls of the simulation.
unfoldable pub call_of : ℕ → ℕ → ℕ → Option RoutineCall
call_of number at p =
    cond (eqb number 0) (direct at (SetPriority p))
    (cond (eqb number 1) (direct at Mask)
    (cond (eqb number 2) (direct at Unmask)
    (cond (eqb number 4) (direct at Trigger)
    (cond (eqb number enter_number) (Some (Enter (core_id at)))
    (cond (eqb number exit_number) (Some (Exit (core_id at))) None)))))

abbrev pub one_call : Option RoutineCall → List RoutineCall
one_call None = []
one_call (Some c) = c ∷ []

-- The calls in a row of bytes, five each, up to the first that can't be read.
abbrev pub calls_in : List ℕ → List RoutineCall
calls_in l = in_fives (λ number at p. one_call (call_of number at p)) l

-- ---- a simulation in memory

abbrev pub routines_in : List ℕ → List ℕ → List ℕ → Routines
routines_in b active holder = routines_with (state_from b) active holder

-- The simulation may still be unsound.
abbrev pub is_simulation : List ℕ → List ℕ → List ℕ → Bool
is_simulation b active holder = is_state b && (eqb (length active) max_cores && eqb (length holder) max_sources)

-- The cell of row r and column c is at 32 r + c.
abbrev pub table_size : ℕ
table_size = max_cores * max_cores

unfoldable pub table_in : List ℕ → Handovers
table_in w = tabulated max_cores (λ r. tabulated max_cores (λ c. get_or w (max_cores * r + c) 0))

abbrev pub table_words : Handovers → List ℕ
table_words t = joined (λ (cells : List ℕ). cells) t

-- ---- single calls

-- One answer as a number, as a command's.
abbrev pub packed_call : RoutineAnswer → ℕ
packed_call a = packed_as a.number a.id.0 a.cycles

-- What a call answers, and what the host's memory then holds.
pub record RoutineMemory : Type 0 where
  pub result : ℕ
  pub bytes : List ℕ
  pub active : List ℕ
  pub holder : List ℕ

abbrev pub memory_with : ℕ → List ℕ → List ℕ → List ℕ → RoutineMemory
memory_with result bytes active holder = record { result = result; bytes = bytes; active = active; holder = holder }

abbrev pub memory_of : ℕ → Routines → RoutineMemory
memory_of result s = memory_with result (state_bytes s.controller) s.active s.holder

abbrev pub DoesCall : ℕ → List ℕ → List ℕ → List ℕ → RoutineMemory → Type 0
DoesCall r b active holder call = (r ≡ call.result) × (b ≡ call.bytes) × (active ≡ call.active) × (holder ≡ call.holder)

abbrev pub fits_make : List ℕ → List ℕ → List ℕ → Bool
fits_make b active holder = eqb (length b) state_size && (eqb (length active) max_cores && eqb (length holder) max_sources)

-- Sizes out of range are refused as by value, and the memory lent stays as it was.
unfoldable pub make_routines_call : ℕ → ℕ → List ℕ → List ℕ → List ℕ → RoutineMemory
make_routines_call n m b active holder =
    cond (fits_make b active holder)
    (cond (eqb (make_routines n m).number 0) (memory_of (packed_call (make_routines n m)) (make_routines n m).state)
    (memory_with (packed_call (make_routines n m)) b active holder))
    (memory_with unreadable b active holder)

abbrev pub called_on : Routines → RoutineCall → RoutineMemory
called_on s c = memory_of (packed_call (call_routine s c)) (call_routine s c).state

unfoldable pub routine_call : RoutineCall → List ℕ → List ℕ → List ℕ → RoutineMemory
routine_call c b active holder =
    cond (is_simulation b active holder) (called_on (routines_in b active holder) c) (memory_with unreadable b active holder)

-- ---- a list of calls

unfoldable pub call_answers : Routines → List RoutineCall → List RoutineAnswer
call_answers s [] = []
call_answers s (c ∷ cs) = call_routine s c ∷ call_answers (call_routine s c).state cs

-- Five bytes, as a command's answer.
abbrev pub call_answer_bytes : RoutineAnswer → List ℕ
call_answer_bytes a = answer_row a.number a.id.0 a.cycles

-- How many calls were taken, the memory after them, their answers in the front of the answers' buffer, and the table.
pub record SimulateCall : Type 0 where
  pub memory : RoutineMemory
  pub answers : List ℕ
  pub table : List ℕ

abbrev pub simulate_call_of : RoutineMemory → List ℕ → List ℕ → SimulateCall
simulate_call_of memory answers table = record { memory = memory; answers = answers; table = table }

abbrev pub DoesSimulate : ℕ → List ℕ → List ℕ → List ℕ → List ℕ → List ℕ → SimulateCall → Type 0
DoesSimulate r b active holder answers table call =
    DoesCall r b active holder call.memory × (answers ≡ call.answers) × (table ≡ call.table)

abbrev pub fits_simulate : List ℕ → List ℕ → List ℕ → List ℕ → List ℕ → List ℕ → Bool
fits_simulate b active holder list answers table =
    is_simulation b active holder && (room_for list answers && eqb (length table) table_size)

abbrev pub simulated : Routines → List RoutineCall → List ℕ → List ℕ → SimulateCall
simulated s cs answers table =
    simulate_call_of (memory_of (length cs) (run_routines s cs)) (sets answers 0 (joined call_answer_bytes (call_answers s cs)))
    (table_words (run_table (table_in table) s cs))

unfoldable pub simulate_call : List ℕ → List ℕ → List ℕ → List ℕ → List ℕ → List ℕ → SimulateCall
simulate_call b active holder list answers table =
    cond (fits_simulate b active holder list answers table) (simulated (routines_in b active holder) (calls_in list) answers table)
    (simulate_call_of (memory_with no_count b active holder) answers table)
