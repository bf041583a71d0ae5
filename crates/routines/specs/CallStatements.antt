-- What is claimed of the calls for hosts on a simulation, over what they answer and write. Propositions only. Assumes nothing.
-- Source: document 02, 4/14 and 7/14.
--   RefusedCallKeeps        an answer other than 0 and 6, that for unreadable memory too, leaves the memory as it was
--   RefusedSimulateKeeps    a list that is not run leaves the memory, the answers and the table as they were
--   SimulateStrict          both clauses of every run from fresh, and the table and the dropped triggers as the history counts; the
--                           history is read from the list's bytes and the answers' bytes
use Rattle.std.specs.Prelude.{ℕ, suc, ◌+◌, ◌*◌, ◌^◌, ◌<◌, min, ◌≡◌, ◌≢◌, List, [], ◌∷◌, true, length, get_or, drop, replicate}
use Rattle.model.specs.Records.{max_cores, most_dropped, source_at}
use Rattle.model.specs.Commands.{already_pending}
use Rattle.model.specs.Statements.{InRange}
use Rattle.layout.specs.Bytes.{word_at, state_from, answer_size, number_in, no_count, room_for}
use Rattle.layout.specs.Statements.{AreBytes}
use Rattle.routines.specs.declared.RoutineCall.{RoutineCall}
use Rattle.routines.specs.Routines.{most_handovers}
use Rattle.routines.specs.History.{Event, event_with, handovers, dropped_in}
use Rattle.routines.specs.Statements.{NoneFilled, StrictlyRun}
use Rattle.routines.specs.Calls.{calls_in, routines_in, table_size, RoutineMemory, memory_with, fits_make, make_routines_call, routine_call}
use Rattle.routines.specs.Calls.{SimulateCall, simulate_call_of, simulate_call}

abbrev pub RefusedCallKeeps : Type 0
RefusedCallKeeps =
    (c : RoutineCall) (b active holder : List ℕ) → AreBytes b →
    let done = routine_call c b active holder in
    number_in done.result ≢ 0 → number_in done.result ≢ already_pending → done ≡ memory_with done.result b active holder

-- A slice is shorter than 2^64, so that no count of calls is `no_count`.
abbrev pub RefusedSimulateKeeps : Type 0
RefusedSimulateKeeps =
    (b active holder list answers table : List ℕ) → length list < 2 ^ 64 →
    let done = simulate_call b active holder list answers table in
    done.memory.result ≡ no_count → done ≡ simulate_call_of (memory_with no_count b active holder) answers table

-- The calls with the number and the id of their answers' bytes, five each, put in front of the history h.
unfoldable pub events_in : List Event → List RoutineCall → List ℕ → List Event
events_in h [] b = h
events_in h (c ∷ cs) b = events_in (event_with c (get_or b 0 0) (word_at b 1) ∷ h) cs (drop answer_size b)

-- What a call has answered and written that ran the calls cs, its table begun with no handover.
pub record Simulated (cs : List RoutineCall) (done : SimulateCall) : Type 0 where
  -- all are taken
  pub taken : done.memory.result ≡ length cs
  -- both clauses of the simulation in the memory
  pub strict :
      let s = routines_in done.memory.bytes done.memory.active done.memory.holder in
      NoneFilled s → StrictlyRun s
  -- each cell of the table
  pub table_is :
      (r c : ℕ) → r < max_cores → c < max_cores →
      get_or done.table (max_cores * r + c) 0 ≡ min most_handovers (handovers (events_in [] cs done.answers) r c)
  -- each source's count of dropped triggers
  pub dropped_is :
      (i : ℕ) →
      (source_at (state_from done.memory.bytes) i).dropped ≡ min most_dropped (dropped_in (events_in [] cs done.answers) (suc i))

-- From what making writes, and a table of zeros.
abbrev pub simulated_fresh : ℕ → ℕ → RoutineMemory → List ℕ → List ℕ → SimulateCall
simulated_fresh n m made list answers =
    simulate_call made.bytes made.active made.holder list answers (replicate table_size 0)

abbrev pub SimulateStrict : Type 0
SimulateStrict =
    (n m : ℕ) (b active holder list answers : List ℕ) → InRange n m → fits_make b active holder ≡ true → room_for list answers ≡ true →
    Simulated (calls_in list) (simulated_fresh n m (make_routines_call n m b active holder) list answers)
