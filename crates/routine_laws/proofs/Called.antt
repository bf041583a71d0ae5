-- What the calls for hosts on a simulation leave (`RefusedCallKeeps`, `RefusedSimulateKeeps`, `SimulateStrict`). Assumes nothing.
--   routines_machine    the calls of a simulation with its table, as a machine that answers each by five bytes
--   cell_in_words      a cell of a table, in its words
--   events_read        the events read from the answers' bytes are those of the calls; events-told: from the front of a buffer
use Prim.Native.Nat.{ℕ, suc, ◌+◌, ◌*◌, ◌<◌, ◌≤◌, min}
use mathlib.Core.Path.{◌≡◌, refl, sym, ◌∙◌, ap, subst}
use mathlib.Core.Logic.{◌≢◌}
use mathlib.Core.List.{List, [], ◌∷◌, ◌++◌}
use mathlib.Core.Bool.{true}
use native.Mathlib.Omega.{arith}
use lib.ListN.{length, get_or, drop, replicate, length-replicate}
use lib.Seq.{sets}
use Rattle.lists.specs.Rows.{joined, tabulated}
use Rattle.lists.proofs.Bools.{Flag, on, off, flag, and_l, and_in}
use Rattle.lists.proofs.Rows.{get_or-joined}
use borrow.Author.Tests.{eq-eqb}
use Rattle.model.specs.Records.{max_cores, most_dropped, source_at}
use Rattle.model.specs.Commands.{already_pending}
use Rattle.model.specs.Statements.{InRange}
use Rattle.layout.specs.Bytes.{answer_size, state_bytes, is_state, number_in, no_count, room_for}
use Rattle.layout.specs.Statements.{Sized, AreBytes}
use Rattle.layout.proofs.Records.{word_back}
use Rattle.layout.proofs.RoundTrip.{state_read_back, state_encoded, bytes_written_back}
use Rattle.layout.proofs.Machines.{OneByOne, Machine, answers_in_front}
use Rattle.layout.proofs.Fives.{fives_length}
use Rattle.layout.proofs.Lists.{answers_fit}
use Rattle.well_formed.proofs.Reset.{makes_exactly}
use Rattle.routines.specs.declared.Routines.{Routines}
use Rattle.routines.specs.declared.RoutineCall.{RoutineCall}
use Rattle.routines.specs.Routines.{make_routines, fresh_routines, SoundRoutines, call_refusal, accepted_call, refused_call, call_routine}
use Rattle.routines.specs.Routines.{Handovers, cell_at, most_handovers, no_handovers, table_after, run_routines, run_table}
use Rattle.routines.specs.History.{Event, handovers, dropped_in, event_of, history_after, history}
use Rattle.routines.specs.Calls.{one_call, call_of, calls_in, routines_in, is_simulation, table_size, table_in, table_words, packed_call, memory_with}
use Rattle.routines.specs.Calls.{memory_of, fits_make, make_routines_call, called_on, routine_call, simulate_call_of, fits_simulate, call_answers}
use Rattle.routines.specs.Calls.{call_answer_bytes, simulated, simulate_call}
use Rattle.routines.specs.Statements.{NoneFilled, StrictlyRun}
use Rattle.routines.specs.CallStatements.{events_in, Simulated, simulated_fresh, RefusedCallKeeps, RefusedSimulateKeeps, SimulateStrict}
use Rattle.routine_laws.proofs.Answered.{accepted_number, by_call, handed_back}
use Rattle.routine_laws.proofs.Kept.{run_sound}
use Rattle.routine_laws.proofs.Strict.{fresh_sound, every_run_strict}
use Rattle.routine_laws.proofs.Cells.{Whole}
use Rattle.routine_laws.proofs.Tally.{fresh_run_tallied}
use Rattle.routine_laws.proofs.Dropped.{dropped_in_runs}

-- ---- the calls as a machine

-- the simulation, and the table beside it
pub record Counting : Type 0 where
  pub routines : Routines
  pub table : Handovers

abbrev pub counting : Routines → Handovers → Counting
counting s t = record { routines = s; table = t }

abbrev pub step_on : Counting → RoutineCall → Counting
step_on x c = counting (call_routine x.routines c).state (table_after x.table x.routines c)

abbrev pub says_on : Counting → RoutineCall → List ℕ
says_on x c = call_answer_bytes (call_routine x.routines c)

abbrev pub run_on : Counting → List RoutineCall → Counting
run_on x cs = counting (run_routines x.routines cs) (run_table x.table x.routines cs)

abbrev pub answers_on : Counting → List RoutineCall → List ℕ
answers_on x cs = joined call_answer_bytes (call_answers x.routines cs)

pub routines_one_by_one : OneByOne step_on says_on run_on answers_on
unfolding run_routines run_table call_answers joined
routines_one_by_one =
    record {
      five = λ x c. refl;
      run_none = λ x. refl;
      run_more = λ x c cs. refl;
      answers_none = λ x. refl;
      answers_more = λ x c cs. refl;
    }

abbrev pub routines_machine : Machine Counting RoutineCall
routines_machine = record { next = step_on; says = says_on; run = run_on; answers = answers_on; one_by_one = routines_one_by_one }

-- ---- what is read from the answers' bytes, and from the table's words

events_read :
    (h : List Event) (s : Routines) (cs : List RoutineCall) (rest : List ℕ) →
    events_in h cs (joined call_answer_bytes (call_answers s cs) ++ rest) ≡ history_after h s cs
unfolding events_in call_answers joined history_after
events_read h s [] rest = refl
events_read h s (c ∷ cs) rest =
    rw (word_back (call_routine s c).id.0) (events_read (event_of s c ∷ h) (call_routine s c).state cs rest)

-- the answers are written to the front of their buffer
events_told :
    (s : Routines) (cs : List RoutineCall) (answers : List ℕ) → answer_size * length cs ≤ length answers →
    events_in [] cs (sets answers 0 (answers_on (counting s no_handovers) cs)) ≡ history s cs
events_told s cs answers enough =
    ap (events_in [] cs) (answers_in_front routines_machine answers (counting s no_handovers) cs enough)
    ∙ events_read [] s cs (drop (answer_size * length cs) answers)

-- no handover, as words
blank_table : table_in (replicate table_size 0) ≡ no_handovers
unfolding table_in tabulated
blank_table = refl

-- a cell stands behind the rows before its own
cell_in_words :
    (t : Handovers) → Whole t → (r c : ℕ) → r < max_cores → c < max_cores →
    get_or (table_words t) (max_cores * r + c) 0 ≡ cell_at t r c
cell_in_words t whole r c r-lt c_lt =
    get_or-joined max_cores t (λ i l. whole.columns i (omega (arith, l, whole.rows))) r c (omega (arith, r-lt, whole.rows)) c_lt

-- ---- refused calls

-- an accepted call answers a number whose part is 0
told_zero : (s : Routines) (c : RoutineCall) → number_in (packed_call (accepted_call s c)) ≡ 0
told_zero s c = omega (arith, accepted_number s c)

-- and one refused by 6 tells 6
told_six : (s : Routines) (c : RoutineCall) (number : ℕ) → number ≡ already_pending →
    number_in (packed_call (refused_call s c number)) ≡ already_pending
told_six s c number six = omega arith

module _ (c : RoutineCall) (b active holder : List ℕ) where
  -- of a memory that encodes a simulation
  kept : AreBytes b → is_state b ≡ true → let done = called_on (routines_in b active holder) c in
      number_in done.result ≢ 0 → number_in done.result ≢ already_pending → done ≡ memory_with done.result b active holder
  kept bytes e =
      let s : Routines = routines_in b active holder in
      by_call s c
      (λ a.
      number_in (packed_call a) ≢ 0 → number_in (packed_call a) ≢ already_pending →
      memory_of (packed_call a) a.state ≡ memory_with (packed_call a) b active holder)
      (λ z h other. absurd (h (told_zero s c)))
      (λ z h other.
      rw (handed_back s c (call_refusal s c) (λ six. other (told_six s c (call_refusal s c) six)), bytes_written_back b bytes e) refl)

pub refused_call_keeps : RefusedCallKeeps
unfolding routine_call
refused_call_keeps c b active holder bytes = go (flag (is_simulation b active holder))
  where
    go : Flag (is_simulation b active holder) → let done = routine_call c b active holder in
        number_in done.result ≢ 0 → number_in done.result ≢ already_pending → done ≡ memory_with done.result b active holder
    go (on e) = rw e (kept c b active holder bytes (and_l _ _ e))
    go (off e) = rw e (λ h other. refl)

pub refused_simulate_keeps : RefusedSimulateKeeps
unfolding simulate_call
refused_simulate_keeps b active holder list answers table short = go (flag (fits_simulate b active holder list answers table))
  where
    go : Flag (fits_simulate b active holder list answers table) → let done = simulate_call b active holder list answers table in
        done.memory.result ≡ no_count → done ≡ simulate_call_of (memory_with no_count b active holder) answers table
    go (on e) = rw e (λ h. absurd (omega (arith, h, short, fives_length (λ number at p. one_call (call_of number at p)) list)))
    go (off e) = rw e (λ h. refl)

-- ---- a run from fresh

sized : (s : Routines) → SoundRoutines s → Sized s.controller
sized s sound =
    record { sources = sound.controller.consistent.sources_length; cores = sound.controller.consistent.cores_length }

-- a sound simulation is read back from the memory that holds it
read_back : (s : Routines) → SoundRoutines s → routines_in (state_bytes s.controller) s.active s.holder ≡ s
read_back s sound = rw (state_read_back s.controller (sized s sound)) refl

made : (n m : ℕ) (b active holder : List ℕ) → InRange n m → fits_make b active holder ≡ true →
    make_routines_call n m b active holder ≡ memory_of (packed_call (make_routines n m)) (fresh_routines n m)
unfolding make_routines_call
made n m b active holder range fits = rw (fits, (makes_exactly n m).0 range) refl

module _ (s : Routines) (sound : SoundRoutines s) where
  encodes : is_simulation (state_bytes s.controller) s.active s.holder ≡ true
  encodes =
      and_in (state_encoded s.controller (sized s sound)).0
      (and_in (eq-eqb _ _ sound.active_length) (eq-eqb _ _ sound.holder_length))

  ran : (list answers : List ℕ) → room_for list answers ≡ true →
      simulate_call (state_bytes s.controller) s.active s.holder list answers (replicate table_size 0)
      ≡ simulated s (calls_in list) answers (replicate table_size 0)
  unfolding simulate_call
  ran list answers room =
      let table : List ℕ = replicate table_size 0 in
      let wide = eq-eqb (length table) table_size (length-replicate {A = ℕ} table_size 0) in
      rw (and_in encodes (and_in room wide), read_back s sound) refl

pub simulate_strict : SimulateStrict
simulate_strict n m b active holder list answers range fits room =
    let s : Routines = fresh_routines n m in
    let cs : List RoutineCall = calls_in list in
    let fresh : SoundRoutines s = fresh_sound n m range in
    let u : Routines = run_routines s cs in
    let same : routines_in (state_bytes u.controller) u.active u.holder ≡ u = read_back u (run_sound s cs fresh) in
    let x = fresh_run_tallied n m cs range in
    let enough : answer_size * length cs ≤ length answers = answers_fit list answers (λ number at p. one_call (call_of number at p)) room in
    let told : history s cs ≡ events_in [] cs (sets answers 0 (answers_on (counting s no_handovers) cs))
    = sym (events_told s cs answers enough) in
    let done : simulated_fresh n m (make_routines_call n m b active holder) list answers ≡ simulated s cs answers (replicate table_size 0)
    = ap (λ made. simulated_fresh n m made list answers) (made n m b active holder range fits) ∙ ran s fresh list answers room in
    subst (Simulated cs) (sym done)
    (record {
      taken = refl;
      strict = subst (λ (v : Routines). NoneFilled v → StrictlyRun v) (sym same) (every_run_strict n m cs range);
      table_is = λ r c r-lt c_lt.
          ap (λ (t : Handovers). get_or (table_words (run_table t s cs)) (max_cores * r + c) 0) blank_table
          ∙ cell_in_words (run_table no_handovers s cs) x.whole r c r-lt c_lt ∙ x.cells r c
          ∙ ap (λ h. min most_handovers (handovers h r c)) told;
      dropped_is = λ i.
          ap (λ (v : Routines). (source_at v.controller i).dropped) same ∙ dropped_in_runs n m cs i
          ∙ ap (λ h. min most_dropped (dropped_in h (suc i))) told;
    })
