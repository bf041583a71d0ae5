-- What is claimed of the interrupt routines. Propositions only; each is proved in the crate `routine_laws`. Assumes nothing.
-- Source: document 02, 4/14, in its order; the counts of dropped triggers are 7/14's.
use Rattle.std.specs.Prelude.{ℕ, suc, ◌*◌, ◌<◌, ◌≤◌, min, ◌≡◌, ◌↔◌, ◌≢◌, List, true, false, cond}
use Rattle.model.specs.declared.SourceId.{SourceId}
use Rattle.model.specs.declared.CoreId.{CoreId}
use Rattle.model.specs.Records.{index_of, most_dropped, source_at, core_at}
use Rattle.model.specs.Priorities.{top_priority}
use Rattle.model.specs.Requests.{waiting, candidate}
use Rattle.model.specs.Commands.{malformed, bad_core, bad_source, bad_priority, already_pending, nothing_to_claim, not_claimed, priority_in_use}
use Rattle.model.specs.Commands.{drop_counted}
use Rattle.model.specs.Statements.{InRange, turn}
use Rattle.lists.specs.Numbers.{one_more_up_to}
use Rattle.routines.specs.declared.Routines.{Routines}
use Rattle.routines.specs.declared.DirectAction.{DirectAction}
use Rattle.routines.specs.declared.DirectAction.TheVariants.{SetPriority, Trigger}
use Rattle.routines.specs.declared.RoutineCall.{RoutineCall}
use Rattle.routines.specs.declared.RoutineCall.TheVariants.{Direct, Enter, Exit}
use Rattle.routines.specs.declared.RoutineAnswer.{RoutineAnswer}
use Rattle.routines.specs.Routines.{with_controller, command_of, active_at, fresh_routines, sound_routines, Runs, IdleAt, SoundRoutines}
use Rattle.routines.specs.Routines.{claim_on, hand_back}
use Rattle.routines.specs.Routines.{complete_on, lower, routine_answer, call_refusal, call_routine, Handovers, cell_at}
use Rattle.routines.specs.Routines.{no_handovers, most_handovers, table_after, run_routines, run_table}
use Rattle.routines.specs.History.{handovers, drops_call, dropped_in, history}

-- ---- soundness

abbrev pub RoutinesTestExact : Type 0
RoutinesTestExact = (s : Routines) → (sound_routines s ≡ true) ↔ SoundRoutines s

abbrev pub FreshSound : Type 0
FreshSound = (n m : ℕ) → InRange n m → SoundRoutines (fresh_routines n m)

-- ---- refusals

-- The lines that a call can meet, each with its number: 1 of the simulation, those of the four commands, and those of entry and exit.
pub data CallRow (s : Routines) : RoutineCall → ℕ → Type 0 where
  not_sound : {c : RoutineCall} → ¬ SoundRoutines s → CallRow s c malformed
  no_such_source : {id : SourceId} {a : DirectAction} → ¬ ((1 ≤ id.0) × (id.0 ≤ s.controller.n)) → CallRow s (Direct id a) bad_source
  source_priority :
      {id : SourceId} {p : ℕ} → ¬ ((1 ≤ p) × (p ≤ top_priority s.controller.n)) → CallRow s (Direct id (SetPriority p)) bad_priority
  is_pending : {id : SourceId} → (source_at s.controller (index_of id)).pending ≡ true → CallRow s (Direct id Trigger) already_pending
  in_use :
      {id : SourceId} {p : ℕ} → (source_at s.controller (index_of id)).pending ≡ true →
      CallRow s (Direct id (SetPriority p)) priority_in_use
  no_core_entered : {k : CoreId} → s.controller.m ≤ k.0 → CallRow s (Enter k) bad_core
  unfilled_box : {k : CoreId} → (core_at s.controller k.0).message.filled ≡ false → CallRow s (Enter k) nothing_to_claim
  no_core_left : {k : CoreId} → s.controller.m ≤ k.0 → CallRow s (Exit k) bad_core
  idle_core : {k : CoreId} → active_at s k.0 ≡ 0 → CallRow s (Exit k) not_claimed

-- "Refusals, in this order": given exactly when no line of an earlier turn is met; accepted exactly when no line is met.
pub record CallRefusals (number : ℕ) (s : Routines) (c : RoutineCall) : Type 0 where
  pub given : (k : ℕ) → 1 ≤ k → (number ≡ k) ↔ (CallRow s c k × ((j : ℕ) → CallRow s c j → turn k ≤ turn j))
  pub accepted : (number ≡ 0) ↔ ((k : ℕ) → ¬ CallRow s c k)

abbrev pub CallRefusalsExact : Type 0
CallRefusalsExact = (s : Routines) (c : RoutineCall) → CallRefusals (call_routine s c).number s c

-- "Refusals, changing nothing": a call refused by a number other than 6 hands back the state given, id 0 and 0 cycles.
abbrev pub RefusedCallUnchanged : Type 0
RefusedCallUnchanged =
    (s : Routines) (c : RoutineCall) → (call_routine s c).number ≢ 0 → (call_routine s c).number ≢ already_pending →
    call_routine s c ≡ routine_answer s (call_routine s c).number 0 0

-- Document 02, 7/14: a call of a command refused by 6 hands back the state given with one more dropped trigger at the source named.
-- Entry and exit are never refused by 6.
abbrev pub DroppedCallCounted : Type 0
DroppedCallCounted =
    (s : Routines) (id : SourceId) (a : DirectAction) → (call_routine s (Direct id a)).number ≡ already_pending →
    call_routine s (Direct id a) ≡ routine_answer (with_controller s (drop_counted s.controller (command_of id a))) already_pending 0 0

-- Nor does it count a handover.
abbrev pub RefusedUncounted : Type 0
RefusedUncounted = (t : Handovers) (s : Routines) (c : RoutineCall) → (call_routine s c).number ≢ 0 → table_after t s c ≡ t

-- ---- every call keeps the simulation sound

abbrev pub RoutinesKept : Type 0
RoutinesKept = (s : Routines) (c : RoutineCall) → SoundRoutines s → SoundRoutines (call_routine s c).state

-- The commands inside an accepted entry or exit are accepted.
abbrev pub EntryAnswered : Type 0
EntryAnswered =
    (s : Routines) (k : CoreId) → call_refusal s (Enter k) ≡ 0 →
    ((claim_on s k).number ≡ 0) × ((hand_back (claim_on s k).state (active_at s k.0)).number ≡ 0)

abbrev pub ExitAnswered : Type 0
ExitAnswered =
    (s : Routines) (k : CoreId) → call_refusal s (Exit k) ≡ 0 →
    ((complete_on s k).number ≡ 0) × ((lower (complete_on s k).state k).number ≡ 0)

-- After an accepted entry the request of the box, whose id it answers, runs on the core; the interrupted one waits.
pub record EnteredOn (s : Routines) (k : CoreId) (a : RoutineAnswer) : Type 0 where
  pub answers_box : a.id.0 ≡ (core_at s.controller k.0).message.source.0
  pub runs : (i : ℕ) → a.id.0 ≡ suc i → Runs a.state i k.0
  pub some_id : a.id.0 ≢ 0
  pub interrupted : (i : ℕ) → active_at s k.0 ≡ suc i → waiting (source_at a.state.controller i) ≡ true

abbrev pub EntryTakes : Type 0
EntryTakes = (s : Routines) (k : CoreId) → call_refusal s (Enter k) ≡ 0 → EnteredOn s k (call_routine s (Enter k))

-- After an accepted exit the core is idle at 0, and its request is completed.
pub record LeftOn (s : Routines) (k : CoreId) (a : RoutineAnswer) : Type 0 where
  pub idles : IdleAt a.state k.0
  pub completed : (i : ℕ) → active_at s k.0 ≡ suc i → (source_at a.state.controller i).pending ≡ false

abbrev pub ExitLeaves : Type 0
ExitLeaves = (s : Routines) (k : CoreId) → call_refusal s (Exit k) ≡ 0 → LeftOn s k (call_routine s (Exit k))

-- "Each with the cycles of its commands added": an entry takes none, since its claim changes no current priority and the interrupted
-- request is above no core, its own having been the least; and no call takes more than 2m.
abbrev pub EntryTakesNoCycle : Type 0
EntryTakesNoCycle = (s : Routines) (k : CoreId) → (call_routine s (Enter k)).cycles ≡ 0

abbrev pub CallCyclesBounded : Type 0
CallCyclesBounded = (s : Routines) (c : RoutineCall) → (call_routine s c).cycles ≤ 2 * s.controller.m

-- ---- both clauses, over every run

-- Of a state with no box filled: a candidate is a waiting unmasked request, a running one is active on a core.
pub record StrictlyRun (s : Routines) : Type 0 where
  -- "no waiting unmasked request is above any running one"
  pub none_above :
      (i j k : ℕ) → i < s.controller.n → candidate (source_at s.controller i) ≡ true → Runs s j k →
      (source_at s.controller i).priority ≤ (source_at s.controller j).priority
  -- "a core idles only if none waits unmasked"
  pub none_waits :
      (i k : ℕ) → i < s.controller.n → k < s.controller.m → active_at s k ≡ 0 → candidate (source_at s.controller i) ≡ false
  -- a core that doesn't idle runs a request
  pub runs_or_idles : (k : ℕ) → k < s.controller.m → active_at s k ≢ 0 → (i : ℕ) × Runs s i k

abbrev pub NoneFilled : Routines → Type 0
NoneFilled s = (k : ℕ) → k < s.controller.m → (core_at s.controller k).message.filled ≡ false

-- "A run, from fresh": of any length, with any arguments, refused calls included.
abbrev pub EveryRunStrict : Type 0
EveryRunStrict =
    (n m : ℕ) (cs : List RoutineCall) → InRange n m → NoneFilled (run_routines (fresh_routines n m) cs) →
    StrictlyRun (run_routines (fresh_routines n m) cs)

-- ---- handovers

-- "Held at 65,535, equal to the count in the run's history".
abbrev pub TableIsHistory : Type 0
TableIsHistory =
    (n m : ℕ) (cs : List RoutineCall) → InRange n m → (r c : ℕ) →
    cell_at (run_table no_handovers (fresh_routines n m) cs) r c ≡ min most_handovers (handovers (history (fresh_routines n m) cs) r c)

-- No core hands over to itself.
abbrev pub DiagonalZero : Type 0
DiagonalZero =
    (n m : ℕ) (cs : List RoutineCall) → InRange n m → (k : ℕ) → cell_at (run_table no_handovers (fresh_routines n m) cs) k k ≡ 0

-- ---- dropped triggers: document 02, 7/14

-- Of every call on every state, and of every source: the count is one more, held, exactly if a trigger of it is answered by 6, else as
-- before.
abbrev pub DroppedInCalls : Type 0
DroppedInCalls =
    (s : Routines) (c : RoutineCall) (i : ℕ) →
    let before = (source_at s.controller i).dropped in
    (source_at (call_routine s c).state.controller i).dropped ≡
    cond (drops_call (suc i) c (call_routine s c).number) (one_more_up_to most_dropped before) before

-- "From a fresh controller", in the simulation too.
abbrev pub DroppedInRuns : Type 0
DroppedInRuns =
    (n m : ℕ) (cs : List RoutineCall) (i : ℕ) →
    (source_at (run_routines (fresh_routines n m) cs).controller i).dropped ≡
    min most_dropped (dropped_in (history (fresh_routines n m) cs) (suc i))
