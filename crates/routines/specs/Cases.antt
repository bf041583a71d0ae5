-- Worked runs of the interrupt routines, worked states that refusal 1 tells apart, and worked histories. Definitions only.
-- Source: document 02, 4/14 and 7/14. A run is a list of calls from document 01's start state, then one call with what it must answer.
--   begun         32 sources, every one unmasked with priority equal to its id, two cores, nothing active
--   passes c      whether the definitions answer as the case says
--   state_cases    for each clause of the test states that break it, beside the sound one that they differ from
--   histories     histories written by hand, with the handovers in them
--   drop_runs      runs with the triggers that they drop
use Rattle.std.specs.Prelude.{ℕ, ◌≡◌, List, [], ◌∷◌, ◌++◌, Bool, true, ◌&&◌, eqb, set}
use Rattle.lists.specs.Rows.{row}
use Rattle.model.specs.Records.{source_id, core_id, with_configured, core_with, empty_box, source_at, with_source, with_core}
use Rattle.model.specs.WellFormed.{well_formed}
use Rattle.model.specs.Cases.{start, same_numbers}
use Rattle.model.specs.StateCases.{all_hold, failing}
use Rattle.routines.specs.declared.Routines.{Routines}
use Rattle.routines.specs.declared.DirectAction.TheVariants.{SetPriority, Mask, Unmask, Trigger}
use Rattle.routines.specs.declared.RoutineCall.{RoutineCall}
use Rattle.routines.specs.declared.RoutineCall.TheVariants.{Direct, Enter, Exit}
use Rattle.routines.specs.declared.RoutineAnswer.{RoutineAnswer}
use Rattle.routines.specs.Routines.{active_at, routines_with, with_controller, idle_beside, routine_lists, active_once, at_its_priority}
use Rattle.routines.specs.Routines.{last_held_there, others_idle, holders_inside, sound_routines, call_routine, Handovers, cell_at}
use Rattle.routines.specs.Routines.{no_handovers, run_routines, run_table, raised}
use Rattle.routines.specs.History.{Event, event_with, last_holder, handovers, dropped_in, history}

-- ---- the calls, by numbers

set_priority : ℕ → ℕ → RoutineCall
set_priority id p = Direct (source_id id) (SetPriority p)

mask : ℕ → RoutineCall
mask id = Direct (source_id id) Mask

unmask : ℕ → RoutineCall
unmask id = Direct (source_id id) Unmask

trigger : ℕ → RoutineCall
trigger id = Direct (source_id id) Trigger

enter : ℕ → RoutineCall
enter k = Enter (core_id k)

exit : ℕ → RoutineCall
exit k = Exit (core_id k)

-- ---- runs

unfoldable pub begun : Routines
begun = idle_beside start

pub record RunCase : Type 0 where
  pub before : List RoutineCall
  pub call : RoutineCall
  pub number : ℕ
  pub id : ℕ
  pub cycles : ℕ
  -- the active ids of the two cores
  pub active : List ℕ
  -- the four cells of the two cores' table, row by row
  pub cells : List ℕ

-- The cells of the first two rows and columns.
abbrev pub four_cells : Handovers → List ℕ
four_cells t = cell_at t 0 0 ∷ cell_at t 0 1 ∷ cell_at t 1 0 ∷ cell_at t 1 1 ∷ []

-- The same, counted in the history.
abbrev pub four_counts : List Event → List ℕ
four_counts h = handovers h 0 0 ∷ handovers h 0 1 ∷ handovers h 1 0 ∷ handovers h 1 1 ∷ []

abbrev pub answers_as : RunCase → RoutineAnswer → Bool
answers_as c a =
    eqb a.number c.number &&
    eqb a.id.0 c.id && eqb a.cycles c.cycles && same_numbers (row 2 (active_at a.state)) c.active

unfoldable pub passes : RunCase → Bool
passes c =
    answers_as c (call_routine (run_routines begun c.before) c.call) &&
    same_numbers (four_cells (run_table no_handovers begun (c.before ++ (c.call ∷ [])))) c.cells &&
    same_numbers (four_counts (history begun (c.before ++ (c.call ∷ [])))) c.cells

unfoldable pub all_pass : List RunCase → Bool
all_pass [] = true
all_pass (c ∷ cs) = passes c && all_pass cs

-- Number, id, cycles; the two active ids; the four cells, which are also the counts in the history.
case : List RoutineCall → RoutineCall → ℕ → ℕ → ℕ → List ℕ → List ℕ → RunCase
case before call number id cycles active cells =
    record { before = before; call = call; number = number; id = id; cycles = cycles; active = active; cells = cells }

none : List ℕ
none = 0 ∷ 0 ∷ 0 ∷ 0 ∷ []

-- Core 0 runs 4, core 1 runs 3.
both : List RoutineCall
both = trigger 4 ∷ enter 0 ∷ trigger 3 ∷ enter 1 ∷ []

-- Core 0 runs 4; on core 1 9 has interrupted 3, which waits.
interrupted : List RoutineCall
interrupted = both ++ (trigger 9 ∷ enter 1 ∷ [])

-- Core 0 runs 3, which core 1 held; core 1 runs 9.
moved : List RoutineCall
moved = interrupted ++ (exit 0 ∷ enter 0 ∷ [])

unfoldable pub run_cases : List RunCase
unfolding case set_priority mask unmask trigger enter exit none both interrupted moved
run_cases =
    -- entry on an idle core
    case (trigger 4 ∷ []) (enter 0) 0 4 0 (4 ∷ 0 ∷ []) none ∷
    -- entry on a core that runs: the interrupted request waits, since no core is below it
    case (both ++ (trigger 9 ∷ [])) (enter 1) 0 9 0 (4 ∷ 9 ∷ []) none ∷
    -- exit: the interrupted request goes to the core that falls to 0
    case interrupted (exit 0) 0 0 1 (0 ∷ 9 ∷ []) none ∷
    -- last held by core 1, claimed by core 0: a handover
    case (interrupted ++ (exit 0 ∷ [])) (enter 0) 0 3 0 (3 ∷ 9 ∷ []) (0 ∷ 0 ∷ 1 ∷ 0 ∷ []) ∷
    -- back on its own core: none
    case (interrupted ++ (exit 1 ∷ [])) (enter 1) 0 3 0 (4 ∷ 3 ∷ []) none ∷
    -- held by core 1, then by core 0, then by core 1: two handovers
    case (moved ++ (trigger 10 ∷ enter 0 ∷ exit 1 ∷ [])) (enter 1) 0 3 0 (10 ∷ 3 ∷ []) (0 ∷ 1 ∷ 1 ∷ 0 ∷ []) ∷
    -- complete and trigger again: a new request, no handover
    case (trigger 4 ∷ enter 0 ∷ exit 0 ∷ trigger 9 ∷ enter 0 ∷ trigger 4 ∷ []) (enter 1) 0 4 0 (9 ∷ 4 ∷ []) none ∷
    -- exit with a box filled: 3 on core 1 is retracted, and goes to core 0, which falls to 0
    case (trigger 4 ∷ enter 0 ∷ trigger 3 ∷ []) (exit 0) 0 0 2 (0 ∷ 0 ∷ []) none ∷
    -- the four commands
    case (trigger 4 ∷ enter 0 ∷ []) (trigger 5) 0 0 1 (4 ∷ 0 ∷ []) none ∷
    case (trigger 4 ∷ enter 0 ∷ []) (mask 4) 0 0 0 (4 ∷ 0 ∷ []) none ∷
    case (mask 5 ∷ trigger 5 ∷ []) (unmask 5) 0 0 1 (0 ∷ 0 ∷ []) none ∷
    case (trigger 4 ∷ enter 0 ∷ []) (set_priority 5 9) 0 0 0 (4 ∷ 0 ∷ []) none ∷
    -- and their own numbers: 4, 5, 6, 9
    case [] (mask 33) 4 0 0 (0 ∷ 0 ∷ []) none ∷
    case [] (set_priority 4 128) 5 0 0 (0 ∷ 0 ∷ []) none ∷
    case (trigger 4 ∷ enter 0 ∷ []) (trigger 4) 6 0 0 (4 ∷ 0 ∷ []) none ∷
    case (trigger 4 ∷ enter 0 ∷ []) (set_priority 4 9) 9 0 0 (4 ∷ 0 ∷ []) none ∷
    -- entry on an empty box 7, exit on an idle core 8
    case [] (enter 0) 7 0 0 (0 ∷ 0 ∷ []) none ∷
    case (trigger 4 ∷ enter 0 ∷ []) (enter 0) 7 0 0 (4 ∷ 0 ∷ []) none ∷
    case (trigger 4 ∷ []) (exit 0) 8 0 0 (0 ∷ 0 ∷ []) none ∷
    -- core 2 of two, whose box is empty and which is idle: 3 comes first
    case [] (enter 2) 3 0 0 (0 ∷ 0 ∷ []) none ∷
    case [] (exit 2) 3 0 0 (0 ∷ 0 ∷ []) none ∷
    []

-- ---- states

abbrev pub routine_clauses : Routines → List Bool
routine_clauses s =
    well_formed s.controller ∷
    routine_lists s ∷ active_once s ∷ at_its_priority s ∷ last_held_there s ∷ others_idle s ∷ holders_inside s ∷ []

-- These are all: the test is their conjunction.
abbrev pub RoutineClausesAreTest : Type 0
RoutineClausesAreTest = (s : Routines) → sound_routines s ≡ all_hold (routine_clauses s)

-- A state that fails just the clauses at these places of the test, the first being 0.
pub record BrokenCase : Type 0 where
  pub breaks : List ℕ
  pub broken : Routines

-- Core 0 runs 4.
unfoldable pub one : Routines
unfolding trigger enter
one = run_routines begun (trigger 4 ∷ enter 0 ∷ [])

-- Every call is refused by 1, which comes before 3, 4, 7 and 8.
unfoldable pub refused_by_one : Routines → Bool
unfolding mask trigger enter exit
refused_by_one s =
    all_hold (
    eqb (call_routine s (mask 33)).number 1 ∷
    eqb (call_routine s (trigger 9)).number 1 ∷
    eqb (call_routine s (enter 0)).number 1 ∷
    eqb (call_routine s (enter 2)).number 1 ∷
    eqb (call_routine s (exit 0)).number 1 ∷
    eqb (call_routine s (exit 2)).number 1 ∷ [])

unfoldable pub breaks_just : BrokenCase → Bool
breaks_just c = same_numbers (failing 0 (routine_clauses c.broken)) c.breaks && refused_by_one c.broken

unfoldable pub all_break : List BrokenCase → Bool
all_break [] = true
all_break (c ∷ cs) = breaks_just c && all_break cs

breaking : List ℕ → Routines → BrokenCase
breaking places s = record { breaks = places; broken = s }

-- core k of the controller at a priority, its box empty
core_at_priority : Routines → ℕ → ℕ → Routines
core_at_priority s k p = with_controller s (with_core s.controller k (core_with p empty_box))

activated : Routines → ℕ → ℕ → Routines
activated s k id = routines_with s.controller (set s.active k id) s.holder

held_last : Routines → ℕ → ℕ → Routines
held_last s i holder = routines_with s.controller s.active (set s.holder i holder)

unfoldable pub broken_cases : List BrokenCase
unfolding breaking core_at_priority activated held_last
broken_cases =
    -- the controller isn't sound: source 9 at priority 0
    breaking (0 ∷ []) (with_controller one (with_source one.controller 8 (with_configured 0 (source_at one.controller 8)))) ∷
    -- a list too short
    breaking (1 ∷ []) (routines_with one.controller (4 ∷ []) one.holder) ∷
    -- the claimed request is active on no core
    breaking (2 ∷ []) (core_at_priority (activated one 0 0) 0 0) ∷
    -- on two cores, of which one at most can have held it last
    breaking (2 ∷ 4 ∷ []) (core_at_priority (activated one 1 4) 1 4) ∷
    -- its core's configured priority isn't the request's
    breaking (3 ∷ []) (core_at_priority one 0 5) ∷
    -- it was held by nobody, by another core
    breaking (4 ∷ []) (held_last one 3 0) ∷
    breaking (4 ∷ []) (held_last one 3 2) ∷
    -- a core without a running request isn't at 0
    breaking (5 ∷ []) (core_at_priority one 1 3) ∷
    -- a request is active that isn't claimed, that has no source, and on a core past m
    breaking (5 ∷ []) (activated one 1 5) ∷
    breaking (5 ∷ []) (activated one 1 33) ∷
    breaking (5 ∷ []) (activated one 2 4) ∷
    -- a last holder past m, of a source past n too
    breaking (6 ∷ []) (held_last one 8 3) ∷
    breaking (6 ∷ []) (held_last one 100 3) ∷
    []

-- ---- histories

-- A history, newest first, the last holder of source 4 in it, and the handovers among two cores.
pub record HistoryCase : Type 0 where
  pub events : List Event
  pub holder : ℕ
  pub counts : List ℕ

abbrev pub tells : HistoryCase → Bool
tells c = eqb (last_holder c.events 4) c.holder && same_numbers (four_counts c.events) c.counts

unfoldable pub all_tell : List HistoryCase → Bool
all_tell [] = true
all_tell (c ∷ cs) = tells c && all_tell cs

told : List Event → ℕ → List ℕ → HistoryCase
told events holder counts = record { events = events; holder = holder; counts = counts }

-- an accepted entry on core k that answered source 4, or an accepted trigger of it
entry : ℕ → Event
entry k = event_with (Enter (core_id k)) 0 4

triggered : Event
triggered = event_with (Direct (source_id 4) Trigger) 0 0

unfoldable pub history_cases : List HistoryCase
unfolding told entry triggered none
history_cases =
    told [] 0 none ∷
    told (entry 1 ∷ triggered ∷ []) 2 none ∷
    -- the row is the core that held it, the column the one that claims it
    told (entry 1 ∷ entry 0 ∷ triggered ∷ []) 2 (0 ∷ 1 ∷ 0 ∷ 0 ∷ []) ∷
    told (entry 0 ∷ entry 1 ∷ entry 0 ∷ []) 1 (0 ∷ 1 ∷ 1 ∷ 0 ∷ []) ∷
    -- a new trigger is a new request
    told (entry 1 ∷ triggered ∷ entry 0 ∷ []) 2 none ∷
    -- a refused trigger, a refused entry: nothing happened
    told (entry 1 ∷ event_with (Direct (source_id 4) Trigger) 6 0 ∷ entry 0 ∷ []) 2 (0 ∷ 1 ∷ 0 ∷ 0 ∷ []) ∷
    told (event_with (Enter (core_id 1)) 7 0 ∷ entry 0 ∷ []) 1 none ∷
    -- exit, mask, another source's entry
    told (event_with (Exit (core_id 0)) 0 0 ∷ entry 0 ∷ []) 1 none ∷
    told (entry 1 ∷ event_with (Direct (source_id 4) Mask) 0 0 ∷ entry 0 ∷ []) 2 (0 ∷ 1 ∷ 0 ∷ 0 ∷ []) ∷
    told (event_with (Enter (core_id 1)) 0 5 ∷ entry 0 ∷ []) 1 none ∷
    []

-- ---- the table

-- A cell is held at 65,535, and only the cell named changes.
abbrev pub HeldCells : Type 0
HeldCells =
    (cell_at (raised (set no_handovers 1 (65534 ∷ 65535 ∷ 7 ∷ [])) 1 0) 1 0 ≡ 65535) ×
    (cell_at (raised (set no_handovers 1 (65534 ∷ 65535 ∷ 7 ∷ [])) 1 1) 1 1 ≡ 65535) ×
    (cell_at (raised (set no_handovers 1 (65534 ∷ 65535 ∷ 7 ∷ [])) 1 1) 1 2 ≡ 7)

-- ---- dropped triggers: document 02, 7/14

-- Calls from the start state, and the triggers of source 4 that they drop: as its count has them, and as the history does.
pub record DropRun : Type 0 where
  pub calls : List RoutineCall
  pub dropped : ℕ

abbrev pub counts : DropRun → Bool
counts d =
    eqb (source_at (run_routines begun d.calls).controller 3).dropped d.dropped &&
    eqb (dropped_in (history begun d.calls) 4) d.dropped

unfoldable pub all_count : List DropRun → Bool
all_count [] = true
all_count (d ∷ ds) = counts d && all_count ds

dropping : List RoutineCall → ℕ → DropRun
dropping calls dropped = record { calls = calls; dropped = dropped }

unfoldable pub drop_runs : List DropRun
unfolding dropping set_priority mask trigger enter exit
drop_runs =
    -- in a box, waiting masked, running
    dropping (trigger 4 ∷ trigger 4 ∷ []) 1 ∷
    dropping (mask 4 ∷ trigger 4 ∷ trigger 4 ∷ trigger 4 ∷ []) 2 ∷
    dropping (trigger 4 ∷ enter 0 ∷ trigger 4 ∷ []) 1 ∷
    -- entry, exit and a new trigger leave it, and so do 7, 9, 8, 4 and another source's
    dropping
    (trigger 4 ∷
    trigger 4 ∷
    enter 0 ∷ enter 0 ∷ set_priority 4 9 ∷ exit 0 ∷ exit 0 ∷ trigger 4 ∷ trigger 33 ∷ trigger 5 ∷ trigger 5 ∷ []) 1 ∷
    []
