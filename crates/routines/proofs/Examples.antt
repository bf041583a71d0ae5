-- The worked runs, states and histories of the interrupt routines hold of the definitions, each list by one computation. Assumes nothing.
use mathlib.Core.Path.{◌≡◌, refl}
use mathlib.Core.List.{List}
use mathlib.Core.Bool.{true, and-true, and_assoc}
use Rattle.lists.specs.Walks.{tally}
use Rattle.model.proofs.Examples.{computed as run-computed}
use Rattle.routines.specs.declared.Routines.{Routines}
use Rattle.routines.specs.declared.RoutineCall.{RoutineCall}
use Rattle.routines.specs.Routines.{routine_lists, active_once, at_its_priority, last_held_there, others_idle, holders_inside, sound_routines}
use Rattle.routines.specs.Routines.{call_refusal_of, call_refusal, entered, exited, commanded, call_routine, counted, table_after}
use Rattle.routines.specs.Routines.{run_routines, run_table}
use Rattle.routines.specs.History.{last_holder, handovers, dropped_in, history_after}
use Rattle.routines.specs.Cases.{begun, passes, all_pass, run_cases, RoutineClausesAreTest, one, refused_by_one, breaks_just, all_break}
use Rattle.routines.specs.Cases.{broken_cases, all_tell, history_cases, HeldCells, all_count, drop_runs}

-- To open this name is to open every definition that a run of the routines computes with.
unfoldable pub computed : Routines → List RoutineCall → Routines
unfolding run-computed tally routine_lists active_once at_its_priority last_held_there others_idle holders_inside sound_routines call_refusal_of
    call_refusal entered exited commanded call_routine counted table_after run_routines run_table last_holder handovers history_after
computed = run_routines

pub runs_pass : all_pass run_cases ≡ true
unfolding computed begun passes all_pass run_cases
runs_pass = refl

pub routine_clauses_are_test : RoutineClausesAreTest
unfolding sound_routines
routine_clauses_are_test s = simp (and-true, and_assoc)

pub states_broken : all_break broken_cases ≡ true
unfolding computed begun one refused_by_one breaks_just all_break broken_cases
states_broken = refl

pub histories_tell : all_tell history_cases ≡ true
unfolding last_holder handovers all_tell history_cases
histories_tell = refl

pub drops_counted : all_count drop_runs ≡ true
unfolding computed dropped_in begun all_count drop_runs
drops_counted = refl

pub held_cells : HeldCells
held_cells = (refl, refl, refl)
