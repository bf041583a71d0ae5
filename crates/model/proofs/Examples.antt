-- The cases of document 01's table hold of the definitions, each list by one computation. Assumes nothing.
--   marked_pass     T1 to T12
--   further_pass    further rows of the table, the tie between two requests, and set source priority of a pending source
--   asked_pass      from a state in which a request's priority isn't its source's
--   computed        opens what a run computes with, for the computed cases of the crates above too
--   start_set_up    the table's start state is what 64 commands make of a fresh controller
use mathlib.Core.Path.{◌≡◌, refl}
use mathlib.Core.List.{List}
use mathlib.Core.Bool.{true}
use lib.Count.{count_leading_zeros}
use Rattle.model.specs.Behaviours.{run_by}
use Rattle.model.specs.declared.Controller.{Controller}
use Rattle.model.specs.declared.Command.{Command}
use Rattle.model.specs.Records.{reset}
use Rattle.model.specs.Priorities.{floor_log2, priority_width, top_priority}
use Rattle.lists.specs.Walks.{every, some, walk, tree}
use Rattle.model.specs.Requests.{boxed}
use Rattle.model.specs.Arbitration.{highest, least, least_priority}
use Rattle.model.specs.WellFormed.{sizes_in_range, lists_whole, source_in_range, is_empty_box, core_in_range, is_reset_source, is_reset_core}
use Rattle.model.specs.WellFormed.{backed_by, sources_in_range, cores_in_range, spares_reset, boxes_backed, boxes_distinct, boxes_clean}
use Rattle.model.specs.WellFormed.{candidates_settled, covered_settled, frugal, consistent, quiet, well_formed}
use Rattle.model.specs.Settling.{retract, deliver, first_dirty, arbitrate, next, cycle, settle, count_of, cycles_of}
use Rattle.model.specs.Commands.{effect, refusal_of, refusal, answered_id, settled, refused, execute, run}
use Rattle.lists.specs.Rows.{gather}
use Rattle.model.specs.Cases.{numbered, start, set_up, answers_as, passes, all_pass, marked, further, apart, asked, all_counted}
use Rattle.model.specs.Cases.{drop_cases}

-- To open this name is to open every definition that a run computes with.
unfoldable pub computed : Controller → List Command → Controller
unfolding count_leading_zeros floor_log2 priority_width top_priority every some walk tree boxed highest least least_priority sizes_in_range
    lists_whole source_in_range is_empty_box core_in_range is_reset_source is_reset_core backed_by sources_in_range cores_in_range spares_reset
    boxes_backed boxes_distinct boxes_clean candidates_settled covered_settled frugal consistent quiet well_formed retract deliver first_dirty
    arbitrate next cycle settle count_of cycles_of effect refusal_of refusal answered_id settled refused execute run_by gather numbered start
    answers_as passes all_pass
computed = run

pub marked_pass : all_pass start marked ≡ true
unfolding computed marked
marked_pass = refl

pub further_pass : all_pass start further ≡ true
unfolding computed further
further_pass = refl

pub asked_pass : all_pass apart asked ≡ true
unfolding computed apart asked
asked_pass = refl

pub drops_counted : all_counted drop_cases ≡ true
unfolding computed all_counted drop_cases
drops_counted = refl

pub start_set_up : run (reset 32 2) (set_up 32) ≡ start
unfolding computed set_up
start_set_up = refl
