-- The interrupt routines on all cores: the state of their simulation, when it is sound, its calls, and the table of handovers.
-- Definitions only. Assumes nothing.
-- Source: document 02, 4/14; source document 002, Listing 1.
--   active_at s k          the id that is active on core k; 0: the core is idle
--   holder_at s i          the core that last held the request of source i + 1, plus one; 0: none
--   sound_routines s       the computed test, on any record; SoundRoutines s is what it means, and the two are proved equivalent
--   call_refusal s c       the number for no, 0 for none
--   call_routine s c       the whole call, on any state: a refused one hands back the state it was given, id 0 and 0 cycles; a trigger
--                         refused by 6 hands it back with one more dropped trigger at its source
--   table_after t s c      the table of handovers after a call on s: the row is the core that held the request, the column the one that
--                         claims it
--   run_routines, run_table the state and the table after a list of calls, refused ones included
use Rattle.std.specs.Prelude.{ℕ, suc, pred, ◌+◌, ◌<◌, ◌≤◌, ◌≡◌, List, [], ◌∷◌, Bool, true, not, ◌&&◌, ◌||◌, cond, length, get_or, set, replicate, ltb, leb, eqb, Option, Some, None}
use Rattle.lists.specs.Numbers.{between, one_more_up_to}
use Rattle.lists.specs.Walks.{every, tally}
use Rattle.model.specs.declared.SourceId.{SourceId}
use Rattle.model.specs.declared.CoreId.{CoreId}
use Rattle.model.specs.declared.Controller.{Controller}
use Rattle.model.specs.declared.Answer.{Answer}
use Rattle.model.specs.declared.Command.{Command}
use Rattle.model.specs.declared.Command.TheVariants.{OnSource, OnCore}
use Rattle.model.specs.declared.SourceAction.{SourceAction}
use Rattle.model.specs.declared.SourceAction.TheVariants.{SetSourcePriority, Redeliver, Complete}
use Rattle.model.specs.declared.SourceAction.TheVariants.{Mask as MaskAction, Unmask as UnmaskAction, Trigger as TriggerAction}
use Rattle.model.specs.declared.CoreAction.TheVariants.{SetCorePriority, Claim}
use Rattle.model.specs.Records.{max_sources, max_cores, source_id, index_of, source_at, core_at, answer}
use Rattle.model.specs.Requests.{claimed}
use Rattle.model.specs.WellFormed.{well_formed, WellFormed}
use Rattle.model.specs.Commands.{malformed, bad_core, nothing_to_claim, not_claimed, unless, names_core, refusal_of, after_refusal, execute, make}
use Rattle.routines.specs.declared.Routines.{Routines}
use Rattle.routines.specs.declared.DirectAction.{DirectAction}
use Rattle.routines.specs.declared.DirectAction.TheVariants.{SetPriority, Mask, Unmask, Trigger}
use Rattle.routines.specs.declared.RoutineCall.{RoutineCall}
use Rattle.routines.specs.declared.RoutineCall.TheVariants.{Direct, Enter, Exit}
use Rattle.routines.specs.declared.RoutineAnswer.{RoutineAnswer}

-- ---- the state

abbrev pub active_at : Routines → ℕ → ℕ
active_at s k = get_or s.active k 0

abbrev pub holder_at : Routines → ℕ → ℕ
holder_at s i = get_or s.holder i 0

-- A core, if there is one, by the number that `holder_at` has for it.
abbrev pub holder_number : Option CoreId → ℕ
holder_number None = 0
holder_number (Some k) = suc k.0

abbrev pub routines_with : Controller → List ℕ → List ℕ → Routines
routines_with c active holder = record { controller = c; active = active; holder = holder }

abbrev pub with_controller : Routines → Controller → Routines
with_controller s c = routines_with c s.active s.holder

abbrev pub routine_answer : Routines → ℕ → ℕ → ℕ → RoutineAnswer
routine_answer s number id cycles = record { state = s; number = number; id = source_id id; cycles = cycles }

-- Beside a controller as it is made, nothing is active and nothing was held.
abbrev pub idle_beside : Controller → Routines
idle_beside c = routines_with c (replicate max_cores 0) (replicate max_sources 0)

abbrev pub make_routines : ℕ → ℕ → RoutineAnswer
make_routines n m = routine_answer (idle_beside (make n m).state) (make n m).number 0 0

abbrev pub fresh_routines : ℕ → ℕ → Routines
fresh_routines n m = (make_routines n m).state

-- ---- the test

unfoldable pub routine_lists : Routines → Bool
routine_lists s = eqb (length s.active) max_cores && eqb (length s.holder) max_sources

-- The request of source i + 1 is active on core k.
abbrev pub active_on : Routines → ℕ → ℕ → Bool
active_on s i k = eqb (active_at s k) (suc i)

-- "Each claimed request is active on exactly one core".
unfoldable pub active_once : Routines → Bool
active_once s =
    every s.controller.n (λ i. not (claimed s.controller i) || eqb (tally s.controller.m (active_on s i)) 1)

-- Where the request that is active on core k stands in the list of sources; 0 also if none is active.
abbrev pub active_index : Routines → ℕ → ℕ
active_index s k = pred (active_at s k)

-- A claimed request is active on core k.
abbrev pub runs : Routines → ℕ → Bool
runs s k =
    ltb k s.controller.m && between 1 s.controller.n (active_at s k) && claimed s.controller (active_index s k)

-- "at that core's configured priority"
unfoldable pub at_its_priority : Routines → Bool
at_its_priority s =
    every s.controller.m (λ k.
    not (runs s k) || eqb (core_at s.controller k).configured (source_at s.controller (active_index s k)).priority)

-- "and last held by it"
unfoldable pub last_held_there : Routines → Bool
last_held_there s = every s.controller.m (λ k. not (runs s k) || eqb (holder_at s (active_index s k)) (suc k))

-- "all other cores idle at 0": those past m too.
unfoldable pub others_idle : Routines → Bool
others_idle s = every max_cores (λ k. runs s k || (eqb (active_at s k) 0 && eqb (core_at s.controller k).configured 0))

-- "and every last holder is below m": that of sources past n too.
unfoldable pub holders_inside : Routines → Bool
holders_inside s = every max_sources (λ i. leb (holder_at s i) s.controller.m)

unfoldable pub sound_routines : Routines → Bool
sound_routines s =
    well_formed s.controller &&
    routine_lists s && active_once s && at_its_priority s && last_held_there s && others_idle s && holders_inside s

-- ---- the same as a proposition

-- The claimed request of source i + 1 is active on core k.
pub record Runs (s : Routines) (i k : ℕ) : Type 0 where
  pub core_in : k < s.controller.m
  pub source_in : i < s.controller.n
  pub is_claimed : claimed s.controller i ≡ true
  pub active : active_at s k ≡ suc i

-- It is active on core k and on no other.
pub record RunsOnce (s : Routines) (i k : ℕ) : Type 0 where
  pub here : Runs s i k
  pub only : (j : ℕ) → j < s.controller.m → active_at s j ≡ suc i → j ≡ k

-- A core that is idle at 0.
pub record IdleAt (s : Routines) (k : ℕ) : Type 0 where
  pub none_active : active_at s k ≡ 0
  pub at_zero : (core_at s.controller k).configured ≡ 0

pub record SoundRoutines (s : Routines) : Type 0 where
  pub controller : WellFormed s.controller
  pub active_length : length s.active ≡ max_cores
  pub holder_length : length s.holder ≡ max_sources
  pub runs_once : (i : ℕ) → i < s.controller.n → claimed s.controller i ≡ true → (k : ℕ) × RunsOnce s i k
  pub runs_at_its_priority : (i k : ℕ) → Runs s i k → (core_at s.controller k).configured ≡ (source_at s.controller i).priority
  pub runs_where_held : (i k : ℕ) → Runs s i k → holder_at s i ≡ suc k
  pub rest_idle : (k : ℕ) → k < max_cores → ((i : ℕ) → ¬ Runs s i k) → IdleAt s k
  pub holders_in_range : (i : ℕ) → i < max_sources → holder_at s i ≤ s.controller.m

-- ---- the calls

-- The command of the controller that a direct action is: never claim, redeliver, complete or set core priority.
abbrev pub action_of : DirectAction → SourceAction
action_of (SetPriority p) = SetSourcePriority p
action_of Mask = MaskAction
action_of Unmask = UnmaskAction
action_of Trigger = TriggerAction

abbrev pub command_of : SourceId → DirectAction → Command
command_of id a = OnSource id (action_of a)

-- ---- numbers for no

-- The checks after that of the state: "3; entry on an empty box 7; exit on an idle core 8"; of a command its own.
unfoldable pub call_refusal_of : Routines → RoutineCall → ℕ
call_refusal_of s (Direct id a) = refusal_of s.controller (command_of id a)
call_refusal_of s (Enter k) =
    unless (names_core s.controller k) bad_core (unless (core_at s.controller k.0).message.filled nothing_to_claim 0)
call_refusal_of s (Exit k) = unless (names_core s.controller k) bad_core (unless (ltb 0 (active_at s k.0)) not_claimed 0)

-- "1, in any call of the simulation".
unfoldable pub call_refusal : Routines → RoutineCall → ℕ
call_refusal s c = unless (sound_routines s) malformed (call_refusal_of s c)

-- ---- accepted calls

-- Listing 1, `next = cpu.claim()`.
abbrev pub claim_on : Routines → CoreId → Answer
claim_on s k = execute s.controller (OnCore k Claim)

-- Listing 1, `if (prev != 0) cpu.redeliver(prev)`: on an idle core nothing is commanded.
abbrev pub hand_back : Controller → ℕ → Answer
hand_back c prev = cond (eqb prev 0) (answer c 0 0 0) (execute c (OnSource (source_id prev) Redeliver))

-- Listing 1, `active[id] = next`, from what claim and redeliver answer; core k holds the request from now on.
abbrev pub entered_by : Routines → ℕ → Answer → Answer → RoutineAnswer
entered_by s k a b =
    routine_answer
    (routines_with b.state (set s.active k a.id.0) (set s.holder (index_of a.id) (suc k)))
    0
    a.id.0
    (a.cycles + b.cycles)

-- "Entry claims, redelivers the interrupted request if there is one, and makes the new one active".
unfoldable pub entered : Routines → CoreId → RoutineAnswer
entered s k = entered_by s k.0 (claim_on s k) (hand_back (claim_on s k).state (active_at s k.0))

-- Listing 1, `cpu.complete(3)`, of the routine that is active.
abbrev pub complete_on : Routines → CoreId → Answer
complete_on s k = execute s.controller (OnSource (source_id (active_at s k.0)) Complete)

-- Listing 1, `cpu.setPrio(0)`.
abbrev pub lower : Controller → CoreId → Answer
lower c k = execute c (OnCore k (SetCorePriority 0))

-- The last holder stays: it is not looked at before a trigger clears it.
abbrev pub exited_by : Routines → ℕ → Answer → Answer → RoutineAnswer
exited_by s k a b = routine_answer (routines_with b.state (set s.active k 0) s.holder) 0 0 (a.cycles + b.cycles)

-- "Exit completes and sets the core to 0".
unfoldable pub exited : Routines → CoreId → RoutineAnswer
exited s k = exited_by s k.0 (complete_on s k) (lower (complete_on s k).state k)

-- "A new trigger is a new request": nobody has held it.
abbrev pub holder_after : DirectAction → ℕ → List ℕ → List ℕ
holder_after (SetPriority p) i l = l
holder_after Mask i l = l
holder_after Unmask i l = l
holder_after Trigger i l = set l i 0

abbrev pub commanded_by : Routines → SourceId → DirectAction → Answer → RoutineAnswer
commanded_by s id a b =
    routine_answer (routines_with b.state s.active (holder_after a (index_of id) s.holder)) 0 0 b.cycles

unfoldable pub commanded : Routines → SourceId → DirectAction → RoutineAnswer
commanded s id a = commanded_by s id a (execute s.controller (command_of id a))

-- ---- whole calls

abbrev pub accepted_call : Routines → RoutineCall → RoutineAnswer
accepted_call s (Direct id a) = commanded s id a
accepted_call s (Enter k) = entered s k
accepted_call s (Exit k) = exited s k

-- What a refused call hands back: the state it was given, the controller as a command that is refused by the number leaves it.
abbrev pub after_refused_call : Routines → RoutineCall → ℕ → Routines
after_refused_call s (Direct id a) number = with_controller s (after_refusal s.controller (command_of id a) number)
after_refused_call s (Enter k) number = s
after_refused_call s (Exit k) number = s

abbrev pub refused_call : Routines → RoutineCall → ℕ → RoutineAnswer
refused_call s c number = routine_answer (after_refused_call s c number) number 0 0

unfoldable pub call_routine : Routines → RoutineCall → RoutineAnswer
call_routine s c = cond (eqb (call_refusal s c) 0) (accepted_call s c) (refused_call s c (call_refusal s c))

-- ---- handovers

-- "A table of cores by cores": a list of rows.
abbrev pub Handovers : Type 0
Handovers = List (List ℕ)

abbrev pub row_at : Handovers → ℕ → List ℕ
row_at t r = get_or t r []

abbrev pub cell_at : Handovers → ℕ → ℕ → ℕ
cell_at t r c = get_or (row_at t r) c 0

abbrev pub no_handovers : Handovers
no_handovers = replicate max_cores (replicate max_cores 0)

abbrev pub most_handovers : ℕ
most_handovers = 65535

-- "Held at 65,535".
abbrev pub raised : Handovers → ℕ → ℕ → Handovers
raised t r c = set t r (set (row_at t r) c (one_more_up_to most_handovers (cell_at t r c)))

-- Core k claims a request whose last holder is given, as in `holder_at`: "last held by one, next claimed by another".
abbrev pub handed_over : ℕ → ℕ → Bool
handed_over holder k = ltb 0 holder && not (eqb holder (suc k))

unfoldable pub counted : Handovers → ℕ → ℕ → Handovers
counted t holder k = cond (handed_over holder k) (raised t (pred holder) k) t

-- The last holder of the request in core k's box.
abbrev pub box_holder : Routines → ℕ → ℕ
box_holder s k = holder_at s (index_of (core_at s.controller k).message.source)

-- Only an accepted entry counts.
unfoldable pub table_after : Handovers → Routines → RoutineCall → Handovers
table_after t s (Direct id a) = t
table_after t s (Enter k) = cond (eqb (call_refusal s (Enter k)) 0) (counted t (box_holder s k.0) k.0) t
table_after t s (Exit k) = t

-- ---- runs

unfoldable pub run_routines : Routines → List RoutineCall → Routines
run_routines s [] = s
run_routines s (c ∷ cs) = run_routines (call_routine s c).state cs

unfoldable pub run_table : Handovers → Routines → List RoutineCall → Handovers
run_table t s [] = t
run_table t s (c ∷ cs) = run_table (table_after t s c) (call_routine s c).state cs
