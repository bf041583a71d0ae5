-- The history of a run of the routines' calls, and the handovers in it. Definitions only. Assumes nothing.
-- Source: document 02, 4/14: "equal to the count in the run's history".
-- A history has calls and what they answered, nothing of the state. It has the newest event first.
--   last_holder h id        the core that last held the request of source id, plus one; 0: none
--   handovers h r c        how often a request last held by core r was next claimed by core c, another core
--   history_after h s cs    the history h, and then that of the calls cs from state s
--   dropped_in h id         how many triggers of source id were answered by 6: document 02, 7/14
use Rattle.std.specs.Prelude.{ℕ, suc, ◌+◌, List, [], ◌∷◌, Bool, false, not, ◌&&◌, cond, eqb}
use Rattle.model.specs.Drops.{drops}
use Rattle.routines.specs.declared.Routines.{Routines}
use Rattle.routines.specs.declared.DirectAction.TheVariants.{SetPriority, Mask, Unmask, Trigger}
use Rattle.routines.specs.declared.RoutineCall.{RoutineCall}
use Rattle.routines.specs.declared.RoutineCall.TheVariants.{Direct, Enter, Exit}
use Rattle.routines.specs.Routines.{command_of, call_routine}

-- A call with the number and the id that it answered.
pub record Event : Type 0 where
  pub call : RoutineCall
  pub number : ℕ
  pub id : ℕ

abbrev pub event_with : RoutineCall → ℕ → ℕ → Event
event_with c number id = record { call = c; number = number; id = id }

-- ---- the last holder

-- An accepted entry holds the request that it answers, an accepted trigger makes one that nobody has held; all else leaves it.
abbrev pub held_by : RoutineCall → ℕ → ℕ → ℕ → ℕ
held_by (Direct x (SetPriority p)) answered id before = before
held_by (Direct x Mask) answered id before = before
held_by (Direct x Unmask) answered id before = before
held_by (Direct x Trigger) answered id before = cond (eqb x.0 id) 0 before
held_by (Enter k) answered id before = cond (eqb answered id) (suc k.0) before
held_by (Exit k) answered id before = before

unfoldable pub last_holder : List Event → ℕ → ℕ
last_holder [] id = 0
last_holder (e ∷ h) id = cond (eqb e.number 0) (held_by e.call e.id id (last_holder h id)) (last_holder h id)

-- ---- handovers

-- An entry on core c of a request that core r, another one, held last.
abbrev pub passes_on : RoutineCall → ℕ → List Event → ℕ → ℕ → Bool
passes_on (Direct x a) answered h r c = false
passes_on (Enter k) answered h r c = eqb k.0 c && not (eqb r c) && eqb (last_holder h answered) (suc r)
passes_on (Exit k) answered h r c = false

unfoldable pub handovers : List Event → ℕ → ℕ → ℕ
handovers [] r c = 0
handovers (e ∷ h) r c = handovers h r c + cond (eqb e.number 0 && passes_on e.call e.id h r c) 1 0

-- ---- dropped triggers

abbrev pub drops_call : ℕ → RoutineCall → ℕ → Bool
drops_call id (Direct x a) number = drops id (command_of x a) number
drops_call id (Enter k) number = false
drops_call id (Exit k) number = false

unfoldable pub dropped_in : List Event → ℕ → ℕ
dropped_in [] id = 0
dropped_in (e ∷ h) id = dropped_in h id + cond (drops_call id e.call e.number) 1 0

-- ---- the history of a run

abbrev pub event_of : Routines → RoutineCall → Event
event_of s c = event_with c (call_routine s c).number (call_routine s c).id.0

unfoldable pub history_after : List Event → Routines → List RoutineCall → List Event
history_after h s [] = h
history_after h s (c ∷ cs) = history_after (event_of s c ∷ h) (call_routine s c).state cs

abbrev pub history : Routines → List RoutineCall → List Event
history s cs = history_after [] s cs
