-- A simulation in a host's memory, before and after a call. Helpers of contracts; nothing here needs to be believed.
--   taken_from s c        the last holder, plus one, of the request that the call c takes, if it is an accepted entry; else 0
--   outcome_in r, from_in r    what is answered besides that holder, and that holder, plus one, 0 for none
--   Says r a from        what is answered besides the simulation
--   simulation_in m      the simulation that the memory m holds
--   Same m m'            m' is lent from the same host's memory as m
--   Standing b ..        the memory holds a sound simulation, with the numbers of its cores and sources
--   Did s c r b' ..      the call c on s has answered r, and the memory holds what it leaves
--   Running g b ..       a list's simulation between two calls; g are its numbers, if the test says that it is sound, and else none
--   Went s c r b' ..     the call c on s has answered r, and the list can go on
use Rattle.std.specs.Prelude.{ℕ, ◌≡◌, List, cond, length, eqb, Option, Result, Ok, Err, IfSome, is_some}
use Rattle.model.specs.declared.Refusal.{Refusal}
use Rattle.model.specs.Records.{max_sources, max_cores}
use Rattle.layout.specs.Bytes.{state_size, state_bytes, state_from}
use Rattle.in_place.specs.declared.Ranking.{Ranking}
use Rattle.in_place.specs.Held.{Held}
use Rattle.in_place.specs.Steps.{Outcome, Says as OutcomeSays}
use Rattle.routines.specs.declared.Routines.{Routines}
use Rattle.routines.specs.declared.RoutineCall.{RoutineCall}
use Rattle.routines.specs.declared.RoutineCall.TheVariants.{Direct, Enter, Exit}
use Rattle.routines.specs.declared.RoutineAnswer.{RoutineAnswer}
use Rattle.routines.specs.Routines.{holder_number, sound_routines, SoundRoutines, call_refusal, call_routine, box_holder}
use Rattle.routines.specs.Calls.{routines_in}
use Rattle.routine_steps.specs.declared.AcceptedCall.{AcceptedCall}
use Rattle.routine_steps.specs.declared.Memory.{Memory}

abbrev pub taken_from : Routines → RoutineCall → ℕ
taken_from s (Direct id a) = 0
taken_from s (Enter k) = cond (eqb (call_refusal s (Enter k)) 0) (box_holder s k.0) 0
taken_from s (Exit k) = 0

abbrev pub Stepped : Type 0
Stepped = Result AcceptedCall Refusal

abbrev pub outcome_in : Stepped → Outcome
outcome_in (Ok d) = Ok d.accepted
outcome_in (Err e) = Err e

abbrev pub from_in : Stepped → ℕ
from_in (Ok d) = holder_number d.from
from_in (Err e) = 0

abbrev pub Says : Stepped → RoutineAnswer → ℕ → Type 0
Says r a from = OutcomeSays (outcome_in r) a.number a.id.0 a.cycles × (from_in r ≡ from)

abbrev pub simulation_in : Memory → Routines
simulation_in m = routines_in m.state.now m.active.now m.holder.now

abbrev pub Same : Memory → Memory → Type 0
Same m m' =
    (m'.state.ghost_name ≡ m.state.ghost_name) × (m'.active.ghost_name ≡ m.active.ghost_name) × (m'.holder.ghost_name ≡ m.holder.ghost_name)

pub record Standing (b active holder : List ℕ) (g : Ranking) : Type 0 where
  pub held : Held (state_from b) b g
  pub sound : SoundRoutines (routines_in b active holder)

pub record Did (s : Routines) (c : RoutineCall) (r : Stepped) (b' active' holder' : List ℕ) (g' : Ranking) : Type 0 where
  pub says : Says r (call_routine s c) (taken_from s c)
  pub held : Held (call_routine s c).state.controller b' g'
  pub active_is : active' ≡ (call_routine s c).state.active
  pub holder_is : holder' ≡ (call_routine s c).state.holder

pub record Running (g : Option Ranking) (b active holder : List ℕ) : Type 0 where
  pub size : length b ≡ state_size
  pub active_length : length active ≡ max_cores
  pub holder_length : length holder ≡ max_sources
  pub whole : b ≡ state_bytes (state_from b)
  pub tested : is_some g ≡ sound_routines (routines_in b active holder)
  pub held : IfSome g (Held (state_from b) b)

pub record Went (s : Routines) (c : RoutineCall) (r : Stepped) (b' active' holder' : List ℕ) (g' : Option Ranking) : Type 0 where
  pub says : Says r (call_routine s c) (taken_from s c)
  pub state_is : routines_in b' active' holder' ≡ (call_routine s c).state
  pub running : Running g' b' active' holder'
