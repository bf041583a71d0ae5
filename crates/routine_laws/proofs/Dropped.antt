-- The counts of dropped triggers in a simulation. Assumes nothing.
--   dropped_call_counted    what a command refused by 6 hands back (`DroppedCallCounted`)
--   dropped_in_calls        what each call does to them (`DroppedInCalls`): entry and exit nothing
--   dropped_in_runs         they are those of the run's history (`DroppedInRuns`)
use Prim.Native.Nat.{ℕ, suc, min}
use mathlib.Core.Path.{◌≡◌, refl, sym, ◌∙◌, ap}
use mathlib.Core.List.{List, [], ◌∷◌}
use mathlib.Core.Bool.{Bool, true, false, cond}
use lib.Dec.{eqb}
use native.Mathlib.Omega.{arith}
use Rattle.lists.specs.Numbers.{one_more_up_to}
use Rattle.lists.proofs.Held.{held_by_lem}
use Rattle.model.specs.declared.Controller.{Controller}
use Rattle.model.specs.declared.Answer.{Answer}
use Rattle.model.specs.declared.Command.TheVariants.{OnSource, OnCore}
use Rattle.model.specs.declared.SourceAction.TheVariants.{Redeliver, Complete}
use Rattle.model.specs.declared.CoreAction.TheVariants.{SetCorePriority, Claim}
use Rattle.model.specs.Records.{most_dropped, source_id, source_at, reset, answer}
use Rattle.model.specs.WellFormed.{sizes_in_range}
use Rattle.model.specs.Commands.{already_pending, bad_size, drop_counted, execute, make}
use Rattle.effects.proofs.Counts.{accepted_count, undropped, refused_count, dropped_changes, fresh_count}
use Rattle.routines.specs.declared.Routines.{Routines}
use Rattle.routines.specs.declared.RoutineCall.{RoutineCall}
use Rattle.routines.specs.declared.RoutineCall.TheVariants.{Direct, Enter, Exit}
use Rattle.routines.specs.Routines.{with_controller, routine_answer, active_at, fresh_routines, command_of, call_refusal_of, call_refusal, claim_on}
use Rattle.routines.specs.Routines.{hand_back, entered, complete_on, exited, commanded, accepted_call, after_refused_call, refused_call}
use Rattle.routines.specs.Routines.{call_routine, run_routines}
use Rattle.routines.specs.History.{Event, drops_call, dropped_in, event_of, history_after}
use Rattle.routines.specs.Statements.{DroppedCallCounted, DroppedInCalls, DroppedInRuns}
use Rattle.routine_laws.proofs.Answered.{accepted_number, by_call}
use Rattle.routine_laws.proofs.Standing.{sound_accepted, command_accepted, call_dropped}

pub dropped_call_counted : DroppedCallCounted
dropped_call_counted s id a =
    let after : Routines = with_controller s (drop_counted s.controller (command_of id a)) in
    by_call s (Direct id a) (λ r. r.number ≡ already_pending → r ≡ routine_answer after already_pending 0 0)
    (λ e six. absurd (omega (arith, six, accepted_number s (Direct id a))))
    (λ h six. ap (refused_call s (Direct id a)) six)

-- ---- each call

abbrev count_at : Controller → ℕ → ℕ
count_at s i = (source_at s i).dropped

-- Redeliver is no trigger, and an idle core has none.
handed_count : (c : Controller) (prev i : ℕ) → count_at (hand_back c prev).state i ≡ count_at c i
handed_count c prev i = go (eqb prev 0)
  where
    go : (b : Bool) →
        count_at (cond {A = Answer} b (answer c 0 0 0) (execute c (OnSource (source_id prev) Redeliver))).state i ≡ count_at c i
    go true = refl
    go false = dropped_changes c (OnSource (source_id prev) Redeliver) i

module _ (s : Routines) (i : ℕ) where
  abbrev counted : Bool → ℕ
  counted b = cond b (one_more_up_to most_dropped (count_at s.controller i)) (count_at s.controller i)

  accepted_call_lem : (c : RoutineCall) → call_refusal s c ≡ 0 →
      count_at (accepted_call s c).state.controller i ≡ counted (drops_call (suc i) c (accepted_call s c).number)
  unfolding entered exited commanded call_refusal_of
  accepted_call_lem (Direct id a) e =
      let (sound, checks) = sound_accepted s (Direct id a) e in
      accepted_count s.controller (command_of id a) i (command_accepted s.controller (command_of id a) sound.controller checks) ∙
      ap counted (sym (undropped (suc i) (command_of id a) 0 (λ z. omega arith)))
  accepted_call_lem (Enter k) e =
      handed_count (claim_on s k).state (active_at s k.0) i ∙ dropped_changes s.controller (OnCore k Claim) i
  accepted_call_lem (Exit k) e =
      dropped_changes (complete_on s k).state (OnCore k (SetCorePriority 0)) i ∙
      dropped_changes s.controller (OnSource (source_id (active_at s k.0)) Complete) i

  refused_call_lem : (c : RoutineCall) →
      count_at (after_refused_call s c (call_refusal s c)).controller i ≡ counted (drops_call (suc i) c (call_refusal s c))
  refused_call_lem (Direct id a) =
      refused_count s.controller i (command_of id a) (call_refusal s (Direct id a))
      (λ six. (call_dropped s id a six).1 ∙ sym six)
  refused_call_lem (Enter k) = refl
  refused_call_lem (Exit k) = refl

pub dropped_in_calls : DroppedInCalls
dropped_in_calls s c i =
    by_call s c (λ a. count_at a.state.controller i ≡ counted s i (drops_call (suc i) c a.number))
    (accepted_call_lem s i c) (λ h. refused_call_lem s i c)

-- ---- runs

run_counted : (i : ℕ) (cs : List RoutineCall) (s : Routines) (h : List Event) →
    count_at s.controller i ≡ min most_dropped (dropped_in h (suc i)) →
    count_at (run_routines s cs).controller i ≡ min most_dropped (dropped_in (history_after h s cs) (suc i))
unfolding run_routines history_after dropped_in
run_counted i [] s h e = e
run_counted i (c ∷ cs) s h e =
    run_counted i cs (call_routine s c).state (event_of s c ∷ h)
    (dropped_in_calls s c i ∙
    held_by_lem most_dropped (count_at s.controller i) (dropped_in h (suc i)) e (drops_call (suc i) c (call_routine s c).number))

none_made : (n m i : ℕ) → count_at (make n m).state i ≡ 0
unfolding make
none_made n m i = go (sizes_in_range n m)
  where
    go : (b : Bool) → count_at (cond {A = Answer} b (answer (reset n m) 0 0 0) (answer (reset 1 1) bad_size 0 0)).state i ≡ 0
    go true = fresh_count n m i
    go false = fresh_count 1 1 i

pub dropped_in_runs : DroppedInRuns
unfolding dropped_in
dropped_in_runs n m cs i = run_counted i cs (fresh_routines n m) [] (none_made n m i)
