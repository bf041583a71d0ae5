-- Every call keeps the simulation sound (`RoutinesKept`), a fresh one is sound (`FreshSound`), and so is every state of a run from fresh.
-- Assumes nothing.
use Prim.Native.Nat.{ℕ, suc, ◌<◌}
use mathlib.Core.Path.{◌≡◌, refl, sym, ◌∙◌}
use mathlib.Core.List.{List, [], ◌∷◌}
use mathlib.Core.Bool.{not, ◌&&◌}
use Rattle.model.specs.declared.Source.{Source}
use Rattle.model.specs.Records.{index_of, dropped_one, source_at, with_source}
use Rattle.model.specs.Requests.{boxed, claimed}
use Rattle.effects.proofs.Dropped.{by_refusal, drops_named, one_read, dropped_well_formed}
use Rattle.routines.specs.declared.Routines.{Routines}
use Rattle.routines.specs.declared.RoutineCall.{RoutineCall}
use Rattle.routines.specs.declared.RoutineCall.TheVariants.{Direct, Enter, Exit}
use Rattle.routines.specs.Routines.{with_controller, Runs, SoundRoutines, action_of, command_of, call_refusal_of, call_refusal, accepted_call}
use Rattle.routines.specs.Routines.{after_refused_call, call_routine, run_routines}
use Rattle.routines.specs.Statements.{RoutinesKept}
use Rattle.routine_laws.proofs.Answered.{by_call}
use Rattle.routine_laws.proofs.Standing.{sound_accepted, enter_checked, exit_checked, command_accepted, call_dropped}
use Rattle.routine_laws.proofs.DirectKept.{commanded_kept}
use Rattle.routine_laws.proofs.EntryKept.{entered_kept}
use Rattle.routine_laws.proofs.ExitKept.{exited_kept}

accepted_kept : (s : Routines) → SoundRoutines s → (c : RoutineCall) → call_refusal_of s c ≡ 0 → SoundRoutines (accepted_call s c).state
unfolding call_refusal_of
accepted_kept s sound (Direct id a) e =
    commanded_kept s sound id a (command_accepted s.controller (command_of id a) sound.controller e)
accepted_kept s sound (Enter k) e = let (l, filled) = enter_checked s k e in entered_kept s sound k l filled
accepted_kept s sound (Exit k) e = let (l, busy) = exit_checked s k e in exited_kept s sound k l busy

-- ---- a refused call

-- One more dropped trigger at a source: everything else that is looked at stays.
module _ (s : Routines) (sound : SoundRoutines s) (at : ℕ) (at_in : at < s.controller.n) where
  abbrev counted : Routines
  counted = with_controller s (with_source s.controller at (dropped_one (source_at s.controller at)))

  same_claimed : (i : ℕ) → claimed counted.controller i ≡ claimed s.controller i
  same_claimed i =
      one_read (λ (r : Source). r.pending && r.delivered && not (boxed s.controller.cores s.controller.m (suc i))) (λ x r. refl)
      s.controller at i

  runs_on : (i k : ℕ) → Runs s i k → Runs counted i k
  runs_on i k r =
      record { core_in = r.core_in; source_in = r.source_in; is_claimed = same_claimed i ∙ r.is_claimed; active = r.active }

  ran : (i k : ℕ) → Runs counted i k → Runs s i k
  ran i k r =
      record { core_in = r.core_in; source_in = r.source_in; is_claimed = sym (same_claimed i) ∙ r.is_claimed; active = r.active }

  dropped_sound : SoundRoutines counted
  dropped_sound =
      record {
        controller = dropped_well_formed s.controller sound.controller at at_in;
        active_length = sound.active_length;
        holder_length = sound.holder_length;
        runs_once = λ i l e.
            let (k, once) = sound.runs_once i l (sym (same_claimed i) ∙ e) in
            (k, record { here = runs_on i k once.here; only = once.only });
        runs_at_its_priority = λ i k r.
            sound.runs_at_its_priority i k (ran i k r) ∙
            sym (one_read (λ (q : Source). q.priority) (λ x q. refl) s.controller at i);
        runs_where_held = λ i k r. sound.runs_where_held i k (ran i k r);
        rest_idle = λ k l none.
            let idle = sound.rest_idle k l (λ i r. none i (runs_on i k r)) in
            record { none_active = idle.none_active; at_zero = idle.at_zero };
        holders_in_range = sound.holders_in_range;
      }

refused_kept : (s : Routines) → SoundRoutines s → (c : RoutineCall) → SoundRoutines (after_refused_call s c (call_refusal s c))
refused_kept s sound (Direct id a) =
    by_refusal s.controller (command_of id a) (call_refusal s (Direct id a)) (λ t. SoundRoutines (with_controller s t))
    (λ h. sound)
    (λ six. dropped_sound s sound (index_of id) (drops_named s.controller id (action_of a) (call_dropped s id a six).1).1)
refused_kept s sound (Enter k) = sound
refused_kept s sound (Exit k) = sound

-- ---- every call

pub routines_kept : RoutinesKept
routines_kept s c sound =
    by_call s c (λ a. SoundRoutines a.state) (λ e. accepted_kept s sound c (sound_accepted s c e).1)
    (λ h. refused_kept s sound c)

pub run_sound : (s : Routines) (cs : List RoutineCall) → SoundRoutines s → SoundRoutines (run_routines s cs)
unfolding run_routines
run_sound s [] sound = sound
run_sound s (c ∷ cs) sound = run_sound (call_routine s c).state cs (routines_kept s c sound)
