-- An accepted exit keeps the simulation sound, and its commands are accepted (`ExitAnswered`). Assumes nothing.
--   exited_kept    core k lets its request go, and is idle at 0
use Prim.Native.Nat.{ℕ, suc, ◌<◌}
use mathlib.Core.Path.{◌≡◌, refl, sym, ◌∙◌, subst}
use mathlib.Core.Logic.{◌≢◌}
use mathlib.Core.Bool.{true}
use lib.ListN.{length, set, length-set}
use lib.Seq.{get_or-set_same, get_or-set_other}
use native.Mathlib.Omega.{arith}
use borrow.Author.Tests.{lt-ltb, le-leb}
use Rattle.lists.proofs.Bools.{clash}
use Rattle.model.specs.declared.CoreId.{CoreId}
use Rattle.model.specs.declared.Controller.{Controller}
use Rattle.model.specs.declared.Command.TheVariants.{OnSource, OnCore}
use Rattle.model.specs.declared.SourceAction.TheVariants.{Complete}
use Rattle.model.specs.declared.CoreAction.TheVariants.{SetCorePriority}
use Rattle.model.specs.Records.{source_id}
use Rattle.model.specs.Priorities.{top_priority}
use Rattle.model.specs.Requests.{claimed}
use Rattle.model.specs.Commands.{refusal_of, refusal, execute}
use Rattle.effects.proofs.Kept.{well_formed-kept}
use Rattle.routines.specs.declared.Routines.{Routines}
use Rattle.routines.specs.declared.RoutineCall.TheVariants.{Exit}
use Rattle.routines.specs.Routines.{active_at, active_index, routines_with, Runs, SoundRoutines, complete_on, lower, exited}
use Rattle.routines.specs.Statements.{ExitAnswered}
use Rattle.routine_laws.proofs.Standing.{running, sound_accepted, exit_checked, command_accepted, answered}
use Rattle.routine_laws.proofs.After.{n_after, m_after, lowered_claimed, lowered_priority, lowered_here, lowered_other}
use Rattle.routine_laws.proofs.LetGo.{LetGo, complete_accepted, completed_goes}
use Rattle.routine_laws.proofs.Switch.{Stays, Switch, switch_sound}

module _ (s : Routines) (sound : SoundRoutines s) (k : CoreId) (k_lt : k.0 < s.controller.m) (busy : 0 < active_at s k.0) where
  abbrev c : Controller
  c = s.controller

  abbrev prev : ℕ
  prev = active_at s k.0

  here : Runs s (active_index s k.0) k.0
  here = running s sound k.0 k_lt (λ z. absurd (omega (arith, z, busy)))

  -- after the complete, and after the core is set to 0
  abbrev c' : Controller
  c' = (complete_on s k).state

  abbrev c'' : Controller
  c'' = (lower c' k).state

  pub completed : refusal s.controller (OnSource (source_id (active_at s k.0)) Complete) ≡ 0
  completed =
      rw here.active (complete_accepted c sound.controller (active_index s k.0) here.source_in here.is_claimed)

  goes : LetGo c c' prev
  goes =
      subst (λ id. LetGo c (execute c (OnSource (source_id id) Complete)).state id) (sym here.active)
      (completed_goes c sound.controller (active_index s k.0) here.source_in here.is_claimed)

  pub completed_m : (complete_on s k).state.m ≡ s.controller.m
  completed_m = goes.m_same

  lower_checks : refusal_of c' (OnCore k (SetCorePriority 0)) ≡ 0
  unfolding refusal_of
  lower_checks = rw (lt-ltb k.0 c'.m (omega (arith, k_lt, goes.m_same)), le-leb 0 (top_priority c'.n) (omega arith))

  pub lowered : refusal (complete_on s k).state (OnCore k (SetCorePriority 0)) ≡ 0
  lowered = command_accepted c' (OnCore k (SetCorePriority 0)) goes.is_well_formed lower_checks

  fits : k.0 < length s.active
  fits = omega (arith, k_lt, sound.active_length, sound.controller.consistent.m_le)

  abbrev t : Routines
  t = routines_with c'' (set s.active k.0 0) s.holder

  claimed_before : (i : ℕ) → i < c.n → suc i ≢ 0 → claimed c'' i ≡ true → (claimed c i ≡ true) × (suc i ≢ prev)
  claimed_before i l h e =
      let e' : claimed c' i ≡ true = sym (lowered_claimed c' k 0 lowered i (omega (arith, goes.n_same))) ∙ e in
      let ne : suc i ≢ prev = λ q. clash e' (goes.gone i q) in
      (sym (goes.others i l ne) ∙ e', ne)

  stays : (i : ℕ) → i < c.n → claimed c i ≡ true → suc i ≢ prev → Stays s t i
  stays i l e ne =
      record {
        is_claimed = lowered_claimed c' k 0 lowered i (omega (arith, goes.n_same)) ∙ goes.others i l ne ∙ e;
        same_priority = lowered_priority c' k 0 lowered i ∙ goes.priority i ne;
        same_holder = refl;
      }

  switched : Switch s t k.0 0
  switched =
      record {
        is_well_formed = well_formed-kept c' (OnCore k (SetCorePriority 0)) goes.is_well_formed;
        n_same = n_after c' (OnCore k (SetCorePriority 0)) lowered ∙ goes.n_same;
        m_same = m_after c' (OnCore k (SetCorePriority 0)) lowered ∙ goes.m_same;
        core_in = k_lt;
        active_length = length-set s.active k.0 0 ∙ sound.active_length;
        holder_length = sound.holder_length;
        here = get_or-set_same s.active k.0 0 0 fits;
        id_le = omega arith;
        none = λ q. lowered_here c' k 0 lowered;
        taken = λ i q. absurd (omega arith);
        elsewhere = λ j h. get_or-set_other s.active k.0 j 0 0 h;
        apart = λ j l h some q. absurd (omega arith);
        configured = λ j h. lowered_other c' k 0 lowered j h ∙ goes.configured j;
        claimed_before = claimed_before;
        stays = stays;
        holders_in_range = sound.holders_in_range;
      }

  pub exited_kept : SoundRoutines (exited s k).state
  unfolding exited
  exited_kept = switch_sound sound switched

  pub exited_active : active_at (exited s k).state k.0 ≡ 0
  unfolding exited
  exited_active = get_or-set_same s.active k.0 0 0 fits

  pub exited_m : (exited s k).state.controller.m ≡ s.controller.m
  unfolding exited
  exited_m = switched.m_same

  pub exit_numbers : ((complete_on s k).number ≡ 0) × ((lower (complete_on s k).state k).number ≡ 0)
  exit_numbers = (answered c (OnSource (source_id prev) Complete) completed, answered c' (OnCore k (SetCorePriority 0)) lowered)

pub exit_answered : ExitAnswered
exit_answered s k e =
    let (sound, checks) = sound_accepted s (Exit k) e in
    let (k_lt, busy) = exit_checked s k checks in
    exit_numbers s sound k k_lt busy
