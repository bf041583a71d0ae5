-- After an entry the box's request runs on the core and the interrupted one waits (`EntryTakes`); after an exit the core is idle at 0 and
-- its request is completed (`ExitLeaves`). Assumes nothing.
use Prim.Native.Nat.{ℕ, suc, pred, ◌<◌}
use mathlib.Core.Path.{◌≡◌, sym, ◌∙◌, ap}
use lib.ListN.{length}
use lib.Seq.{get_or-set_same}
use mathlib.Core.Bool.{true, false}
use native.Mathlib.Omega.{arith}
use Rattle.model.specs.declared.CoreId.{CoreId}
use Rattle.model.specs.declared.Source.{Source}
use Rattle.model.specs.declared.Controller.{Controller}
use Rattle.model.specs.declared.Command.TheVariants.{OnSource, OnCore}
use Rattle.model.specs.declared.SourceAction.TheVariants.{Complete}
use Rattle.model.specs.declared.CoreAction.TheVariants.{SetCorePriority}
use Rattle.model.specs.Records.{no_source, source_id, source_at, core_at, ended}
use Rattle.model.specs.Commands.{effect, refusal, execute}
use Rattle.effects.proofs.Checked.{accepted}
use Rattle.routines.specs.declared.Routines.{Routines}
use Rattle.routines.specs.declared.RoutineCall.TheVariants.{Enter, Exit}
use Rattle.routines.specs.Routines.{active_at, active_index, Runs, IdleAt, SoundRoutines, claim_on, entered, complete_on, lower, exited}
use Rattle.routines.specs.Statements.{EnteredOn, EntryTakes, LeftOn, ExitLeaves}
use Rattle.routine_laws.proofs.Answered.{call_accepted}
use Rattle.routine_laws.proofs.Standing.{running, idle_at_zero, sound_accepted, enter_checked, exit_checked}
use Rattle.routine_laws.proofs.After.{pending_after}
use Rattle.routine_laws.proofs.EntryKept.{claim_id, entered_kept, entered_active, entered_m, some_box}
use Rattle.routine_laws.proofs.ExitKept.{completed, lowered, exited_kept, exited_active, exited_m}
use Rattle.routine_laws.proofs.Cycles.{entered_waits}

module _ (s : Routines) (sound : SoundRoutines s) (k : CoreId) (k_lt : k.0 < s.controller.m)
    (filled : (core_at s.controller k.0).message.filled ≡ true) where
  abbrev t : Routines
  t = (entered s k).state

  runs_box : (i : ℕ) → (claim_on s k).id.0 ≡ suc i → Runs t i k.0
  runs_box i q =
      let at : active_at t k.0 ≡ suc i = entered_active s sound k k_lt filled ∙ q in
      let inside : k.0 < t.controller.m = omega (arith, k_lt, entered_m s sound k k_lt filled) in
      let r : Runs t (active_index t k.0) k.0 =
      running t (entered_kept s sound k k_lt filled) k.0 inside (λ z. absurd (omega (arith, z, at))) in
      let is : active_index t k.0 ≡ i = ap pred at in
      rw is at r

  entered_on : EnteredOn s k (entered s k)
  unfolding entered
  entered_on =
      record {
        answers_box = claim_id s sound k k_lt filled;
        runs = runs_box;
        some_id = λ z. some_box s sound k k_lt filled (sym (claim_id s sound k k_lt filled) ∙ z);
        interrupted = entered_waits s sound k k_lt filled;
      }

pub entry_takes : EntryTakes
entry_takes s k e =
    let (sound, checks) = sound_accepted s (Enter k) e in
    let (k_lt, filled) = enter_checked s k checks in
    rw (call_accepted s (Enter k) e) (entered_on s sound k k_lt filled)

-- ---- exit

-- complete ends the request
ended_after : (c : Controller) (i : ℕ) → refusal c (OnSource (source_id (suc i)) Complete) ≡ 0 →
    (source_at (execute c (OnSource (source_id (suc i)) Complete)).state i).pending ≡ false
unfolding effect
ended_after c i e =
    let (w, (h, g)) = accepted c (OnSource (source_id (suc i)) Complete) e in
    let fits : i < length c.sources = omega (arith, h.1, w.consistent.sources_length, w.consistent.n_le) in
    pending_after c (OnSource (source_id (suc i)) Complete) e i ∙
    ap (λ (r : Source). r.pending) (get_or-set_same c.sources i (ended (source_at c i)) no_source fits)

-- and set core priority leaves it so
pending_lowered : (c : Controller) (k : CoreId) (e : refusal c (OnCore k (SetCorePriority 0)) ≡ 0) (i : ℕ) →
    (source_at (lower c k).state i).pending ≡ (source_at c i).pending
unfolding effect
pending_lowered c k e i = pending_after c (OnCore k (SetCorePriority 0)) e i

module _ (s : Routines) (sound : SoundRoutines s) (k : CoreId) (k_lt : k.0 < s.controller.m) (busy : 0 < active_at s k.0) where
  idles : IdleAt (exited s k).state k.0
  idles =
      let off : active_at (exited s k).state k.0 ≡ 0 = exited_active s sound k k_lt busy in
      let inside : k.0 < (exited s k).state.controller.m = omega (arith, k_lt, exited_m s sound k k_lt busy) in
      record { none_active = off; at_zero = idle_at_zero (exited s k).state (exited_kept s sound k k_lt busy) k.0 inside off }

  ended_there : (i : ℕ) → active_at s k.0 ≡ suc i → (source_at (complete_on s k).state i).pending ≡ false
  ended_there i q =
      rw q (ended_after s.controller i (rw q at (completed s sound k k_lt busy)))

  left_on : LeftOn s k (exited s k)
  unfolding exited
  left_on =
      record {
        idles = idles;
        completed = λ i q. pending_lowered (complete_on s k).state k (lowered s sound k k_lt busy) i ∙ ended_there i q;
      }

pub exit_leaves : ExitLeaves
exit_leaves s k e =
    let (sound, checks) = sound_accepted s (Exit k) e in
    let (k_lt, busy) = exit_checked s k checks in
    rw (call_accepted s (Exit k) e) (left_on s sound k k_lt busy)
