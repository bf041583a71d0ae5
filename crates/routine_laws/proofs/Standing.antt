-- What a sound simulation says of its cores, and what an accepted call has found. Assumes nothing.
--   running, same_core, idle_at_zero    a core that is active runs its request, no other core does, and an idle one is at 0
--   sound_accepted                      an accepted call has found a sound simulation, and has passed its checks
--   command_accepted, answered          a command that passes its checks on a sound controller is accepted, and answers 0
--   enter_checked, exit_checked         what the checks of entry and exit say
--   call_dropped                        what a call has found that is refused by 6
use Prim.Native.Nat.{ℕ, suc, ◌<◌, ◌≤◌}
use mathlib.Core.Path.{◌≡◌, sym, ◌∙◌, ap}
use mathlib.Core.Logic.{◌≢◌}
use mathlib.Core.Bool.{true, false}
use lib.Dec.{ltb}
use native.Mathlib.Omega.{arith}
use borrow.Author.Tests.{ltb-true, ltb-false}
use Rattle.lists.proofs.Bools.{Flag, on, off, flag, clash}
use Rattle.model.specs.declared.SourceId.{SourceId}
use Rattle.model.specs.declared.CoreId.{CoreId}
use Rattle.model.specs.declared.Controller.{Controller}
use Rattle.model.specs.declared.Answer.{Answer}
use Rattle.model.specs.declared.Command.{Command}
use Rattle.model.specs.Records.{max_cores, core_at}
use Rattle.model.specs.WellFormed.{WellFormed}
use Rattle.model.specs.Commands.{malformed, already_pending, names_core, refusal_of, refusal, settled, execute}
use Rattle.well_formed.proofs.Test.{well_formed-in}
use Rattle.effects.proofs.Accepted.{execute_accepted}
use Rattle.effects.proofs.Checked.{passed_to, passed}
use Rattle.routines.specs.declared.Routines.{Routines}
use Rattle.routines.specs.declared.DirectAction.{DirectAction}
use Rattle.routines.specs.declared.RoutineCall.{RoutineCall}
use Rattle.routines.specs.declared.RoutineCall.TheVariants.{Direct, Enter, Exit}
use Rattle.routines.specs.Routines.{active_at, active_index, runs, sound_routines, Runs, SoundRoutines, command_of, call_refusal_of}
use Rattle.routines.specs.Routines.{call_refusal}
use Rattle.routine_laws.proofs.Test.{runs_out, runs_in, routines_test_exact}

module _ (s : Routines) (sound : SoundRoutines s) where
  past_none : (k : ℕ) → runs s k ≡ false → (i : ℕ) → ¬ Runs s i k
  past_none k e i r = clash (runs_in s i k r) e

  inside : {k : ℕ} → k < s.controller.m → k < max_cores
  inside h = omega (arith, sound.controller.consistent.m_le)

  pub running : (k : ℕ) → k < s.controller.m → active_at s k ≢ 0 → Runs s (active_index s k) k
  running k h p = go (flag (runs s k))
    where
      go : Flag (runs s k) → Runs s (active_index s k) k
      go (on e) = runs_out s k e
      go (off e) = absurd (p (sound.rest_idle k (inside h) (past_none k e)).none_active)

  pub same_core : (i j l : ℕ) → Runs s i j → l < s.controller.m → active_at s l ≡ suc i → l ≡ j
  same_core i j l r h e =
      let (c, once) = sound.runs_once i r.source_in r.is_claimed in
      once.only l h e ∙ sym (once.only j r.core_in r.active)

  pub idle_at_zero : (k : ℕ) → k < s.controller.m → active_at s k ≡ 0 → (core_at s.controller k).configured ≡ 0
  idle_at_zero k h e =
      (sound.rest_idle k (inside h) (λ i r. absurd (omega (arith, e, r.active)))).at_zero

  pub active_le : (k : ℕ) → k < s.controller.m → active_at s k ≤ s.controller.n
  active_le k h = go (flag (ltb 0 (active_at s k)))
    where
      go : Flag (ltb 0 (active_at s k)) → active_at s k ≤ s.controller.n
      go (on e) =
          let r : Runs s (active_index s k) k = running k h (λ z. absurd (omega (arith, z, ltb-true 0 (active_at s k) e))) in
          omega (arith, r.active, r.source_in)
      go (off e) = omega (arith, ltb-false 0 (active_at s k) e)

-- ---- accepted calls

module _ (s : Routines) where
  pub sound_accepted : (c : RoutineCall) → call_refusal s c ≡ 0 → SoundRoutines s × (call_refusal_of s c ≡ 0)
  unfolding call_refusal
  sound_accepted c e =
      let (test, checks) = passed (sound_routines s) 0 (call_refusal_of s c) e in ((routines_test_exact s).0 test, checks)

  pub enter_checked :
      (k : CoreId) → call_refusal_of s (Enter k) ≡ 0 →
      (k.0 < s.controller.m) × ((core_at s.controller k.0).message.filled ≡ true)
  unfolding call_refusal_of
  enter_checked k e =
      let (name, rest) = passed (names_core s.controller k) 2 _ e in
      (ltb-true k.0 s.controller.m name, (passed (core_at s.controller k.0).message.filled 6 0 rest).0)

  pub exit_checked : (k : CoreId) → call_refusal_of s (Exit k) ≡ 0 → (k.0 < s.controller.m) × (0 < active_at s k.0)
  unfolding call_refusal_of
  exit_checked k e =
      let (name, rest) = passed (names_core s.controller k) 2 _ e in
      (ltb-true k.0 s.controller.m name, ltb-true 0 (active_at s k.0) (passed (ltb 0 (active_at s k.0)) 7 0 rest).0)

-- ---- commands inside a call

module _ (c : Controller) (o : Command) where
  checks_decide : WellFormed c → refusal c o ≡ refusal_of c o
  unfolding refusal
  checks_decide w = rw (well_formed-in c w)

  pub command_accepted : WellFormed c → refusal_of c o ≡ 0 → refusal c o ≡ 0
  command_accepted w e = checks_decide w ∙ e

  pub answered : refusal c o ≡ 0 → (execute c o).number ≡ 0
  unfolding settled
  answered e = ap (λ (a : Answer). a.number) (execute_accepted c o e)

-- A call that is refused by 6 has found a sound simulation, and the controller's own checks give the number.
pub call_dropped : (s : Routines) (id : SourceId) (a : DirectAction) → call_refusal s (Direct id a) ≡ already_pending →
    SoundRoutines s × (refusal s.controller (command_of id a) ≡ already_pending)
unfolding call_refusal call_refusal_of
call_dropped s id a e =
    let (test, checks) = passed_to already_pending (sound_routines s) malformed (call_refusal_of s (Direct id a)) (λ z. omega arith) e in
    let sound : SoundRoutines s = (routines_test_exact s).0 test in
    (sound, checks_decide s.controller (command_of id a) sound.controller ∙ checks)
