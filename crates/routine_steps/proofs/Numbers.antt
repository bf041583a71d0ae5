-- The numbers for no of the calls on a sound simulation: those of the controller's own commands. Assumes nothing.
--   refused_as                     past the test, the later checks decide
--   command_number                 the controller's command answers the number of its checks
--   direct_number, enter_number    of a command on a source, and of an entry, which is refused as its claim is
--   core_refused, idle_core            of an exit
use Prim.Native.Nat.{◌<◌}
use mathlib.Core.Path.{◌≡◌, sym, ◌∙◌}
use mathlib.Core.Bool.{true, false}
use borrow.Author.Tests.{lt-ltb}
use Rattle.model.specs.declared.Answer.{Answer}
use Rattle.model.specs.declared.Command.{Command}
use Rattle.model.specs.declared.Command.TheVariants.{OnCore}
use Rattle.model.specs.declared.CoreAction.TheVariants.{Claim}
use Rattle.model.specs.declared.CoreId.{CoreId}
use Rattle.model.specs.declared.SourceId.{SourceId}
use Rattle.model.specs.Commands.{bad_core, not_claimed, names_core, refusal_of, refusal, refused, settled, execute}
use Rattle.well_formed.proofs.Test.{well_formed-in}
use Rattle.effects.proofs.Accepted.{by_answer}
use Rattle.routines.specs.declared.Routines.{Routines}
use Rattle.routines.specs.declared.DirectAction.{DirectAction}
use Rattle.routines.specs.declared.RoutineCall.{RoutineCall}
use Rattle.routines.specs.declared.RoutineCall.TheVariants.{Direct, Enter, Exit}
use Rattle.routines.specs.Routines.{active_at, sound_routines, SoundRoutines, command_of, call_refusal_of, call_refusal, claim_on}
use Rattle.routine_laws.proofs.Test.{routines_test_exact}

module _ (s : Routines) (sound : SoundRoutines s) where
  pub refused_as : (c : RoutineCall) → call_refusal s c ≡ call_refusal_of s c
  unfolding call_refusal
  refused_as c = let test : sound_routines s ≡ true = (routines_test_exact s).1 sound in rw test

  passed : (o : Command) → refusal s.controller o ≡ refusal_of s.controller o
  unfolding refusal
  passed o = rw (well_formed-in s.controller sound.controller)

  pub command_number : (o : Command) → (execute s.controller o).number ≡ refusal_of s.controller o
  unfolding settled refused
  command_number o =
      by_answer s.controller o (λ (a : Answer). a.number ≡ refusal_of s.controller o)
      (λ e. sym (sym (passed o) ∙ e)) (λ h. passed o)

  pub direct_number :
      (id : SourceId) (a : DirectAction) → (execute s.controller (command_of id a)).number ≡ call_refusal s (Direct id a)
  unfolding call_refusal_of
  direct_number id a = command_number (command_of id a) ∙ sym (refused_as (Direct id a))

  pub enter_number : (k : CoreId) → (claim_on s k).number ≡ call_refusal s (Enter k)
  unfolding refusal_of call_refusal_of
  enter_number k = command_number (OnCore k Claim) ∙ sym (refused_as (Enter k))

  pub core_refused : (k : CoreId) → names_core s.controller k ≡ false → call_refusal s (Exit k) ≡ bad_core
  unfolding call_refusal_of
  core_refused k e = refused_as (Exit k) ∙ rw e

  pub idle_core : (k : CoreId) → names_core s.controller k ≡ true → active_at s k.0 ≡ 0 → call_refusal s (Exit k) ≡ not_claimed
  unfolding call_refusal_of
  idle_core k e z = refused_as (Exit k) ∙ rw (e, z)

  pub runs_there :
      (k : CoreId) → names_core s.controller k ≡ true → 0 < active_at s k.0 → call_refusal s (Exit k) ≡ 0
  unfolding call_refusal_of
  runs_there k e h = refused_as (Exit k) ∙ rw (e, lt-ltb 0 (active_at s k.0) h)
