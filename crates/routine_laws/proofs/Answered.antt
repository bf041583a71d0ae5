-- What an accepted and a refused call answer, and that one refused by a number other than 6 changes nothing (`RefusedCallUnchanged`),
-- and a refused one counts no handover (`RefusedUncounted`). Assumes nothing.
--   call_accepted, call_refused   the answer, by whether the number for no is 0
--   by_call                       what holds of both answers holds of every call's
--   number_answered               the number answered is the refusal's
--   handed_back                   a call refused by a number other than 6 hands back the state it was given
use Prim.Native.Nat.{ℕ}
use mathlib.Core.Path.{◌≡◌, refl, ◌∙◌, ap}
use mathlib.Core.Logic.{◌≢◌}
use native.Mathlib.Decide.{ℕ_discrete}
use borrow.Author.Tests.{eq-eqb, ne_eqb}
use Rattle.model.specs.Commands.{already_pending}
use Rattle.effects.proofs.Dropped.{kept}
use Rattle.routines.specs.declared.Routines.{Routines}
use Rattle.routines.specs.declared.RoutineCall.{RoutineCall}
use Rattle.routines.specs.declared.RoutineCall.TheVariants.{Direct, Enter, Exit}
use Rattle.routines.specs.declared.RoutineAnswer.{RoutineAnswer}
use Rattle.routines.specs.Routines.{with_controller, routine_answer, command_of, call_refusal, entered, exited, commanded, accepted_call}
use Rattle.routines.specs.Routines.{after_refused_call, refused_call, call_routine, table_after}
use Rattle.routines.specs.Statements.{RefusedCallUnchanged, RefusedUncounted}

pub accepted_number : (s : Routines) (c : RoutineCall) → (accepted_call s c).number ≡ 0
unfolding entered exited commanded
accepted_number s (Direct id a) = refl
accepted_number s (Enter k) = refl
accepted_number s (Exit k) = refl

module _ (s : Routines) (c : RoutineCall) where
  pub call_accepted : call_refusal s c ≡ 0 → call_routine s c ≡ accepted_call s c
  unfolding call_routine
  call_accepted e = rw (eq-eqb (call_refusal s c) 0 e)

  pub call_refused : (call_refusal s c ≡ 0 → ⊥) → call_routine s c ≡ refused_call s c (call_refusal s c)
  unfolding call_routine
  call_refused h = rw (ne_eqb (call_refusal s c) 0 h)

  pub by_call :
      (P : RoutineAnswer → Type 0) → (call_refusal s c ≡ 0 → P (accepted_call s c)) →
      ((call_refusal s c ≡ 0 → ⊥) → P (refused_call s c (call_refusal s c))) → P (call_routine s c)
  by_call P passes stays = go (ℕ_discrete (call_refusal s c) 0)
    where
      go : Dec (call_refusal s c ≡ 0) → P (call_routine s c)
      go (yes e) = rw (call_accepted e) (passes e)
      go (no h) = rw (call_refused h) (stays h)

  pub number_answered : (call_routine s c).number ≡ call_refusal s c
  number_answered = by_call (λ a. a.number ≡ call_refusal s c) (λ e. rw (accepted_number s c, e)) (λ h. refl)

pub handed_back : (s : Routines) (c : RoutineCall) (number : ℕ) → number ≢ already_pending → after_refused_call s c number ≡ s
handed_back s (Direct id a) number other = ap (with_controller s) (kept s.controller (command_of id a) number other)
handed_back s (Enter k) number other = refl
handed_back s (Exit k) number other = refl

pub refused_call_unchanged : RefusedCallUnchanged
refused_call_unchanged s c =
    by_call s c (λ a. a.number ≢ 0 → a.number ≢ already_pending → a ≡ routine_answer s a.number 0 0)
    (λ e h other. absurd (h (accepted_number s c)))
    (λ h n other. ap (λ u. routine_answer u (call_refusal s c) 0 0) (handed_back s c (call_refusal s c) other))

pub refused_uncounted : RefusedUncounted
unfolding table_after
refused_uncounted t s (Direct id a) h = refl
refused_uncounted t s (Enter k) h = rw (ne_eqb (call_refusal s (Enter k)) 0 (λ e. h (number_answered s (Enter k) ∙ e)))
refused_uncounted t s (Exit k) h = refl
