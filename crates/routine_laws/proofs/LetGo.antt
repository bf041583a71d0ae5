-- Redeliver and complete let a claimed request go: it is not claimed any more, and nothing else is claimed or let go. Assumes nothing.
--   LetGo s t id      from s to t the request of source id was let go; id 0: none
--   redelivered_goes, completed_goes    the two commands on a claimed request, which are accepted
use Prim.Native.Nat.{ℕ, suc, ◌<◌, ◌≤◌}
use mathlib.Core.Path.{◌≡◌, refl, ◌∙◌, ap}
use mathlib.Core.Logic.{◌≢◌}
use mathlib.Core.Bool.{Bool, true, false, ◌&&◌}
use native.Mathlib.Omega.{arith}
use Rattle.lists.proofs.Exact.{between_exact}
use Rattle.model.specs.declared.Controller.{Controller}
use Rattle.model.specs.declared.Command.TheVariants.{OnSource}
use Rattle.model.specs.declared.SourceAction.{SourceAction}
use Rattle.model.specs.declared.SourceAction.TheVariants.{Redeliver, Complete}
use Rattle.model.specs.Records.{source_id, source_at, core_at}
use Rattle.model.specs.Requests.{claimed}
use Rattle.model.specs.WellFormed.{WellFormed}
use Rattle.model.specs.Commands.{source_after, refusal_of, refusal, execute}
use Rattle.effects.proofs.Kept.{well_formed-kept}
use Rattle.routine_laws.proofs.Standing.{command_accepted}
use Rattle.routine_laws.proofs.After.{SourceStep, source_step}

pub record LetGo (s t : Controller) (id : ℕ) : Type 0 where
  pub is_well_formed : WellFormed t
  pub n_same : t.n ≡ s.n
  pub m_same : t.m ≡ s.m
  pub configured : (k : ℕ) → (core_at t k).configured ≡ (core_at s k).configured
  pub priority : (i : ℕ) → suc i ≢ id → (source_at t i).priority ≡ (source_at s i).priority
  pub gone : (i : ℕ) → suc i ≡ id → claimed t i ≡ false
  pub others : (i : ℕ) → i < s.n → suc i ≢ id → claimed t i ≡ claimed s i

pub none_goes : (s : Controller) → WellFormed s → LetGo s s 0
none_goes s w =
    record {
      is_well_formed = w;
      n_same = refl;
      m_same = refl;
      configured = λ k. refl;
      priority = λ i h. refl;
      gone = λ i e. absurd (omega arith);
      others = λ i l h. refl;
    }

undelivered : (b : Bool) → b && false ≡ false
undelivered true = refl
undelivered false = refl

module _ (s : Controller) (w : WellFormed s) (i : ℕ) (i_lt : i < s.n) (taken : claimed s i ≡ true) where
  goes :
      (a : SourceAction) → (e : refusal s (OnSource (source_id (suc i)) a) ≡ 0) →
      ((source_after a (source_at s i)).delivered ≡ false) → LetGo s (execute s (OnSource (source_id (suc i)) a)).state (suc i)
  goes a e off =
      let x : SourceStep s (execute s (OnSource (source_id (suc i)) a)).state i (source_after a (source_at s i)) =
      source_step s (source_id (suc i)) a e in
      record {
        is_well_formed = well_formed-kept s (OnSource (source_id (suc i)) a) w;
        n_same = x.n_same;
        m_same = x.m_same;
        configured = x.configured;
        priority = λ j h. x.priority j (λ z. h (ap suc z));
        gone = λ j z. rw (omega_pred j i z) (x.claimed_here ∙ rw (off, undelivered (source_after a (source_at s i)).pending));
        others = λ j l h. x.claimed_other j l (λ z. h (ap suc z));
      }
    where
      omega_pred : (j i : ℕ) → suc j ≡ suc i → j ≡ i
      omega_pred j i e = omega arith

  named : (1 ≤ suc i) × (suc i ≤ s.n)
  named = (omega arith, omega arith)

  redeliver_checks : refusal_of s (OnSource (source_id (suc i)) Redeliver) ≡ 0
  unfolding refusal_of
  redeliver_checks = rw ((between_exact 1 s.n (suc i)).1 named, taken)

  complete_checks : refusal_of s (OnSource (source_id (suc i)) Complete) ≡ 0
  unfolding refusal_of
  complete_checks = rw ((between_exact 1 s.n (suc i)).1 named, taken)

  pub redeliver_accepted : refusal s (OnSource (source_id (suc i)) Redeliver) ≡ 0
  redeliver_accepted = command_accepted s (OnSource (source_id (suc i)) Redeliver) w redeliver_checks

  pub complete_accepted : refusal s (OnSource (source_id (suc i)) Complete) ≡ 0
  complete_accepted = command_accepted s (OnSource (source_id (suc i)) Complete) w complete_checks

  pub redelivered_goes : LetGo s (execute s (OnSource (source_id (suc i)) Redeliver)).state (suc i)
  redelivered_goes = goes Redeliver redeliver_accepted refl

  pub completed_goes : LetGo s (execute s (OnSource (source_id (suc i)) Complete)).state (suc i)
  completed_goes = goes Complete complete_accepted refl
