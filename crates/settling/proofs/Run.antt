-- A run of cycles, one cycle at a time: what it needs to end well at rest (`Ended`). Assumes nothing.
--   settle_rest     at rest the state stays as it is; `count_rest`, `cycles_of-rest`: and nothing is counted
--   ended_here      so a state at rest has ended, for any number of cycles
--   ended_step      one cycle more in front
--   ended_within    larger bounds
use Prim.Native.Nat.{ℕ, zero, suc, ◌+◌, ◌<◌, ◌≤◌}
use mathlib.Core.Path.{◌≡◌, refl, ◌∙◌}
use native.Mathlib.Omega.{arith}
use Rattle.model.specs.declared.Controller.{Controller}
use Rattle.model.specs.declared.Cycle.{Cycle}
use Rattle.model.specs.declared.Cycle.TheVariants.{Rest}
use Rattle.model.specs.Requests.{claimed}
use Rattle.model.specs.Settling.{next, apply, cycle, settle, is_retraction, is_delivery, count_of, cycles_of}
use Rattle.settling.specs.Phases.{Strict, Ended}

pub cycle_is : (s : Controller) (c : Cycle) → next s ≡ c → cycle s ≡ apply c s
unfolding cycle
cycle_is s c e = rw e

-- ---- at rest

module _ (s : Controller) (rest : next s ≡ Rest) where
  pub settle_rest : (f : ℕ) → settle f s ≡ s
  unfolding settle
  settle_rest zero = refl
  settle_rest (suc f) = rw (cycle_is s Rest rest) (settle_rest f)

  pub count_rest : (kind : Cycle → ℕ) → kind Rest ≡ 0 → (f : ℕ) → count_of kind f s ≡ 0
  unfolding count_of
  count_rest kind e zero = refl
  count_rest kind e (suc f) = rw (cycle_is s Rest rest, rest, e) (omega (arith, count_rest kind e f))

  pub cycles_of-rest : (f : ℕ) → cycles_of f s ≡ 0
  unfolding cycles_of
  cycles_of-rest f = omega (arith, count_rest is_retraction refl f, count_rest is_delivery refl f)

  pub ended_here : Strict s → (f : ℕ) → Ended s f 0 0
  ended_here w f =
      record {
        strict = rw settle_rest w;
        rests = rw settle_rest rest;
        retractions = omega (arith, count_rest is_retraction refl f);
        deliveries = omega (arith, count_rest is_delivery refl f);
        claimed_kept = λ i p. rw settle_rest;
      }

-- ---- one cycle more

module _ (s : Controller) (c : Cycle) (e : next s ≡ c) where
  pub settle_step : (f : ℕ) → settle (suc f) s ≡ settle f (apply c s)
  unfolding settle
  settle_step f = rw (cycle_is s c e)

  pub count_step : (kind : Cycle → ℕ) (f : ℕ) → count_of kind (suc f) s ≡ kind c + count_of kind f (apply c s)
  unfolding count_of
  count_step kind f = rw (cycle_is s c e, e)

  pub ended_step :
      (apply c s).n ≡ s.n → ((i : ℕ) → i < s.n → claimed (apply c s) i ≡ claimed s i) → {f r d : ℕ} → Ended (apply c s) f r d →
      Ended s (suc f) (is_retraction c + r) (is_delivery c + d)
  ended_step n_same kept {f} {r} {d} end =
      record {
        strict = rw settle_step end.strict;
        rests = rw settle_step end.rests;
        retractions = omega (arith, count_step is_retraction f, end.retractions);
        deliveries = omega (arith, count_step is_delivery f, end.deliveries);
        claimed_kept = λ i u. rw settle_step (end.claimed_kept i (rw n_same u) ∙ kept i u);
      }

-- ---- larger bounds

pub ended_within : {s : Controller} {f r d : ℕ} → Ended s f r d → (r' d' : ℕ) → r ≤ r' → d ≤ d' → Ended s f r' d'
ended_within end r' d' p q =
    record {
      strict = end.strict;
      rests = end.rests;
      retractions = omega arith;
      deliveries = omega arith;
      claimed_kept = end.claimed_kept;
    }
