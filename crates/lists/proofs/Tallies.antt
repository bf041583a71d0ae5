-- How many numbers below a bound a test holds of (`tally`). Assumes nothing.
--   one_le                        a test counts at most 1
--   tally_on, tally_off           one number more, of which it holds or doesn't
--   tally_step                    one number more leaves it or raises it by one
--   tally_le                      it is at most the bound
--   tally_mono, tally_rising      it never falls
--   tally-cong, tally-differ      tests that agree below the bound, and that agree but at one number
--   within_in                     a range that has such a number
--   within_rise, within_level     it raises the tally; one without leaves it
--   level_within, rise_within     and so the tallies before its two ends tell whether it has one
use Prim.Native.Nat.{ℕ, zero, suc, ◌+◌, ◌-◌, ◌<◌, ◌≤◌}
use mathlib.Core.Path.{◌≡◌, ◌∙◌}
use mathlib.Core.Bool.{Bool, true, false, cond}
use native.Mathlib.Nat.{add-zero, add-suc}
use native.Mathlib.Omega.{arith}
use Rattle.lists.specs.Walks.{tally, within}
use Rattle.lists.proofs.Bools.{clash, refuted, confirmed}
use Rattle.lists.proofs.Walks.{Witness, some_in, some_out}

pub one_le : (t : Bool) → cond t 1 0 ≤ 1
one_le true = omega arith
one_le false = omega arith

module _ (f : ℕ → Bool) where
  pub tally_on : (k : ℕ) → f k ≡ true → tally (suc k) f ≡ tally k f + 1
  unfolding tally
  tally_on k e = rw e

  pub tally_off : (k : ℕ) → f k ≡ false → tally (suc k) f ≡ tally k f
  unfolding tally
  tally_off k e = rw e (omega arith)

  pub tally_step : (k : ℕ) → (tally k f ≤ tally (suc k) f) × (tally (suc k) f ≤ tally k f + 1)
  unfolding tally
  tally_step k = omega (arith, one_le (f k))

  pub tally_le : (n : ℕ) → tally n f ≤ n
  unfolding tally
  tally_le zero = omega arith
  tally_le (suc k) = omega (arith, (tally_step k).1, tally_le k)

  pub tally_mono : (lo len : ℕ) → tally lo f ≤ tally (lo + len) f
  tally_mono lo zero = rw add-zero (omega arith)
  tally_mono lo (suc k) = rw add-suc (omega (arith, (tally_step (lo + k)).0, tally_mono lo k))

  pub tally_rising : (lo hi : ℕ) → lo ≤ hi → tally lo f ≤ tally hi f
  tally_rising lo hi h = let e : lo + (hi - lo) ≡ hi = omega arith in rw e at (tally_mono lo (hi - lo))

  tally_level : (lo len : ℕ) → ((i : ℕ) → lo ≤ i → i < lo + len → f i ≡ false) → tally (lo + len) f ≡ tally lo f
  tally_level lo zero h = rw add-zero
  tally_level lo (suc k) h =
      rw add-suc
      (tally_off (lo + k) (h (lo + k) (omega arith) (omega arith)) ∙ tally_level lo k (λ i p q. h i p (omega arith)))

  tally_rise : (lo len i : ℕ) → lo ≤ i → i < lo + len → f i ≡ true → tally lo f < tally (lo + len) f
  tally_rise lo len i p q e =
      omega (arith, tally_rising lo i p, tally_on i e, tally_rising (suc i) (lo + len) (omega arith))

  -- ---- whether a range has such a number

  pub within_in : (lo len i : ℕ) → lo ≤ i → i < lo + len → f i ≡ true → within f (lo, len) ≡ true
  within_in lo len i p q e =
      let at : lo + (i - lo) ≡ i = omega arith in
      some_in len (λ j. f (lo + j)) (i - lo) (omega arith) (rw at e)

  pub within_rise : (lo len : ℕ) → within f (lo, len) ≡ true → tally lo f < tally (lo + len) f
  within_rise lo len e =
      let w : Witness len (λ j. f (lo + j)) = some_out len (λ j. f (lo + j)) e in
      tally_rise lo len (lo + w.at) (omega arith) (omega (arith, w.below)) w.holds

  pub within_level : (lo len : ℕ) → within f (lo, len) ≡ false → tally (lo + len) f ≡ tally lo f
  within_level lo len e =
      tally_level lo len (λ i p q. refuted (f i) (λ u. clash (within_in lo len i p q u) e))

  pub level_within : (lo len : ℕ) → tally lo f ≡ tally (lo + len) f → within f (lo, len) ≡ false
  level_within lo len e = refuted (within f (lo, len)) (λ p. omega (arith, within_rise lo len p))

  pub rise_within : (lo len : ℕ) → (tally lo f ≡ tally (lo + len) f → ⊥) → within f (lo, len) ≡ true
  rise_within lo len d = confirmed (within f (lo, len)) (λ p. omega (arith, within_level lo len p))
