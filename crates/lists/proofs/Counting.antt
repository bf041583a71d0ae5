-- Sums over the numbers below a bound, and how many numbers of a row reach a threshold. Assumes nothing.
--   total n f        f 0 + .. + f (n - 1)
--   total_le         a sum is at most another if each number of it is
--   total_lt         and below it if some number is
--   tally_total    how many numbers a test holds of, as a sum
--   reach t x        1 if x is at or above t, else 0
--   reached m t f    how many of f 0, .., f (m - 1) are at or above t
--   reached_le       at most m; `reached_all`: m, if all are
--   reached_more     a row has more than another if it reaches wherever the other does, and at a place where the other doesn't
use Prim.Native.Nat.{ℕ, zero, suc, ◌+◌, ◌<◌, ◌≤◌}
use mathlib.Core.Path.{◌≡◌, refl}
use mathlib.Core.Bool.{Bool, cond}
use native.Mathlib.Omega.{arith}
use native.Mathlib.Decide.{dec_le, ℕ_discrete}
use lib.Dec.{leb}
use borrow.Author.Tests.{le-leb, lt-leb}
use Rattle.lists.specs.Walks.{tally}

-- ---- sums

unfoldable pub total : ℕ → (ℕ → ℕ) → ℕ
total zero f = 0
total (suc k) f = total k f + f k

pub total_add : (n : ℕ) (f g : ℕ → ℕ) → total n (λ i. f i + g i) ≡ total n f + total n g
unfolding total
total_add zero f g = refl
total_add (suc k) f g = omega (arith, total_add k f g)

module _ (f g : ℕ → ℕ) where
  pub total_le : (n : ℕ) → ((i : ℕ) → i < n → f i ≤ g i) → total n f ≤ total n g
  unfolding total
  total_le zero h = omega arith
  total_le (suc k) h = omega (arith, h k (omega arith), total_le k (λ i p. h i (omega arith)))

  total_lt : (n : ℕ) → ((i : ℕ) → i < n → f i ≤ g i) → (k : ℕ) → k < n → f k < g k → total n f < total n g
  unfolding total
  total_lt zero h k p q = absurd (omega arith)
  total_lt (suc j) h k p q = go (ℕ_discrete k j) (total_lt j (λ i u. h i (omega arith)) k)
    where
      go : Dec (k ≡ j) → (k < j → f k < g k → total j f < total j g) → total j f + f j < total j g + g j
      go (yes e) rest =
          let here : f j < g j = rw e at q in
          omega (arith, total_le j (λ i u. h i (omega arith)))
      go (no e) rest = omega (arith, rest (omega arith) q, h j (omega arith))

pub tally_total : (n : ℕ) (f : ℕ → Bool) → tally n f ≡ total n (λ k. cond (f k) 1 0)
unfolding total tally
tally_total zero f = refl
tally_total (suc k) f = omega (arith, tally_total k f)

-- ---- one number

unfoldable pub reach : ℕ → ℕ → ℕ
reach t x = cond (leb t x) 1 0

pub reach_up : (t x : ℕ) → t ≤ x → reach t x ≡ 1
unfolding reach
reach_up t x p = rw (le-leb t x p)

pub reach_under : (t x : ℕ) → x < t → reach t x ≡ 0
unfolding reach
reach_under t x p = rw (lt-leb t x p)

-- a number is at or above the threshold and counts 1, or is under it and counts 0
pub data Reach (t x : ℕ) : Type 0 where
  up : t ≤ x → reach t x ≡ 1 → Reach t x
  under : x < t → reach t x ≡ 0 → Reach t x

pub reach_cases : (t x : ℕ) → Reach t x
reach_cases t x = go (dec_le t x)
  where
    go : Dec (t ≤ x) → Reach t x
    go (yes p) = up p (reach_up t x p)
    go (no q) = let p : x < t = omega arith in under p (reach_under t x p)

-- at one place of two rows
reach_mono : (t t' x y : ℕ) → (t ≤ x → t' ≤ y) → reach t x ≤ reach t' y
reach_mono t t' x y h = go (reach_cases t x)
  where
    go : Reach t x → reach t x ≤ reach t' y
    go (up p e) = omega (arith, reach_up t' y (h p))
    go (under p e) = omega arith

-- ---- a row

abbrev pub reached : ℕ → ℕ → (ℕ → ℕ) → ℕ
reached m t f = total m (λ k. reach t (f k))

pub reached_le : (m t : ℕ) (f : ℕ → ℕ) → reached m t f ≤ m
unfolding total
reached_le zero t f = omega arith
reached_le (suc k) t f = go (reach_cases t (f k)) (reached_le k t f)
  where
    go : Reach t (f k) → reached k t f ≤ k → reached k t f + reach t (f k) ≤ suc k
    go (up p e) rest = omega arith
    go (under p e) rest = omega arith

pub reached_all : (m t : ℕ) (f : ℕ → ℕ) → ((k : ℕ) → k < m → t ≤ f k) → reached m t f ≡ m
unfolding total
reached_all zero t f h = refl
reached_all (suc k) t f h =
    omega (arith, reach_up t (f k) (h k (omega arith)), reached_all k t f (λ i p. h i (omega arith)))

module _ (t t' : ℕ) (f g : ℕ → ℕ) where
  pub reached_more :
      (m : ℕ) → ((k : ℕ) → k < m → t ≤ f k → t' ≤ g k) → (k : ℕ) → k < m → f k < t → t' ≤ g k → reached m t f < reached m t' g
  reached_more m covers k p q r =
      total_lt (λ j. reach t (f j)) (λ j. reach t' (g j)) m (λ j u. reach_mono t t' (f j) (g j) (covers j u)) k p
      (omega (arith, reach_under t (f k) q, reach_up t' (g k) r))
