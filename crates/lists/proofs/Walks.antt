-- "For each" and "for some" below a bound, as facts about every number below it. Assumes nothing.
--   below_suc                        what holds below k and at k holds below k + 1
--   every_in, every_out              `every` from the facts, and each fact from it
--   some_in, some_out                `some` from a number at which the test holds, and such a number from it
--   some_false_in, some_false_out    the same where it fails at each
--   some_agree                       tests that agree below the bound
use Prim.Native.Nat.{ℕ, zero, suc, ◌<◌}
use mathlib.Core.Path.{◌≡◌, refl, sym}
use mathlib.Core.Bool.{Bool, true, false, ◌||◌, true≢false}
use native.Mathlib.Omega.{arith}
use native.Mathlib.Nat.{not-suc-le-zero}
use native.Mathlib.Numerals.{add-one}
use borrow.Author.Count.{below_more}
use Rattle.lists.specs.Walks.{every, some}
use Rattle.lists.proofs.Bools.{and_in, and_l, and_r, or_in_l, or_in_r, or_off, clash, refuted, Flag, on, off, flag}

-- the last number below suc k is k
pub below_suc : (P : ℕ → Type 0) (k : ℕ) → ((i : ℕ) → i < k → P i) → P k → (i : ℕ) → i < suc k → P i
below_suc P k below at i h = below_more P k below at i (rw add-one h)

pub every_out : (n : ℕ) (f : ℕ → Bool) → every n f ≡ true → (i : ℕ) → i < n → f i ≡ true
unfolding every
every_out zero f e i h = absurd (not-suc-le-zero h)
every_out (suc k) f e i h =
    below_suc (λ (j : ℕ). f j ≡ true) k (every_out k f (and_l (every k f) (f k) e)) (and_r (every k f) (f k) e) i h

pub every_in : (n : ℕ) (f : ℕ → Bool) → ((i : ℕ) → i < n → f i ≡ true) → every n f ≡ true
unfolding every
every_in zero f h = refl
every_in (suc k) f h = and_in (every_in k f (λ i p. h i (omega arith))) (h k (omega arith))

pub some_in : (n : ℕ) (f : ℕ → Bool) (i : ℕ) → i < n → f i ≡ true → some n f ≡ true
unfolding some
some_in zero f i h e = absurd (not-suc-le-zero h)
some_in (suc k) f i h e =
    below_suc (λ (j : ℕ). f j ≡ true → some k f || f k ≡ true) k
    (λ j p q. or_in_l (f k) (some_in k f j p q))
    (λ q. or_in_r (some k f) q)
    i h e

-- a number below n at which f holds
pub record Witness (n : ℕ) (f : ℕ → Bool) : Type 0 where
  pub at : ℕ
  pub below : at < n
  pub holds : f at ≡ true

pub some_out : (n : ℕ) (f : ℕ → Bool) → some n f ≡ true → Witness n f
unfolding some
some_out zero f e = absurd (true≢false (sym e))
some_out (suc k) f e = go (flag (some k f)) (some_out k f)
  where
    go : Flag (some k f) → (some k f ≡ true → Witness k f) → Witness (suc k) f
    go (on p) rest = let w : Witness k f = rest p in record { at = w.at; below = omega arith; holds = w.holds }
    go (off p) rest = record { at = k; below = omega arith; holds = or_off (some k f) (f k) e p }

pub some_false_out : (n : ℕ) (f : ℕ → Bool) → some n f ≡ false → (i : ℕ) → i < n → f i ≡ false
some_false_out n f e i h = refuted (f i) (λ p. clash (some_in n f i h p) e)

pub some_false_in : (n : ℕ) (f : ℕ → Bool) → ((i : ℕ) → i < n → f i ≡ false) → some n f ≡ false
some_false_in n f h =
    refuted (some n f) (λ p. let w : Witness n f = some_out n f p in clash w.holds (h w.at w.below))

pub some_agree : (n : ℕ) (f g : ℕ → Bool) → ((k : ℕ) → k < n → f k ≡ g k) → some n f ≡ some n g
unfolding some
some_agree zero f g h = refl
some_agree (suc k) f g h = rw (some_agree k f g (λ j p. h j (omega arith)), h k (omega arith))
