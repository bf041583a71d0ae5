-- How many numbers of a list are at or above a threshold, as sums over the numbers below a bound. Assumes nothing.
--   total_sent      a sum is at most another if each number of it, unless 0, goes to one at least as large, no two to the same
--   count t l       how many numbers of l are at or above t
--   count_gather    over lists laid end to end that is a sum; `count_row`: over a row it is `reached`
use Prim.Native.Nat.{ℕ, zero, suc, ◌+◌, ◌≤◌, ◌<◌}
use mathlib.Core.Path.{◌≡◌, refl, ap, subst}
use mathlib.Core.List.{List, [], ◌∷◌, ◌++◌}
use mathlib.Core.Bool.{Bool, true, false, cond}
use native.Mathlib.Omega.{arith}
use native.Mathlib.Nat.{not-suc-le-zero}
use native.Mathlib.Decide.{ℕ_discrete}
use lib.ListN.{length, length-append}
use lib.Dec.{eqb}
use borrow.Author.Tests.{eq-eqb, ne_eqb}
use Rattle.lists.specs.Rows.{gather, row, write}
use Rattle.lists.proofs.Counting.{total, total_le, reach, reached, reached_le}

-- ---- a sum sent into another

-- Where a number goes: nowhere if it is 0, else to a place below n, related to it, at which g is at least as large.
pub data Sent (n : ℕ) (g : ℕ → ℕ) (R : ℕ → Type 0) (x : ℕ) : Type 0 where
  nowhere : x ≡ 0 → Sent n g R x
  to : (i : ℕ) → i < n → R i → x ≤ g i → Sent n g R x

write_le : (g : ℕ → ℕ) (i j : ℕ) → write g i 0 j ≤ g j
write_le g i j = go (eqb j i)
  where
    go : (e : Bool) → cond e 0 (g j) ≤ g j
    go true = omega arith
    go false = omega arith

-- what is left of a sum without its i-th number
total_without : (n : ℕ) (g : ℕ → ℕ) (i : ℕ) → i < n → total n (write g i 0) + g i ≤ total n g
unfolding total
total_without zero g i p = absurd (not-suc-le-zero p)
total_without (suc k) g i p = go (ℕ_discrete k i) (total_without k g i)
  where
    go : Dec (k ≡ i) → (i < k → total k (write g i 0) + g i ≤ total k g) → total k (write g i 0) + write g i 0 k + g i ≤ total k g + g k
    go (yes e) rest = rw (eq-eqb k i e) (omega (arith, ap g e, total_le (write g i 0) g k (λ j q. write_le g i j)))
    go (no d) rest = omega (arith, rest (omega arith), write_le g i k)

sent_without : (n : ℕ) (g : ℕ → ℕ) (R : ℕ → Type 0) (x i : ℕ) → (R i → ⊥) → Sent n g R x → Sent n (write g i 0) R x
sent_without n g R x i d (nowhere e) = nowhere e
sent_without n g R x i d (to j p r q) = to j p r (rw (ne_eqb j i (λ e. d (subst R e r))) q)

module _ (n : ℕ) (R : ℕ → ℕ → Type 0) (apart : (j k i : ℕ) → R j i → R k i → j ≡ k) where
  pub total_sent : (m : ℕ) (f g : ℕ → ℕ) → ((k : ℕ) → k < m → Sent n g (R k) (f k)) → total m f ≤ total n g
  unfolding total
  total_sent zero f g sent = omega arith
  total_sent (suc m) f g sent = go (sent m (omega arith)) (total_sent m f)
    where
      go :
          Sent n g (R m) (f m) → ((h : ℕ → ℕ) → ((k : ℕ) → k < m → Sent n h (R k) (f k)) → total m f ≤ total n h) →
          total m f + f m ≤ total n g
      go (nowhere e) rest = omega (arith, rest g (λ k p. sent k (omega arith)))
      go (to i p r q) rest =
          let others : (k : ℕ) → k < m → Sent n (write g i 0) (R k) (f k) =
          λ k l. sent_without n g (R k) (f k) i (λ x. omega (arith, apart k m i x r)) (sent k (omega arith)) in
          omega (arith, total_without n g i p, rest (write g i 0) others)

-- ---- counts

unfoldable pub count : ℕ → List ℕ → ℕ
count t [] = 0
count t (x ∷ xs) = reach t x + count t xs

pub count_one : (t x : ℕ) → count t (x ∷ []) ≡ reach t x
unfolding count
count_one t x = omega arith

pub count_append : (t : ℕ) (l r : List ℕ) → count t (l ++ r) ≡ count t l + count t r
unfolding count
count_append t [] r = omega arith
count_append t (x ∷ xs) r = omega (arith, count_append t xs r)

pub count_gather : (t n : ℕ) (f : ℕ → List ℕ) → count t (gather n f) ≡ total n (λ i. count t (f i))
unfolding gather total count
count_gather t zero f = refl
count_gather t (suc k) f = rw (count_append, count_gather t k f)

-- ---- rows

pub row_length : (n : ℕ) (f : ℕ → ℕ) → length (row n f) ≡ n
unfolding gather
row_length zero f = refl
row_length (suc k) f = rw length-append (omega (arith, row_length k f))

pub row_cong : (n : ℕ) (f g : ℕ → ℕ) → ((k : ℕ) → k < n → f k ≡ g k) → row n f ≡ row n g
unfolding gather
row_cong zero f g h = refl
row_cong (suc k) f g h = rw (h k (omega arith), row_cong k f g (λ i p. h i (omega arith)))

pub count_row : (t n : ℕ) (f : ℕ → ℕ) → count t (row n f) ≡ reached n t f
count_row t n f = simp (count_gather, count_one)

pub row_count_le : (t n : ℕ) (f : ℕ → ℕ) → count t (row n f) ≤ n
row_count_le t n f = omega (arith, count_row t n f, reached_le n t f)
