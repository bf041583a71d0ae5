-- Lists sorted from the top, compared by how many of their numbers reach each threshold. Assumes nothing.
--   Falling top l        no number of l is above the one before it, nor the first above top
--   count_at, at_count   the j-th number is at or above a threshold from 1 up exactly if more than j numbers are
--   sorted_count         lists that are equal once sorted reach each threshold equally often
--   sorted_le            a list that never reaches a threshold more often than another is, sorted, nowhere above it
--   top_of               a list of m numbers that reaches each threshold as often as another does, up to m, is its m highest numbers
use Prim.Native.Nat.{ℕ, zero, suc, ◌+◌, ◌≤◌, ◌<◌, min}
use mathlib.Core.Path.{◌≡◌, refl, ap, ◌∙◌}
use mathlib.Core.List.{List, [], ◌∷◌}
use mathlib.Core.Bool.{Bool, true, false}
use native.Mathlib.Omega.{arith}
use native.Mathlib.Decide.{dec_le}
use lib.ListN.{length, get_or, take, length-take}
use lib.Seq.{ext_get_or, get_or-take}
use lib.Dec.{ltb}
use borrow.Author.Tests.{ltb-true, ltb-false}
use Rattle.lists.specs.Sorting.{insert_down, sort_down}
use Rattle.lists.proofs.Counting.{reach_under, Reach, up, under, reach_cases}
use Rattle.lists.proofs.Counts.{count}

abbrev Falling : ℕ → List ℕ → Type 0
Falling top [] = Unit {0}
Falling top (x ∷ xs) = (x ≤ top) × Falling x xs

-- ---- sorting

-- x goes in front of the first number that isn't above it
data Inserted (x y : ℕ) (ys : List ℕ) : Type 0 where
  behind : x < y → insert_down x (y ∷ ys) ≡ y ∷ insert_down x ys → Inserted x y ys
  front : y ≤ x → insert_down x (y ∷ ys) ≡ x ∷ y ∷ ys → Inserted x y ys

inserted : (x y : ℕ) (ys : List ℕ) → Inserted x y ys
unfolding insert_down
inserted x y ys = go (ltb x y) refl
  where
    go : (b : Bool) → ltb x y ≡ b → Inserted x y ys
    go true e = behind (ltb-true x y e) (rw e)
    go false e = front (ltb-false x y e) (rw e)

insert_length : (x : ℕ) (l : List ℕ) → length (insert_down x l) ≡ suc (length l)
unfolding insert_down
insert_length x [] = refl
insert_length x (y ∷ ys) = go (inserted x y ys) (insert_length x ys)
  where
    go : Inserted x y ys → length (insert_down x ys) ≡ suc (length ys) → length (insert_down x (y ∷ ys)) ≡ suc (suc (length ys))
    go (behind p e) ih = ap length e ∙ ap suc ih
    go (front p e) ih = ap length e

insert_count : (t x : ℕ) (l : List ℕ) → count t (insert_down x l) ≡ count t (x ∷ l)
unfolding insert_down count
insert_count t x [] = refl
insert_count t x (y ∷ ys) = go (inserted x y ys) (insert_count t x ys)
  where
    go : Inserted x y ys → count t (insert_down x ys) ≡ count t (x ∷ ys) → count t (insert_down x (y ∷ ys)) ≡ count t (x ∷ y ∷ ys)
    go (behind p e) ih = omega (arith, ap (count t) e)
    go (front p e) ih = ap (count t) e

insert_falling : (top x : ℕ) (l : List ℕ) → x ≤ top → Falling top l → Falling top (insert_down x l)
unfolding insert_down
insert_falling top x [] p f = (p, tt)
insert_falling top x (y ∷ ys) p f = go (inserted x y ys) (λ q. insert_falling y x ys q f.1)
  where
    go : Inserted x y ys → (x ≤ y → Falling y (insert_down x ys)) → Falling top (insert_down x (y ∷ ys))
    go (behind q e) ih = rw e (f.0, ih (omega arith))
    go (front q e) ih = rw e (p, (q, f.1))

sort_length : (l : List ℕ) → length (sort_down l) ≡ length l
unfolding sort_down
sort_length [] = refl
sort_length (x ∷ xs) = insert_length x (sort_down xs) ∙ ap suc (sort_length xs)

sort_count : (t : ℕ) (l : List ℕ) → count t (sort_down l) ≡ count t l
unfolding sort_down count
sort_count t [] = refl
sort_count t (x ∷ xs) = omega (arith, insert_count t x (sort_down xs), sort_count t xs)

raise : (low high : ℕ) (l : List ℕ) → low ≤ high → Falling low l → Falling high l
raise low high [] p f = tt
raise low high (x ∷ xs) p f = (omega arith, f.1)

sort_falling : (l : List ℕ) → (top : ℕ) × Falling top (sort_down l)
unfolding sort_down
sort_falling [] = (0, tt)
sort_falling (x ∷ xs) =
    let (top, f) = sort_falling xs in
    (x + top, insert_falling (x + top) x (sort_down xs) (omega arith) (raise top (x + top) (sort_down xs) (omega arith) f))

-- ---- a falling list and its counts

none_count : (t top : ℕ) (l : List ℕ) → Falling top l → top < t → count t l ≡ 0
unfolding count
none_count t top [] f p = refl
none_count t top (x ∷ xs) f p =
    omega (arith, f.0, reach_under t x (omega (arith, f.0)), none_count t x xs f.1 (omega (arith, f.0)))

-- the first number is at or above the threshold and counts, or none is
data First (t x : ℕ) (xs : List ℕ) : Type 0 where
  counts : t ≤ x → count t (x ∷ xs) ≡ suc (count t xs) → First t x xs
  none : x < t → count t (x ∷ xs) ≡ 0 → count t xs ≡ 0 → First t x xs

first : (t x : ℕ) (xs : List ℕ) → Falling x xs → First t x xs
unfolding count
first t x xs f = go (reach_cases t x)
  where
    go : Reach t x → First t x xs
    go (up p e) = counts p (omega arith)
    go (under p e) = let z : count t xs ≡ 0 = none_count t x xs f p in none p (omega arith) z

module _ (t : ℕ) where
  count_at : (top : ℕ) (l : List ℕ) → Falling top l → (j : ℕ) → 1 ≤ t → t ≤ get_or l j 0 → j < count t l
  count_at top [] f j p q = absurd (omega arith)
  count_at top (x ∷ xs) f zero p q = go (first t x xs f.1)
    where
      go : First t x xs → 0 < count t (x ∷ xs)
      go (counts r e) = omega arith
      go (none r e z) = absurd (omega arith)
  count_at top (x ∷ xs) f (suc j) p q = go (first t x xs f.1) (count_at x xs f.1 j p q)
    where
      go : First t x xs → j < count t xs → suc j < count t (x ∷ xs)
      go (counts r e) ih = omega arith
      go (none r e z) ih = absurd (omega arith)

  at_count : (top : ℕ) (l : List ℕ) → Falling top l → (j : ℕ) → j < count t l → t ≤ get_or l j 0
  unfolding count
  at_count top [] f j p = absurd (omega arith)
  at_count top (x ∷ xs) f j p = go (first t x xs f.1) j p (at_count x xs f.1)
    where
      go : First t x xs → (i : ℕ) → i < count t (x ∷ xs) → ((k : ℕ) → k < count t xs → t ≤ get_or xs k 0) → t ≤ get_or (x ∷ xs) i 0
      go (counts r e) zero q ih = r
      go (counts r e) (suc k) q ih = ih k (omega arith)
      go (none r e z) i q ih = absurd (omega arith)

-- ---- two lists

-- wherever a sorts to a number above 0, b is as high there
sorted_le_at :
    (a b : List ℕ) (j : ℕ) →
    ((t : ℕ) → j < count t a → j < count t b) → get_or (sort_down a) j 0 ≤ get_or (sort_down b) j 0
sorted_le_at a b j h = go (dec_le 1 (get_or (sort_down a) j 0))
  where
    x : ℕ
    x = get_or (sort_down a) j 0

    go : Dec (1 ≤ x) → x ≤ get_or (sort_down b) j 0
    go (yes p) =
        let (ta, fa) = sort_falling a in
        let (tb, fb) = sort_falling b in
        at_count x tb (sort_down b) fb j
        (rw (sort_count x b) (h x (rw (sort_count x a) at (count_at x ta (sort_down a) fa j p (omega arith)))))
    go (no q) = omega arith

pub sorted_count : (a b : List ℕ) → sort_down a ≡ sort_down b → (t : ℕ) → count t a ≡ count t b
sorted_count a b e t = omega (arith, sort_count t a, sort_count t b, ap (count t) e)

pub sorted_le :
    (a b : List ℕ) → ((t : ℕ) → count t a ≤ count t b) → (j : ℕ) → get_or (sort_down a) j 0 ≤ get_or (sort_down b) j 0
sorted_le a b h j = sorted_le_at a b j (λ t p. omega (arith, h t))

module _ (a c : List ℕ) (m : ℕ) (a-length : length a ≡ m) (fits : m ≤ length c) where
  pub top_of : ((t : ℕ) → count t a ≡ min m (count t c)) → sort_down a ≡ take m (sort_down c)
  top_of h = ext_get_or 0 (sort_down a) (take m (sort_down c)) lengths same
    where
      lengths : length (sort_down a) ≡ length (take m (sort_down c))
      lengths = omega (arith, sort_length a, sort_length c, length-take m (sort_down c))

      same : (j : ℕ) → j < length (sort_down a) → get_or (sort_down a) j 0 ≡ get_or (take m (sort_down c)) j 0
      same j p =
          let q : j < m = omega (arith, sort_length a) in
          rw (get_or-take m (sort_down c) j 0 q)
          (omega (arith, sorted_le_at a c j (λ t r. omega (arith, h t)), sorted_le_at c a j (λ t r. omega (arith, h t))))
