-- The ranges of the comparator tree, and how many of them have a number in them of which a test holds. Assumes nothing.
--   by_halves                       what holds of ranges of none and of one, and of a range if of its halves, holds of all
--   halved_enough, halved_node      every bound on the depth that is enough makes the same tree; that of a range has those of its halves
--   ranges_halves                   so the list of its ranges has theirs
--   occupied_single                 the count for one such number
--   occupied_node                   the count for a range that has such a number, from those for its halves
--   occupied_cong                   tests that agree inside the range
--   occupied_none, occupied_some    no such number: 0; some: at least 1
--   occupied_all, occupied_size     all are: one less than twice the length, and it is never more
--   occupied_path                   for each such number at most one more than the longest path
use Prim.Native.Nat.{ℕ, zero, suc, ◌+◌, ◌-◌, ◌*◌, ◌/◌, ◌<◌, ◌≤◌, max}
use mathlib.Core.Path.{◌≡◌, refl, ap, ap₂, ◌∙◌}
use mathlib.Core.List.{List, [], ◌∷◌, ◌++◌}
use mathlib.Core.Bool.{Bool, true, false, cond}
use native.Mathlib.Nat.{add-zero, mul-add, suc-mul, mul-le-mul_right}
use native.Mathlib.Omega.{arith}
use lib.ListN.{length}
use Rattle.lists.specs.Rows.{filter}
use Rattle.lists.specs.Walks.{tally, left_half, Comparators, over, halved, longest_path, ranges_of, ranges, within, occupied}
use Rattle.lists.proofs.Walks.{some_agree}
use Rattle.lists.proofs.Tallies.{one_le, tally_mono, within_in, within_rise, within_level}

-- ---- the tree

module _ (P : ℕ → ℕ → Type 0) (none : (lo : ℕ) → P lo 0) (one : (lo : ℕ) → P lo 1)
    (node : (lo len : ℕ) → 2 ≤ len → P lo (left_half len) → P (lo + left_half len) (len / 2) → P lo len) where
  below : (d lo len : ℕ) → len ≤ d → P lo len
  below zero lo zero h = none lo
  below zero lo (suc k) h = absurd (omega arith)
  below (suc d) lo zero h = none lo
  below (suc d) lo (suc zero) h = one lo
  below (suc d) lo (suc (suc k)) h =
      let len : ℕ = suc (suc k) in
      node lo len (omega arith) (below d lo (left_half len) (omega arith)) (below d (lo + left_half len) (len / 2) (omega arith))

  pub by_halves : (lo len : ℕ) → P lo len
  by_halves lo len = below len lo len (omega arith)

halved_enough : (d e lo len : ℕ) → len ≤ d → len ≤ e → halved d lo len ≡ halved e lo len
unfolding halved
halved_enough zero zero lo len h g = refl
halved_enough zero (suc e) lo zero h g = refl
halved_enough zero (suc e) lo (suc k) h g = absurd (omega arith)
halved_enough (suc d) zero lo zero h g = refl
halved_enough (suc d) zero lo (suc k) h g = absurd (omega arith)
halved_enough (suc d) (suc e) lo zero h g = refl
halved_enough (suc d) (suc e) lo (suc zero) h g = refl
halved_enough (suc d) (suc e) lo (suc (suc k)) h g =
    let len : ℕ = suc (suc k) in
    ap₂ (over lo len)
    (halved_enough d e lo (left_half len) (omega arith) (omega arith))
    (halved_enough d e (lo + left_half len) (len / 2) (omega arith) (omega arith))

-- the whole tree over a range
abbrev whole : ℕ → ℕ → Comparators
whole lo len = halved len lo len

halved_node : (lo len : ℕ) → 2 ≤ len → whole lo len ≡ over lo len (whole lo (left_half len)) (whole (lo + left_half len) (len / 2))
unfolding halved
halved_node lo zero h = absurd (omega arith)
halved_node lo (suc zero) h = absurd (omega arith)
halved_node lo (suc (suc k)) h =
    let len : ℕ = suc (suc k) in
    ap₂ (over lo len)
    (halved_enough (suc k) (left_half len) lo (left_half len) (omega arith) (omega arith))
    (halved_enough (suc k) (len / 2) (lo + left_half len) (len / 2) (omega arith) (omega arith))

pub ranges_halves : (lo len : ℕ) → 2 ≤ len → ranges lo len ≡ (lo, len) ∷ (ranges lo (left_half len) ++ ranges (lo + left_half len) (len / 2))
unfolding ranges
ranges_halves lo len h = ap ranges_of (halved_node lo len h)

-- ---- filtered lists

filter_first : {A : Type 0} (p : A → Bool) (x : A) (xs : List A) → length (filter p (x ∷ xs)) ≡ cond (p x) 1 0 + length (filter p xs)
unfolding filter
filter_first p x xs = go (p x)
  where
    go : (t : Bool) → length (cond t (x ∷ filter p xs) (filter p xs)) ≡ cond t 1 0 + length (filter p xs)
    go true = omega arith
    go false = omega arith

filter_append : {A : Type 0} (p : A → Bool) (xs ys : List A) → length (filter p (xs ++ ys)) ≡ length (filter p xs) + length (filter p ys)
unfolding filter
filter_append p [] ys = omega arith
filter_append p (x ∷ xs) ys = omega (arith, filter_first p x (xs ++ ys), filter_first p x xs, filter_append p xs ys)

-- ---- the count, by the halves

module _ (f : ℕ → Bool) where
  occupied_one : (lo : ℕ) → occupied f lo 1 ≡ cond (within f (lo, 1)) 1 0
  unfolding occupied
  occupied_one lo = filter_first (within f) (lo, 1) [] ∙ omega arith

  occupied_halves :
      (lo len : ℕ) → 2 ≤ len →
      occupied f lo len ≡ cond (within f (lo, len)) 1 0 + (occupied f lo (left_half len) + occupied f (lo + left_half len) (len / 2))
  unfolding occupied
  occupied_halves lo len h =
      let left : List (ℕ × ℕ) = ranges lo (left_half len) in
      let right : List (ℕ × ℕ) = ranges (lo + left_half len) (len / 2) in
      rw (ranges_halves lo len h, filter_first (within f) (lo, len) (left ++ right), filter_append (within f) left right)

  -- a range with such a number is counted itself
  pub occupied_node :
      (lo len : ℕ) → 2 ≤ len → within f (lo, len) ≡ true →
      occupied f lo len ≡ 1 + (occupied f lo (left_half len) + occupied f (lo + left_half len) (len / 2))
  occupied_node lo len h e = rw e at (occupied_halves lo len h)

  pub occupied_single : (lo : ℕ) → within f (lo, 1) ≡ true → occupied f lo 1 ≡ 1
  occupied_single lo e = rw e at (occupied_one lo)

  pub occupied_some : (lo len : ℕ) → within f (lo, len) ≡ true → 1 ≤ occupied f lo len
  occupied_some lo zero e = absurd (omega (arith, within_rise f lo 0 e, ap (λ (i : ℕ). tally i f) (add-zero lo)))
  occupied_some lo (suc zero) e = omega (arith, occupied_single lo e)
  occupied_some lo (suc (suc k)) e = omega (arith, occupied_node lo (suc (suc k)) (omega arith) e)

  -- ---- how large the count is

  pub occupied_size : (lo len : ℕ) → 1 ≤ len → occupied f lo len < len + len
  occupied_size =
      by_halves (λ (lo len : ℕ). 1 ≤ len → occupied f lo len < len + len)
      (λ lo h. absurd (omega arith))
      (λ lo h. omega (arith, occupied_one lo, one_le (within f (lo, 1))))
      (λ lo len h left right g.
      omega (arith, occupied_halves lo len h, one_le (within f (lo, len)), left (omega arith), right (omega arith)))

  pub occupied_all : (lo len : ℕ) → 1 ≤ len → ((i : ℕ) → lo ≤ i → i < lo + len → f i ≡ true) → occupied f lo len + 1 ≡ len + len
  occupied_all =
      by_halves
      (λ (lo len : ℕ). 1 ≤ len → ((i : ℕ) → lo ≤ i → i < lo + len → f i ≡ true) → occupied f lo len + 1 ≡ len + len)
      (λ lo h all. absurd (omega arith))
      (λ lo h all. omega (arith, occupied_single lo (held lo 1 h all)))
      (λ lo len h left right g all.
      omega (
        arith,
        occupied_node lo len h (held lo len g all),
        left (omega arith) (λ i p q. all i p (omega arith)),
        right (omega arith) (λ i p q. all i (omega arith) (omega arith)),
      ))
    where
      held : (lo len : ℕ) → 1 ≤ len → ((i : ℕ) → lo ≤ i → i < lo + len → f i ≡ true) → within f (lo, len) ≡ true
      held lo len h all = within_in f lo len lo (omega arith) (omega arith) (all lo (omega arith) (omega arith))

  -- c such numbers
  abbrev PathBound : ℕ → ℕ → Type 0
  PathBound lo len = (c : ℕ) → tally (lo + len) f ≡ tally lo f + c → occupied f lo len ≤ suc (longest_path (whole lo len)) * c

  -- the halves' numbers together, each with one range more
  path_sum : (d e a b c x y z : ℕ) → a ≤ suc d * x → b ≤ suc e * y → x + y ≡ z → c ≤ z → c + (a + b) ≤ suc (suc (max d e)) * z
  path_sum d e a b c x y z h g s u =
      let m : ℕ = suc (max d e) in
      let p : suc d * x ≤ m * x = mul-le-mul_right x (omega arith) in
      let q : suc e * y ≤ m * y = mul-le-mul_right y (omega arith) in
      rw (← s) (omega (arith, mul-add m x y, suc-mul m (x + y)))

  -- a range counts once if it has such a number
  own_count : (lo len c : ℕ) → tally (lo + len) f ≡ tally lo f + c → cond (within f (lo, len)) 1 0 ≤ c
  own_count lo len c e = go (within f (lo, len)) refl
    where
      go : (t : Bool) → within f (lo, len) ≡ t → cond t 1 0 ≤ c
      go true p = omega (arith, within_rise f lo len p)
      go false p = omega arith

  path_node : (lo len : ℕ) → 2 ≤ len → PathBound lo (left_half len) → PathBound (lo + left_half len) (len / 2) → PathBound lo len
  unfolding longest_path
  path_node lo len h left right c e =
      let mid : ℕ = lo + left_half len in
      let end : mid + len / 2 ≡ lo + len = omega arith in
      let x : ℕ = tally mid f - tally lo f in
      let y : ℕ = tally (lo + len) f - tally mid f in
      let first : tally lo f ≤ tally mid f = tally_mono f lo (left_half len) in
      let second : tally mid f ≤ tally (lo + len) f = rw end at (tally_mono f mid (len / 2)) in
      let from : tally (mid + len / 2) f ≡ tally mid f + y = rw end (omega arith) in
      rw (halved_node lo len h, occupied_halves lo len h)
      (path_sum (longest_path (whole lo (left_half len))) (longest_path (whole mid (len / 2))) _ _ _ x y c
      (left x (omega arith)) (right y from) (omega arith) (own_count lo len c e))

  pub occupied_path : (lo len : ℕ) → PathBound lo len
  unfolding occupied longest_path
  occupied_path = by_halves PathBound (λ lo c e. omega arith) (λ lo c e. omega (arith, occupied_one lo, own_count lo 1 c e)) path_node

  pub occupied_none : (lo len : ℕ) → within f (lo, len) ≡ false → occupied f lo len ≡ 0
  occupied_none lo len e = omega (arith, occupied_path lo len 0 (within_level f lo len e ∙ omega arith))

pub occupied_cong :
    (f g : ℕ → Bool) (lo len : ℕ) → ((i : ℕ) → lo ≤ i → i < lo + len → f i ≡ g i) → occupied f lo len ≡ occupied g lo len
unfolding occupied
occupied_cong f g =
    by_halves (λ (lo len : ℕ). ((i : ℕ) → lo ≤ i → i < lo + len → f i ≡ g i) → occupied f lo len ≡ occupied g lo len)
    (λ lo agree. refl)
    (λ lo agree. rw (occupied_one f lo, occupied_one g lo, alike lo 1 agree))
    (λ lo len h left right agree.
    rw (
      occupied_halves f lo len h,
      occupied_halves g lo len h,
      alike lo len agree,
      left (λ i p q. agree i p (omega arith)),
      right (λ i p q. agree i (omega arith) (omega arith)),
    ))
  where
    alike : (lo len : ℕ) → ((i : ℕ) → lo ≤ i → i < lo + len → f i ≡ g i) → within f (lo, len) ≡ within g (lo, len)
    alike lo len agree = some_agree len (λ j. f (lo + j)) (λ j. g (lo + j)) (λ j p. agree (lo + j) (omega arith) (omega arith))
