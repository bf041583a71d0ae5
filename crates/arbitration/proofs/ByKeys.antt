-- Keys decide as the records that they are read off. Assumes nothing.
--   tree_cong               the tree looks only at indices of its range: orders that agree there have one winner
--   RanksOf, highest_by_keys    keys that are the sources' ranks: their highest is the highest source
use Prim.Native.Nat.{ℕ, zero, suc, ◌+◌, ◌/◌, ◌<◌, ◌≤◌}
use mathlib.Core.Path.{◌≡◌, refl, ap₂, ◌∙◌}
use mathlib.Core.List.{List}
use mathlib.Core.Bool.{Bool, true, false, cond}
use native.Mathlib.Omega.{arith}
use lib.Dec.{ltb}
use Rattle.model.specs.declared.Source.{Source}
use Rattle.lists.specs.Rows.{FilledBy}
use Rattle.lists.specs.Walks.{winner, left_half, tree}
use Rattle.model.specs.Records.{no_source}
use Rattle.model.specs.Arbitration.{rank, higher, highest}
use Rattle.arbitration.specs.Keys.{key_above, HighestKey}

-- ---- orders that agree inside the range

picked : (P : ℕ → Type 0) (t : Bool) (x y : ℕ) → P x → P y → P (cond t y x)
picked P true x y p q = q
picked P false x y p q = p

-- two contenders answered alike, and compared alike
winner_cong :
    (above above' : ℕ → ℕ → Bool) (x x' y y' : ℕ) → x ≡ x' → y ≡ y' → above y x ≡ above' y x → winner above x y ≡ winner above' x' y'
winner_cong above above' x x' y y' p q e = rw (e, p, q)

abbrev Inside : ℕ → ℕ → ℕ → Type 0
Inside lo len w = (lo ≤ w) × (w < lo + len)

tree_inside : (above : ℕ → ℕ → Bool) (d lo len : ℕ) → 1 ≤ len → Inside lo len (tree above d lo len)
unfolding tree
tree_inside above zero lo len h = omega arith
tree_inside above (suc d) lo zero h = absurd (omega arith)
tree_inside above (suc d) lo (suc zero) h = omega arith
tree_inside above (suc d) lo (suc (suc k)) h =
    let len : ℕ = suc (suc k) in
    let x : ℕ = tree above d lo (left_half len) in
    let y : ℕ = tree above d (lo + left_half len) (len / 2) in
    let u : Inside lo (left_half len) x = tree_inside above d lo (left_half len) (omega arith) in
    let v : Inside (lo + left_half len) (len / 2) y = tree_inside above d (lo + left_half len) (len / 2) (omega arith) in
    picked (Inside lo len) (above y x) x y (omega arith) (omega arith)

tree_cong :
    (above above' : ℕ → ℕ → Bool) (d lo len : ℕ) → ((i j : ℕ) → Inside lo len i → Inside lo len j → above i j ≡ above' i j) →
    tree above d lo len ≡ tree above' d lo len
unfolding tree
tree_cong above above' zero lo len agree = refl
tree_cong above above' (suc d) lo zero agree = refl
tree_cong above above' (suc d) lo (suc zero) agree = refl
tree_cong above above' (suc d) lo (suc (suc k)) agree =
    let len : ℕ = suc (suc k) in
    let x : (ℕ → ℕ → Bool) → ℕ = λ f. tree f d lo (left_half len) in
    let y : (ℕ → ℕ → Bool) → ℕ = λ f. tree f d (lo + left_half len) (len / 2) in
    let u : Inside lo (left_half len) (x above) = tree_inside above d lo (left_half len) (omega arith) in
    let v : Inside (lo + left_half len) (len / 2) (y above) = tree_inside above d (lo + left_half len) (len / 2) (omega arith) in
    winner_cong above above' (x above) (x above') (y above) (y above')
    (tree_cong above above' d lo (left_half len) (λ i j h g. agree i j (omega arith) (omega arith)))
    (tree_cong above above' d (lo + left_half len) (len / 2) (λ i j h g. agree i j (omega arith) (omega arith)))
    (agree (y above) (x above) (omega arith) (omega arith))

-- ---- keys read off the records

-- ks holds the rank of each of the first n sources
abbrev pub RanksOf : List Source → ℕ → List ℕ → Type 0
RanksOf l n ks = FilledBy (λ i x. rank x) no_source l n ks

pub highest_by_keys : (l : List Source) (n : ℕ) (ks : List ℕ) → RanksOf l n ks → (r : ℕ) → HighestKey ks 0 n r → r ≡ highest l n
unfolding highest
highest_by_keys l n ks same r e =
    e n (omega arith) ∙
    tree_cong (key_above ks) (higher l) n 0 n (λ i j h g. ap₂ ltb (same j (omega arith)) (same i (omega arith)))
