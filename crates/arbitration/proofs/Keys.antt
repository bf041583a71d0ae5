-- The highest key of a range of numbers. Assumes nothing.
--   first_in, highest_key      the answer for a range that is not empty is its first highest (`FirstIn`), and nothing else is
--   at_most_one, beside        `HighestKey` of a range of at most one, and of two ranges side by side
--   highest_inside             it lies in the range
use Prim.Native.Nat.{ℕ, ◌+◌, ◌<◌, ◌≤◌}
use mathlib.Core.Path.{◌≡◌, refl, sym, subst}
use mathlib.Core.List.{List}
use native.Mathlib.Omega.{arith}
use lib.ListN.{get_or}
use borrow.Author.Tests.{lt-ltb, le-ltb}
use Rattle.lists.specs.Walks.{tree}
use Rattle.arbitration.specs.Keys.{key_above, HighestKey}
use Rattle.lists.proofs.Winner.{WeakOrder, by_key, FirstIn, first_unique, node_left, node_right, tree_of_one, tree_first}

-- ---- the highest key of a range

pub above_order : (ks : List ℕ) → WeakOrder (key_above ks)
above_order ks = by_key (λ (i : ℕ). get_or ks i 0)

pub at_most_one : (ks : List ℕ) (lo len : ℕ) → len ≤ 1 → HighestKey ks lo len lo
at_most_one ks lo len h d g = tree_of_one (key_above ks) d lo len h

pub first_in : (ks : List ℕ) (lo len r : ℕ) → 1 ≤ len → HighestKey ks lo len r → FirstIn (key_above ks) lo len r
first_in ks lo len r h e =
    subst (FirstIn (key_above ks) lo len) (sym (e len (omega arith))) (tree_first (key_above ks) (above_order ks) len lo len h (omega arith))

pub highest_key : (ks : List ℕ) (lo len r : ℕ) → FirstIn (key_above ks) lo len r → HighestKey ks lo len r
highest_key ks lo len r f d g =
    first_unique (key_above ks) lo len r (tree (key_above ks) d lo len) f
    (tree_first (key_above ks) (above_order ks) d lo len (omega (arith, f.from, f.inside)) g)

pub highest_inside : (ks : List ℕ) (lo len r : ℕ) → 1 ≤ len → HighestKey ks lo len r → r < lo + len
highest_inside ks lo len r h e = (first_in ks lo len r h e).inside

-- of two ranges side by side, with the highest at x and at y, the right one's is kept only if it is above
pub record Beside (ks : List ℕ) (lo len x y : ℕ) : Type 0 where
  pub right : get_or ks x 0 < get_or ks y 0 → HighestKey ks lo len y
  pub left : get_or ks y 0 ≤ get_or ks x 0 → HighestKey ks lo len x

-- the ranges have a and b keys
pub beside :
    (ks : List ℕ) (lo a b len x y : ℕ) → 1 ≤ a → 1 ≤ b → a + b ≡ len → HighestKey ks lo a x → HighestKey ks (lo + a) b y →
    Beside ks lo len x y
beside ks lo a b len x y h g s f e =
    record { right = λ p. highest_key ks lo len y (right p); left = λ p. highest_key ks lo len x (left p) }
  where
    at_x : FirstIn (key_above ks) lo a x
    at_x = first_in ks lo a x h f

    at_y : FirstIn (key_above ks) (lo + a) b y
    at_y = first_in ks (lo + a) b y g e

    right : get_or ks x 0 < get_or ks y 0 → FirstIn (key_above ks) lo len y
    right p = node_right (key_above ks) (above_order ks) lo a (lo + a) b len x y refl s at_x at_y (lt-ltb (get_or ks x 0) (get_or ks y 0) p)

    left : get_or ks y 0 ≤ get_or ks x 0 → FirstIn (key_above ks) lo len x
    left p = node_left (key_above ks) (above_order ks) lo a (lo + a) b len x y refl s at_x at_y (le-ltb (get_or ks x 0) (get_or ks y 0) p)
