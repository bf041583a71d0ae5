-- Walks over the numbers below a bound, and the first winner of a row. Definitions only. Assumes nothing.
--   every n f, some n f      f holds of each, of some number below n; every 0 f holds, some 0 f does not
--   tally n f                how many numbers below n f holds of
--   FirstOf above n w        w is the first highest of 0, .., n - 1
--   winner above x y         the later contender y replaces x only if it is above x: x keeps a tie
--   walk above n             the first highest of 0, .., n - 1, met in that order; 0 for an empty row
--   halved d lo len          the comparator tree over lo, .., lo + len - 1, made by halving; d bounds its depth, and len is enough
--   tree above d lo len      its winner, the first highest of the range; lo for an empty range
--   comparisons d len        the comparisons on its longest path, which lo doesn't change
--   ranges lo len            its ranges, each by start and length: single numbers too, none for an empty range
--   occupied f lo len        how many of them have a number in them of which f holds
use Rattle.std.specs.Prelude.{ℕ, zero, suc, ◌+◌, ◌-◌, ◌/◌, ◌<◌, ◌≤◌, max, ◌≡◌, List, [], ◌∷◌, ◌++◌, Bool, true, false, ◌&&◌, ◌||◌, cond, length}
use Rattle.lists.specs.Rows.{filter}

unfoldable pub every : ℕ → (ℕ → Bool) → Bool
every zero f = true
every (suc k) f = every k f && f k

unfoldable pub some : ℕ → (ℕ → Bool) → Bool
some zero f = false
some (suc k) f = some k f || f k

unfoldable pub tally : ℕ → (ℕ → Bool) → ℕ
tally zero f = 0
tally (suc k) f = tally k f + cond (f k) 1 0

abbrev pub winner : (ℕ → ℕ → Bool) → ℕ → ℕ → ℕ
winner above x y = cond (above y x) y x

unfoldable pub walk : (ℕ → ℕ → Bool) → ℕ → ℕ
walk above zero = 0
walk above (suc k) = winner above (walk above k) k

-- The comparator tree. Document 01, "Settling": "a range is halved until one source is left, and the left side wins a tie".
-- Its winner, its longest path and its ranges are read off the one tree.
pub data Comparators : Type 0 where
  -- an empty range, which begins at lo, and the range of lo alone
  none : (lo : ℕ) → Comparators
  one : (lo : ℕ) → Comparators
  -- the comparison over the len numbers from lo, with the trees of their left and right half
  over : (lo len : ℕ) → Comparators → Comparators → Comparators

-- The left half of an odd range is the larger one.
abbrev pub left_half : ℕ → ℕ
left_half len = len - len / 2

unfoldable pub halved : ℕ → ℕ → ℕ → Comparators
halved zero lo len = none lo
halved (suc d) lo zero = none lo
halved (suc d) lo (suc zero) = one lo
halved (suc d) lo (suc (suc k)) =
    let len : ℕ = suc (suc k) in
    over lo len (halved d lo (left_half len)) (halved d (lo + left_half len) (len / 2))

unfoldable pub winner_of : (ℕ → ℕ → Bool) → Comparators → ℕ
winner_of above (none lo) = lo
winner_of above (one lo) = lo
winner_of above (over lo len left right) = winner above (winner_of above left) (winner_of above right)

unfoldable pub longest_path : Comparators → ℕ
longest_path (none lo) = 0
longest_path (one lo) = 0
longest_path (over lo len left right) = suc (max (longest_path left) (longest_path right))

unfoldable pub ranges_of : Comparators → List (ℕ × ℕ)
ranges_of (none lo) = []
ranges_of (one lo) = (lo, 1) ∷ []
ranges_of (over lo len left right) = (lo, len) ∷ (ranges_of left ++ ranges_of right)

unfoldable pub tree : (ℕ → ℕ → Bool) → ℕ → ℕ → ℕ → ℕ
unfolding halved winner_of
tree above d lo len = winner_of above (halved d lo len)

unfoldable pub comparisons : ℕ → ℕ → ℕ
unfolding halved longest_path
comparisons d len = longest_path (halved d 0 len)

unfoldable pub ranges : ℕ → ℕ → List (ℕ × ℕ)
unfolding halved ranges_of
ranges lo len = ranges_of (halved len lo len)

-- f holds of some number of the range r.
abbrev pub within : (ℕ → Bool) → ℕ × ℕ → Bool
within f r = some r.1 (λ i. f (r.0 + i))

unfoldable pub occupied : (ℕ → Bool) → ℕ → ℕ → ℕ
unfolding some filter ranges
occupied f lo len = length (filter (within f) (ranges lo len))

-- w is the first of the highest among 0, .., n - 1: above all before it, and none after it is above it.
pub record FirstOf (above : ℕ → ℕ → Bool) (n w : ℕ) : Type 0 where
  pub inside : w < n
  pub before : (j : ℕ) → j < w → above w j ≡ true
  pub after : (j : ℕ) → w ≤ j → j < n → above j w ≡ false
