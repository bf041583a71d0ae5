-- The least core: which of two cores is below the other, and what the search finds. Assumes nothing.
--   Key, key_cases                     a core's key is even if its box is filled, odd if it is empty
--   key_le                             a lower key has no higher current priority
--   lower_exact                        one core is below another by its current priority, then by a filled box
--   least_is_first, least_goes_first   the least core is the first in that order
--   least_below, least_le              it is one of the m cores, and none has a lower current priority
--   least_filled                       where its box is empty, every filled box is above its current priority
use Prim.Native.Nat.{ℕ, ◌+◌, ◌*◌, ◌<◌, ◌≤◌}
use mathlib.Core.Path.{◌≡◌}
use mathlib.Core.Logic.{◌≢◌}
use mathlib.Core.List.{List}
use mathlib.Core.Bool.{true, false}
use native.Mathlib.Omega.{arith}
use native.Mathlib.Decide.{dec_lt}
use lib.ListN.{get_or}
use borrow.Author.Tests.{ltb-true, ltb-false, lt-ltb}
use Rattle.model.specs.declared.Core.{Core}
use Rattle.model.specs.Records.{no_core}
use Rattle.model.specs.Requests.{current_priority}
use Rattle.model.specs.Arbitration.{core_key, lower, least}
use Rattle.model.specs.Statements.{LeastIsFirst, Below, less, filled_first, GoesBefore, below, lower_number, LowerExact, LeastGoesFirst}
use Rattle.lists.proofs.Bools.{clash, Flag, on, off, flag}
use Rattle.lists.proofs.Winner.{WeakOrder, by_key, converse, FirstIn, first_of, none_above, walk_first}

-- ---- keys

data Key (c : Core) : Type 0 where
  even : c.message.filled ≡ true → core_key c ≡ 2 * current_priority c → Key c
  odd : c.message.filled ≡ false → core_key c ≡ 2 * current_priority c + 1 → Key c

key_cases : (c : Core) → Key c
key_cases c = go (flag c.message.filled)
  where
    go : Flag c.message.filled → Key c
    go (on f) = even f (rw f (omega arith))
    go (off f) = odd f (rw f (omega arith))

pub key_le : (c d : Core) → core_key c ≤ core_key d → current_priority c ≤ current_priority d
key_le c d h = go (key_cases c) (key_cases d)
  where
    go : Key c → Key d → current_priority c ≤ current_priority d
    go (even f e) (even g u) = omega arith
    go (even f e) (odd g u) = omega arith
    go (odd f e) (even g u) = omega arith
    go (odd f e) (odd g u) = omega arith

-- ---- the order

module _ (l : List Core) (i j : ℕ) where
  abbrev c : Core
  c = get_or l i no_core

  abbrev d : Core
  d = get_or l j no_core

  key_below : core_key c < core_key d → Below l i j
  key_below h = go (key_cases c) (key_cases d) (dec_lt (current_priority c) (current_priority d))
    where
      go : Key c → Key d → Dec (current_priority c < current_priority d) → Below l i j
      go x y (yes p) = less p
      go (even f e) (odd g u) (no p) = filled_first (omega arith) f g
      go (even f e) (even g u) (no p) = absurd (omega arith)
      go (odd f e) (even g u) (no p) = absurd (omega arith)
      go (odd f e) (odd g u) (no p) = absurd (omega arith)

  below_key : Below l i j → core_key c < core_key d
  below_key b = go b (key_cases c) (key_cases d)
    where
      go : Below l i j → Key c → Key d → core_key c < core_key d
      go (less p) (even f e) (even g u) = omega arith
      go (less p) (even f e) (odd g u) = omega arith
      go (less p) (odd f e) (even g u) = omega arith
      go (less p) (odd f e) (odd g u) = omega arith
      go (filled_first p f g) (even f' e) (odd g' u) = omega arith
      go (filled_first p f g) (even f' e) (even g' u) = clash g' g
      go (filled_first p f g) (odd f' e) y = clash f f'

  -- neither is below the other
  alike : core_key c ≡ core_key d → (current_priority c ≡ current_priority d) × (c.message.filled ≡ d.message.filled)
  alike h = go (key_cases c) (key_cases d)
    where
      go : Key c → Key d → (current_priority c ≡ current_priority d) × (c.message.filled ≡ d.message.filled)
      go (even f e) (even g u) = (omega arith, rw (f, g))
      go (even f e) (odd g u) = absurd (omega arith)
      go (odd f e) (even g u) = absurd (omega arith)
      go (odd f e) (odd g u) = (omega arith, rw (f, g))

pub lower_exact : LowerExact
lower_exact l i j =
    (λ e. key_below l i j (ltb-true _ _ e), λ b. lt-ltb _ _ (below_key l i j b))

lower_order : (l : List Core) → WeakOrder (lower l)
lower_order l = converse (by_key (λ (k : ℕ). core_key (get_or l k no_core)))

-- ---- the first in that order

pub least_first : (l : List Core) (m : ℕ) → 1 ≤ m → FirstIn (lower l) 0 m (least l m)
unfolding least
least_first l m h = walk_first (lower l) (lower_order l) m h

pub least_is_first : LeastIsFirst
least_is_first l m h = first_of (least_first l m h)

pub least_below : (l : List Core) (m : ℕ) → 1 ≤ m → least l m < m
least_below l m h = (least_is_first l m h).inside

module _ (l : List Core) (m k : ℕ) (h : k < m) where
  abbrev first : Core
  first = get_or l (least l m) no_core

  abbrev other : Core
  other = get_or l k no_core

  least_key : core_key first ≤ core_key other
  least_key =
      ltb-false _ _ (none_above (lower l) (lower_order l) 0 m (least l m) (least_first l m (omega arith)) k (omega arith) (omega arith))

  pub least_le : current_priority first ≤ current_priority other
  least_le = key_le first other least_key

  pub least_filled : first.message.filled ≡ false → other.message.filled ≡ true → current_priority first < current_priority other
  least_filled f g = go (key_cases first) (key_cases other)
    where
      go : Key first → Key other → current_priority first < current_priority other
      go (odd f' e) (even g' u) = omega (arith, least_key)
      go (odd f' e) (odd g' u) = clash g g'
      go (even f' e) y = clash f' f

  goes_before : k ≢ least l m → GoesBefore l (least l m) k
  goes_before apart = go (dec_lt (core_key first) (core_key other)) (dec_lt k (least l m))
    where
      go : Dec (core_key first < core_key other) → Dec (k < least l m) → GoesBefore l (least l m) k
      go (yes p) q = below (key_below l (least l m) k p)
      go (no p) (yes q) = absurd (p (ltb-true _ _ ((least_is_first l m (omega arith)).before k q)))
      go (no p) (no q) =
          let (same, boxes) = alike l (least l m) k (omega (arith, least_key)) in
          lower_number same boxes (omega arith)

pub least_goes_first : LeastGoesFirst
least_goes_first l m h = (least_below l m h, goes_before l m)
