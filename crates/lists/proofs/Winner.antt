-- The first highest of a range, once for every weak order. Assumes nothing.
--   WeakOrder above            what the laws ask of an order
--   by_key, converse           comparing a number at each index is a weak order, and so is any one turned around
--   FirstIn above lo len w     w is the first of the highest among lo, .., lo + len - 1
--   none_above                 nothing in the range is above its first
--   first_unique               a range has one first
--   node                       two ranges side by side: `winner` of their firsts is the first of both together;
--                              `node_left` and `node_right` say which, by the comparison
--   tree_of_one, walk_of-one   a row of at most one
--   tree_first, walk_first     the comparator tree and the plain walk find it
--   tree_walk                  so they agree on every row, the empty one too
-- A weak order does not say who keeps a tie; `FirstIn` does.
use Prim.Native.Nat.{ℕ, zero, suc, ◌+◌, ◌/◌, ◌<◌, ◌≤◌}
use mathlib.Core.Path.{◌≡◌, refl, sym, subst}
use mathlib.Core.Bool.{Bool, true, false, cond}
use native.Mathlib.Omega.{arith}
use native.Mathlib.Decide.{dec_lt}
use lib.Dec.{ltb}
use borrow.Author.Tests.{ltb-true, ltb-false, le-ltb}
use Rattle.lists.specs.Walks.{winner, walk, left_half, tree, FirstOf}
use Rattle.lists.proofs.Bools.{clash, refuted, confirmed}

-- ---- weak orders

pub record WeakOrder (above : ℕ → ℕ → Bool) : Type 0 where
  pub asym : (i j : ℕ) → above i j ≡ true → above j i ≡ false
  pub negative_trans : (i j k : ℕ) → above i j ≡ false → above j k ≡ false → above i k ≡ false

pub by_key : (key : ℕ → ℕ) → WeakOrder (λ (i j : ℕ). ltb (key j) (key i))
by_key key =
    record {
      asym = λ i j p. le-ltb (key i) (key j) (omega (arith, ltb-true (key j) (key i) p));
      negative_trans = λ i j k p q.
          le-ltb (key k) (key i) (omega (arith, ltb-false (key j) (key i) p, ltb-false (key k) (key j) q));
    }

pub converse : {above : ℕ → ℕ → Bool} → WeakOrder above → WeakOrder (λ (i j : ℕ). above j i)
converse order =
    record {
      asym = λ i j p. order.asym j i p;
      negative_trans = λ i j k p q. order.negative_trans k j i q p;
    }

-- ---- the first of a range

pub record FirstIn (above : ℕ → ℕ → Bool) (lo len w : ℕ) : Type 0 where
  pub from : lo ≤ w
  pub inside : w < lo + len
  pub before : (j : ℕ) → lo ≤ j → j < w → above w j ≡ true
  pub after : (j : ℕ) → w ≤ j → j < lo + len → above j w ≡ false

pub first_of : {above : ℕ → ℕ → Bool} {n w : ℕ} → FirstIn above 0 n w → FirstOf above n w
first_of f =
    record {
      inside = omega arith;
      before = λ j h. f.before j (omega arith) h;
      after = λ j h g. f.after j h (omega arith);
    }

-- the later of two firsts would be above the earlier, which nothing after it is
not_earlier : (above : ℕ → ℕ → Bool) (lo len v w : ℕ) → FirstIn above lo len v → FirstIn above lo len w → v < w → ⊥
not_earlier above lo len v w f g h = clash (g.before v f.from h) (f.after w (omega arith) g.inside)

pub first_unique : (above : ℕ → ℕ → Bool) (lo len v w : ℕ) → FirstIn above lo len v → FirstIn above lo len w → v ≡ w
first_unique above lo len v w f g =
    omega (arith, not_earlier above lo len v w f g, not_earlier above lo len w v g f)

-- ---- rows of at most one, whatever the order

pub tree_of_one : (above : ℕ → ℕ → Bool) (d lo len : ℕ) → len ≤ 1 → lo ≡ tree above d lo len
unfolding tree
tree_of_one above zero lo len h = refl
tree_of_one above (suc d) lo zero h = refl
tree_of_one above (suc d) lo (suc zero) h = refl
tree_of_one above (suc d) lo (suc (suc k)) h = absurd (omega arith)

pub walk_of-one : (above : ℕ → ℕ → Bool) → 0 ≡ walk above 1
unfolding walk
walk_of-one above = go (above 0 0)
  where
    go : (t : Bool) → ◌≡◌ {A = ℕ} 0 (cond t 0 0)
    go true = refl
    go false = refl

-- ---- the comparator tree and the plain walk

module _ (above : ℕ → ℕ → Bool) (order : WeakOrder above) where
  irreflexive : (i : ℕ) → above i i ≡ false
  irreflexive i = refuted (above i i) (λ p. clash p (order.asym i i p))

  -- a range of one
  single : (lo len : ℕ) → len ≡ 1 → FirstIn above lo len lo
  single lo len e =
      record {
        from = omega arith;
        inside = omega arith;
        before = λ j h g. absurd (omega arith);
        after = λ j h g. let i : lo ≡ j = omega arith in subst (λ (x : ℕ). above x lo ≡ false) i (irreflexive lo);
      }

  pub none_above : (lo len w : ℕ) → FirstIn above lo len w → (j : ℕ) → lo ≤ j → j < lo + len → above j w ≡ false
  none_above lo len w f j h g = go (dec_lt j w)
    where
      go : Dec (j < w) → above j w ≡ false
      go (yes p) = order.asym w j (f.before j h p)
      go (no q) = f.after j (omega arith) g

  -- y above x is above whatever is not above x
  above_through : (x y j : ℕ) → above y x ≡ true → above j x ≡ false → above y j ≡ true
  above_through x y j p q = confirmed (above y j) (λ r. clash p (order.negative_trans y j x r q))

  module _ (lo a mid b len x y : ℕ) (e : mid ≡ lo + a) (s : a + b ≡ len) (f : FirstIn above lo a x) (g : FirstIn above mid b y) where
    -- y is above x, and so above all of the left range
    pub node_right : above y x ≡ true → FirstIn above lo len y
    node_right p =
        record {
          from = omega arith;
          inside = omega arith;
          before = λ j h r. go j h r (dec_lt j mid);
          after = λ j h r. g.after j h (omega arith);
        }
      where
        go : (j : ℕ) → lo ≤ j → j < y → Dec (j < mid) → above y j ≡ true
        go j h r (yes u) = above_through x y j p (none_above lo a x f j h (omega arith))
        go j h r (no u) = g.before j (omega arith) r

    -- y is not above x, and so nothing of the right range is
    pub node_left : above y x ≡ false → FirstIn above lo len x
    node_left p =
        record {
          from = omega arith;
          inside = omega arith;
          before = f.before;
          after = λ j h r. go j h r (dec_lt j mid);
        }
      where
        go : (j : ℕ) → x ≤ j → j < lo + len → Dec (j < mid) → above j x ≡ false
        go j h r (yes u) = f.after j h (omega arith)
        go j h r (no u) = order.negative_trans j y x (none_above mid b y g j (omega arith) (omega arith)) p

    node : FirstIn above lo len (winner above x y)
    node = go (above y x) refl
      where
        go : (t : Bool) → above y x ≡ t → FirstIn above lo len (cond t y x)
        go true p = node_right p
        go false p = node_left p

  pub tree_first : (d lo len : ℕ) → 1 ≤ len → len ≤ d → FirstIn above lo len (tree above d lo len)
  unfolding tree
  tree_first zero lo len h g = absurd (omega arith)
  tree_first (suc d) lo zero h g = absurd (omega arith)
  tree_first (suc d) lo (suc zero) h g = single lo 1 refl
  tree_first (suc d) lo (suc (suc k)) h g =
      let len : ℕ = suc (suc k) in
      node lo (left_half len) (lo + left_half len) (len / 2) len _ _ refl (omega arith)
      (tree_first d lo (left_half len) (omega arith) (omega arith))
      (tree_first d (lo + left_half len) (len / 2) (omega arith) (omega arith))

  pub walk_first : (n : ℕ) → 1 ≤ n → FirstIn above 0 n (walk above n)
  unfolding walk
  walk_first zero h = absurd (omega arith)
  walk_first (suc zero) h = subst (FirstIn above 0 1) (walk_of-one above) (single 0 1 refl)
  walk_first (suc (suc k)) h =
      node 0 (suc k) (suc k) 1 (suc (suc k)) (walk above (suc k)) (suc k) (omega arith) (omega arith)
      (walk_first (suc k) (omega arith)) (single (suc k) 1 refl)

  pub tree_walk : (d n : ℕ) → n ≤ d → tree above d 0 n ≡ walk above n
  unfolding walk
  tree_walk d zero h = sym (tree_of_one above d 0 0 (omega arith))
  tree_walk d (suc n) h =
      first_unique above 0 (suc n) (tree above d 0 (suc n)) (walk above (suc n))
      (tree_first d 0 (suc n) (omega arith) h) (walk_first (suc n) (omega arith))
