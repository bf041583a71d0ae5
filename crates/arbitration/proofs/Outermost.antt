-- A fold that keeps the outer of two numbers tells the outermost of a row. Assumes nothing.
--   Picks, folded                      such a fold over a list, for any relation and any choice that goes by it
--   lowest_folded, greatest_folded     the fold that begins with a row's first number, by `min` and by `max`
--   of_first                           the first numbers of a row, as a row of their own
use Prim.Native.Nat.{ℕ, zero, suc, ◌+◌, ◌<◌, ◌≤◌, min, max}
use mathlib.Core.Path.{◌≡◌, refl, sym, ◌∙◌}
use mathlib.Core.Logic.{◌⊎◌, inl, inr}
use mathlib.Core.List.{List, [], ◌∷◌}
use native.Mathlib.Omega.{arith}
use native.Mathlib.Decide.{dec_le}
use native.Mathlib.Numerals.{add-one}
use lib.ListN.{length, get_or, take}
use Rattle.std.proofs.lemmas.List.{get_or-take, length-take}
use Rattle.std.specs.List.{fold}
use Rattle.arbitration.specs.Places.{Outermost, AtMost, AtLeast, LowestOf, GreatestOf}

-- `pick` gives one of two numbers, and R relates it to both
record Picks (R : ℕ → ℕ → Type 0) (pick : ℕ → ℕ → ℕ) : Type 0 where
  one : (x y : ℕ) → (pick x y ≡ x) ⊎ (pick x y ≡ y)
  first : (x y : ℕ) → R (pick x y) x
  second : (x y : ℕ) → R (pick x y) y
  same : (x : ℕ) → R x x
  through : (x y z : ℕ) → R x y → R y z → R x z

-- where the number r of a fold over xs comes from, which begins with a
data From (a : ℕ) (xs : List ℕ) (r : ℕ) : Type 0 where
  start : r ≡ a → From a xs r
  inside : (at : ℕ) → at < length xs → get_or xs at 0 ≡ r → From a xs r

record Folded (R : ℕ → ℕ → Type 0) (a : ℕ) (xs : List ℕ) (r : ℕ) : Type 0 where
  from : From a xs r
  before : R r a
  each : (i : ℕ) → i < length xs → R r (get_or xs i 0)

module _ (R : ℕ → ℕ → Type 0) (pick : ℕ → ℕ → ℕ) (p : Picks R pick) where
  -- a y in front of ys
  module _ (a y : ℕ) (ys : List ℕ) {r : ℕ} (rest : Folded R (pick a y) ys r) where
    from : (pick a y ≡ a) ⊎ (pick a y ≡ y) → From (pick a y) ys r → From a (y ∷ ys) r
    from (inl e) (start q) = start (q ∙ e)
    from (inr e) (start q) = inside 0 (omega arith) (sym (q ∙ e))
    from e (inside at h q) = inside (at + 1) (omega arith) (rw add-one q)

    each : (i : ℕ) → i < length (y ∷ ys) → R r (get_or (y ∷ ys) i 0)
    each zero h = p.through r (pick a y) y rest.before (p.second a y)
    each (suc i) h = rest.each i (omega arith)

    one_more : Folded R a (y ∷ ys) r
    one_more =
        record { from = from (p.one a y) rest.from; before = p.through r (pick a y) a rest.before (p.first a y); each = each }

  folded : (a : ℕ) (xs : List ℕ) → Folded R a xs (fold pick a xs)
  folded a [] = record { from = start refl; before = p.same a; each = λ i h. absurd (omega arith) }
  folded a (y ∷ ys) = one_more a y ys (folded (pick a y) ys)

  row_folded : {ks : List ℕ} {x : ℕ} → 0 < length ks → x ≡ fold pick (get_or ks 0 0) ks → Outermost R ks (length ks) x
  row_folded {ks} {x} h e = go (rw (← e) at (folded (get_or ks 0 0) ks))
    where
      go : Folded R (get_or ks 0 0) ks x → Outermost R ks (length ks) x
      go f = case f.from
        where
          case : From (get_or ks 0 0) ks x → Outermost R ks (length ks) x
          case (start q) = record { at = 0; inside = h; there = sym q; related = f.each }
          case (inside at g q) = record { at = at; inside = g; there = q; related = f.each }

one_of_min : (x y : ℕ) → (min x y ≡ x) ⊎ (min x y ≡ y)
one_of_min x y = go (dec_le x y)
  where
    go : Dec (x ≤ y) → (min x y ≡ x) ⊎ (min x y ≡ y)
    go (yes h) = inl (omega arith)
    go (no h) = inr (omega arith)

one_of_max : (x y : ℕ) → (max x y ≡ x) ⊎ (max x y ≡ y)
one_of_max x y = go (dec_le x y)
  where
    go : Dec (x ≤ y) → (max x y ≡ x) ⊎ (max x y ≡ y)
    go (yes h) = inr (omega arith)
    go (no h) = inl (omega arith)

min_picks : Picks AtMost min
min_picks =
    record {
      one = one_of_min;
      first = λ x y. omega arith;
      second = λ x y. omega arith;
      same = λ x. omega arith;
      through = λ x y z h g. omega arith;
    }

max_picks : Picks AtLeast max
max_picks =
    record {
      one = one_of_max;
      first = λ x y. omega arith;
      second = λ x y. omega arith;
      same = λ x. omega arith;
      through = λ x y z h g. omega arith;
    }

pub lowest_folded : {ks : List ℕ} {x : ℕ} → 0 < length ks → x ≡ fold min (get_or ks 0 0) ks → LowestOf ks (length ks) x
lowest_folded = row_folded AtMost min min_picks

pub greatest_folded : {ks : List ℕ} {x : ℕ} → 0 < length ks → x ≡ fold max (get_or ks 0 0) ks → GreatestOf ks (length ks) x
greatest_folded = row_folded AtLeast max max_picks

-- of the first n numbers, n as many as m
pub of_first :
    {R : ℕ → ℕ → Type 0} {ks : List ℕ} {n m x : ℕ} → n ≡ m → n ≤ length ks → Outermost R (take n ks) (length (take n ks)) x →
    Outermost R ks m x
of_first {R} {ks} {n} {m} {x} e h o =
    let long : length (take n ks) ≡ m = omega (arith, length-take n ks) in
    record {
      at = o.at;
      inside = omega (arith, o.inside);
      there = sym (get_or-take n ks o.at 0 (omega (arith, o.inside))) ∙ o.there;
      related = λ i g. rw (get_or-take n ks i 0 (omega arith)) at (o.related i (omega arith));
    }
