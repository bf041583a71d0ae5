-- The search over a list, from the ranks of its records. Assumes nothing.
use Rattle.std.proofs.Common.{Option, Some, None, Ok, Err}
use Prim.Native.Nat.{ℕ, ◌+◌, ◌<◌, ◌≤◌}
use mathlib.Core.Path.{◌≡◌, sym, ap, ◌∙◌}
use mathlib.Core.Logic.{◌≢◌}
use mathlib.Core.List.{List}
use mathlib.Core.Bool.{true, false}
use native.Mathlib.Omega.{arith}
use native.Mathlib.Decide.{dec_le}
use lib.ListN.{length, get_or, get_or-eq_default}
use borrow.Author.Tests.{le-leb, lt-leb}
use Rattle.lists.proofs.Bools.{clash, refuted, confirmed}
use Rattle.lists.proofs.Ranges.{occupied_some}
use Rattle.model.specs.declared.Source.{Source}
use Rattle.model.specs.declared.Refusal.TheVariants.{BadSize}
use Rattle.model.specs.Records.{max_sources, no_source, found, ranged}
use Rattle.model.specs.Requests.{candidate}
use Rattle.model.specs.Arbitration.{highest, highest_id, candidate_at, ranges_with}
use Rattle.model.specs.Commands.{bad_size}
use Rattle.borrowed.specs.Lent.{found_in, found_by_walk, ranges_in, FoundIsWalk}
use Rattle.arbitration.specs.declared.search.Looked.{Looked}
use Rattle.arbitration.specs.Marks.{ranked, Searched}
use Rattle.arbitration.proofs.Tree.{tree_is_walk, highest_ge}
use Rattle.arbitration.proofs.Ranges.{none_looked_into}
use Rattle.arbitration.proofs.ByKeys.{RanksOf}
use Rattle.arbitration.proofs.Looks.{searched_by_keys}
use Rattle.borrowed.specs.Keys.{SoughtIn}

-- ---- the position

module _ (l : List Source) where
  abbrev n : ℕ
  n = length l

  abbrev best : Source
  best = get_or l (highest l n) no_source

  -- no range is looked into, so the highest isn't a candidate
  none_best : ranges_with l n ≡ 0 → candidate best ≡ false
  none_best e = go (dec_le n (highest l n))
    where
      go : Dec (n ≤ highest l n) → candidate best ≡ false
      go (yes h) = rw (get_or-eq_default l no_source h)
      go (no h) = (none_looked_into l n).0 e (highest l n) (omega arith)

  -- the highest isn't a candidate, so none is, and no range is looked into
  best_none : candidate best ≡ false → ranges_with l n ≡ 0
  best_none e = (none_looked_into l n).1 (λ i h. refuted (candidate_at l i) (λ p. clash (highest_ge l n i h p).0 e))

  -- a candidate stands in the list
  best_inside : candidate best ≡ true → highest l n < n
  best_inside p = go (dec_le n (highest l n))
    where
      go : Dec (n ≤ highest l n) → highest l n < n
      go (yes h) = clash p (rw (get_or-eq_default l no_source h))
      go (no h) = omega arith

  -- the search by the keys of the list's ranks: where its highest candidate stands, and the ranges with a candidate
  module _ (ks : List ℕ) (same : RanksOf l n ks) where
    sought_none : Searched ks n None → (0 ≡ highest_id l n) × (0 ≡ ranges_with l n)
    unfolding highest_id
    sought_none s =
        let none : 0 ≡ ranges_with l n = (searched_by_keys l n ks same None s).1 in
        (rw (none_best (sym none)), none)

    module _ {r : Looked} (s : Searched ks n (Some r)) where
      at_is : r.at ≡ highest l n
      at_is = (searched_by_keys l n ks same (Some r) s).0

      ranges_are : r.ranges ≡ ranges_with l n
      ranges_are = (searched_by_keys l n ks same (Some r) s).1

      some_range : ranges_with l n ≢ 0
      some_range e = omega (arith, ranges_are, s.counted, occupied_some (ranked ks) 0 n (sym s.held))

      best_is : candidate best ≡ true
      best_is = confirmed (candidate best) (λ e. some_range (best_none e))

      sought_some : (r.at + 1 ≡ highest_id l n) × (r.at < n)
      unfolding highest_id
      sought_some = (rw best_is (omega (arith, at_is)), omega (arith, at_is, best_inside best_is))

-- ---- the answer

found_whole : (l : List Source) → length l ≤ max_sources → found 0 (highest_id l (length l)) ≡ found_in l
unfolding found_in
found_whole l h = rw (le-leb (length l) max_sources h)

found_none : (l : List Source) → max_sources < length l → found bad_size 0 ≡ found_in l
unfolding found_in
found_none l h = rw (lt-leb (length l) max_sources h)

pub ranged_whole : (l : List Source) → length l ≤ max_sources → ranged 0 (ranges_with l (length l)) ≡ ranges_in l
unfolding ranges_in
ranged_whole l h = rw (le-leb (length l) max_sources h)

pub ranged_none : (l : List Source) → max_sources < length l → ranged bad_size 0 ≡ ranges_in l
unfolding ranges_in
ranged_none l h = rw (lt-leb (length l) max_sources h)

-- a list that is too long
pub sought_too_long : (l : List Source) → max_sources < length l → SoughtIn l (Err BadSize)
sought_too_long l h = record { found = found_none l h; ranged = ranged_none l h; inside = λ looked e. cc }

-- a row of keys that are its ranks
pub sought_by_keys :
    (l : List Source) (ks : List ℕ) (r : Option Looked) → length l ≤ max_sources → length ks ≡ length l → RanksOf l (length l) ks →
    Searched ks (length ks) r → SoughtIn l (Ok r)
sought_by_keys l ks None h e same s =
    let (at, ranges) = sought_none l ks same (rw e at s) in
    record {
      found = ap (found 0) at ∙ found_whole l h;
      ranged = ap (ranged 0) ranges ∙ ranged_whole l h;
      inside = λ looked q. cc;
    }
sought_by_keys l ks (Some r) h e same s =
    let (at, below) = sought_some l ks same (rw e at s) in
    record {
      found = ap (found 0) at ∙ found_whole l h;
      ranged = ap (ranged 0) (ranges_are l ks same (rw e at s)) ∙ ranged_whole l h;
      inside = λ looked q. let is : r ≡ looked = cc in rw (← is) (omega arith);
    }

-- ---- the plain walk

pub found_is_walk : FoundIsWalk
unfolding found_in found_by_walk highest_id
found_is_walk l = rw (tree_is_walk l (length l))
