-- The ranges of the comparator tree, and those that the search looks into. Assumes nothing.
use Prim.Native.Nat.{ℕ, ◌+◌, ◌/◌, ◌<◌, ◌≤◌}
use mathlib.Core.Path.{◌≡◌, refl}
use mathlib.Core.List.{List}
use mathlib.Core.Bool.{true}
use native.Mathlib.Nat.{zero-add}
use native.Mathlib.Omega.{arith}
use native.Mathlib.Numerals.{add-one}
use Rattle.lists.specs.Walks.{tally, left_half, comparisons, ranges, occupied}
use Rattle.model.specs.declared.Source.{Source}
use Rattle.model.specs.Arbitration.{candidate_at, ranges_with, candidates}
use Rattle.model.specs.SearchStatements.{RangesHalved, RangeLists, NoneLookedInto, AllLookedInto, RangesBounded, RangesOfFive}
use Rattle.lists.proofs.Bools.{refuted}
use Rattle.lists.proofs.Walks.{some_false_in}
use Rattle.lists.proofs.Tallies.{within_in}
use Rattle.lists.proofs.Ranges.{ranges_halves, occupied_some, occupied_none, occupied_all, occupied_path}

pub ranges_halved : RangesHalved
unfolding ranges
ranges_halved =
    record {
      none = λ lo. refl;
      one = λ lo. refl;
      halves = λ lo left right h g u.
          let half : left_half (left + right) ≡ left = omega arith in
          let rest : (left + right) / 2 ≡ right = omega arith in
          rw (half, rest) at (ranges_halves lo (left + right) (omega arith));
    }

pub range_lists : RangeLists
unfolding ranges
range_lists = record { of_one = refl; of_two = refl; of_three = refl; of_five = refl; of_eight = refl }

pub ranges_of_five : RangesOfFive
unfolding tally occupied ranges_with candidates
ranges_of_five = record { two_candidates = refl; six_ranges = refl; one_of_four = refl; three_ranges = refl; no_range = refl }

-- a candidate makes its range one that is looked into
looked_into : (l : List Source) (n i : ℕ) → i < n → candidate_at l i ≡ true → 1 ≤ ranges_with l n
unfolding ranges_with
looked_into l n i h p = occupied_some (candidate_at l) 0 n (within_in (candidate_at l) 0 n i (omega arith) (omega arith) p)

pub none_looked_into : NoneLookedInto
unfolding ranges_with
none_looked_into l n = (
  λ e i h. refuted (candidate_at l i) (λ p. omega (arith, looked_into l n i h p)),
  λ h. occupied_none (candidate_at l) 0 n (some_false_in n (λ i. candidate_at l (0 + i)) (λ i p. h (0 + i) (omega arith))),
)

pub all_looked_into : AllLookedInto
unfolding ranges_with
all_looked_into l n h all = omega (arith, occupied_all (candidate_at l) 0 n h (λ i p q. all i (omega arith)))

pub ranges_bounded : RangesBounded
unfolding ranges_with candidates tally comparisons
ranges_bounded l n =
    let from : tally (0 + n) (candidate_at l) ≡ tally 0 (candidate_at l) + tally n (candidate_at l) = rw (zero-add n) (omega arith) in
    rw add-one (occupied_path (candidate_at l) 0 n (tally n (candidate_at l)) from)
