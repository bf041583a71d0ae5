-- What is claimed of the ranges that the search for the highest candidate looks into. Propositions only; each is proved in the crate
-- arbitration. Assumes nothing. Source: document 02, 3/14; the tree is document 01's, "Settling".
use Rattle.std.specs.Prelude.{ℕ, ◌+◌, ◌-◌, ◌*◌, ◌<◌, ◌≤◌, ◌≡◌, ◌↔◌, List, [], ◌∷◌, ◌++◌, true, false}
use Rattle.lists.specs.Walks.{comparisons, ranges}
use Rattle.model.specs.declared.Source.{Source}
use Rattle.model.specs.Records.{source_with}
use Rattle.model.specs.Arbitration.{candidate_at, ranges_with, candidates}

-- ---- the ranges of the tree

-- An empty range has none, a single source is one, and a longer range comes before those of its halves, an odd one's left half the larger.
pub record RangesHalved : Type 0 where
  pub none : (lo : ℕ) → ranges lo 0 ≡ []
  pub one : (lo : ℕ) → ranges lo 1 ≡ (lo, 1) ∷ []
  pub halves :
      (lo left right : ℕ) → 1 ≤ right → right ≤ left → left ≤ right + 1 →
      ranges lo (left + right) ≡ (lo, left + right) ∷ (ranges lo left ++ ranges (lo + left) right)

-- The ranges over 1, 2, 3, 5 and 8 sources, each by the index of its first source and its length.
pub record RangeLists : Type 0 where
  pub of_one : ranges 0 1 ≡ (0, 1) ∷ []
  pub of_two : ranges 0 2 ≡ (0, 2) ∷ (0, 1) ∷ (1, 1) ∷ []
  pub of_three : ranges 0 3 ≡ (0, 3) ∷ (0, 2) ∷ (0, 1) ∷ (1, 1) ∷ (2, 1) ∷ []
  pub of_five : ranges 0 5 ≡ (0, 5) ∷ (0, 3) ∷ (0, 2) ∷ (0, 1) ∷ (1, 1) ∷ (2, 1) ∷ (3, 2) ∷ (3, 1) ∷ (4, 1) ∷ []
  pub of_eight :
      ranges 0 8 ≡
      (0, 8) ∷
      (0, 4) ∷ (0, 2) ∷ (0, 1) ∷ (1, 1) ∷ (2, 2) ∷ (2, 1) ∷ (3, 1) ∷
      (4, 4) ∷ (4, 2) ∷ (4, 1) ∷ (5, 1) ∷ (6, 2) ∷ (6, 1) ∷ (7, 1) ∷ []

-- ---- those with a candidate in them

-- No range is looked into exactly if no source is a candidate.
abbrev pub NoneLookedInto : Type 0
NoneLookedInto = (l : List Source) (n : ℕ) → (ranges_with l n ≡ 0) ↔ ((i : ℕ) → i < n → candidate_at l i ≡ false)

-- If all sources are candidates, every range of the tree is looked into.
abbrev pub AllLookedInto : Type 0
AllLookedInto = (l : List Source) (n : ℕ) → 1 ≤ n → ((i : ℕ) → i < n → candidate_at l i ≡ true) → ranges_with l n ≡ 2 * n - 1

-- "At most d + 1 for each candidate", d as in `TreeDepthExact`.
abbrev pub RangesBounded : Type 0
RangesBounded = (l : List Source) (n : ℕ) → ranges_with l n ≤ (comparisons n n + 1) * candidates l n

-- Sources 1 and 5 of five are candidates, one of them at priority 0; a masked, a delivered and an idle source are none.
abbrev pub two_of_five : List Source
two_of_five =
    source_with 1 false true false 0 0 ∷
    source_with 1 true true false 9 0 ∷
    source_with 1 false true true 9 0 ∷
    source_with 1 false false false 0 0 ∷
    source_with 1 false true false 3 0 ∷ []

-- (0, 5), (0, 3), (0, 2), (0, 1), (3, 2), (4, 1); of the first four sources (0, 4), (0, 2), (0, 1); of none no range.
pub record RangesOfFive : Type 0 where
  pub two_candidates : candidates two_of_five 5 ≡ 2
  pub six_ranges : ranges_with two_of_five 5 ≡ 6
  pub one_of_four : candidates two_of_five 4 ≡ 1
  pub three_ranges : ranges_with two_of_five 4 ≡ 3
  pub no_range : ranges_with two_of_five 0 ≡ 0
