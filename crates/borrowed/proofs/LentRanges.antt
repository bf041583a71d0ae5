-- The ranges that are looked into over a lent list: the laws of every list of sources, at its length. Assumes nothing.
use Prim.Native.Nat.{◌+◌, ◌*◌, ◌<◌, ◌≤◌}
use mathlib.Core.Path.{◌≡◌, sym, ap, ◌∙◌}
use mathlib.Core.List.{List}
use native.Mathlib.Omega.{arith}
use native.Mathlib.Decide.{dec_le}
use lib.ListN.{length}
use Rattle.lists.specs.Walks.{comparisons}
use Rattle.model.specs.declared.Source.{Source}
use Rattle.model.specs.declared.Ranged.{Ranged}
use Rattle.model.specs.Records.{max_sources, ranged}
use Rattle.model.specs.Arbitration.{ranges_with, candidates}
use Rattle.borrowed.specs.Lent.{ranges_in, NoRangeLent, EveryRangeLent, RangesLentBounded}
use Rattle.arbitration.proofs.Ranges.{none_looked_into, all_looked_into, ranges_bounded}
use Rattle.borrowed.proofs.Searches.{ranged_whole, ranged_none}

module _ (l : List Source) where
  whole : length l ≤ max_sources → (ranges_in l).ranges ≡ ranges_with l (length l)
  whole h = ap (λ (r : Ranged). r.ranges) (sym (ranged_whole l h))

  none : max_sources < length l → (ranges_in l).ranges ≡ 0
  none h = ap (λ (r : Ranged). r.ranges) (sym (ranged_none l h))

pub no_range_lent : NoRangeLent
no_range_lent l h = rw (whole l h) (none_looked_into l (length l))

pub every_range_lent : EveryRangeLent
every_range_lent l some h all = sym (ranged_whole l h) ∙ ap (ranged 0) (all_looked_into l (length l) some all)

pub ranges_lent_bounded : RangesLentBounded
ranges_lent_bounded l = go (dec_le (length l) max_sources)
  where
    go :
        Dec (length l ≤ max_sources) →
        (ranges_in l).ranges ≤ (comparisons (length l) (length l) + 1) * candidates l (length l)
    go (yes h) = rw (whole l h) (ranges_bounded l (length l))
    go (no h) = rw (none l (omega arith)) (omega arith)
