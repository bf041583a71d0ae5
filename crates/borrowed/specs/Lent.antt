-- The calls on records that the host lends, and what is claimed of them. Definitions only. Assumes nothing.
-- Source: document 01, "Two further faces"; the ranges are document 02's, 3/14.
--   found_in l        position plus one of the first highest candidate of a lent list, 0 for none; a list of over 128 is refused by 2
--   found_by_walk l    the same by the plain walk
--   ranges_in l       how many ranges of the comparator tree over a lent list that search looks into; a list of over 128 is refused by 2
--   taken_from c      the claim of one core record: 7 for an empty box, whatever else the record holds; 1 for a filled one that is bad
-- A record's fields may hold anything: a candidate of priority 0 is a candidate.
use Rattle.std.specs.Prelude.{ℕ, suc, ◌+◌, ◌-◌, ◌*◌, ◌<◌, ◌≤◌, ◌≡◌, ◌↔◌, List, Bool, true, false, not, ◌&&◌, cond, length, get_or, ltb, leb}
use Rattle.model.specs.declared.CoreId.{CoreId}
use Rattle.model.specs.declared.Source.{Source}
use Rattle.model.specs.declared.Core.{Core}
use Rattle.model.specs.declared.Controller.{Controller}
use Rattle.model.specs.declared.Found.{Found}
use Rattle.model.specs.declared.Ranged.{Ranged}
use Rattle.model.specs.declared.Taken.{Taken}
use Rattle.model.specs.declared.Command.TheVariants.{OnCore}
use Rattle.model.specs.declared.CoreAction.TheVariants.{Claim}
use Rattle.model.specs.Records.{max_sources, no_source, source_id, core_at, found, ranged, taken}
use Rattle.model.specs.Priorities.{top_priority}
use Rattle.model.specs.Requests.{candidate}
use Rattle.model.specs.Arbitration.{highest_by_walk, highest_id, candidate_at, ranges_with, candidates}
use Rattle.lists.specs.Numbers.{between}
use Rattle.lists.specs.Walks.{comparisons}
use Rattle.model.specs.WellFormed.{WellFormed}
use Rattle.model.specs.Commands.{claimed_core, malformed, bad_size, nothing_to_claim, execute}

unfoldable pub found_in : List Source → Found
found_in l = cond (leb (length l) max_sources) (found 0 (highest_id l (length l))) (found bad_size 0)

unfoldable pub found_by_walk : List Source → Found
found_by_walk l =
    cond
    (leb (length l) max_sources)
    (found 0
    (cond (candidate (get_or l (highest_by_walk l (length l)) no_source)) (suc (highest_by_walk l (length l))) 0))
    (found bad_size 0)

unfoldable pub ranges_in : List Source → Ranged
ranges_in l = cond (leb (length l) max_sources) (ranged 0 (ranges_with l (length l))) (ranged bad_size 0)

-- A filled box that can be claimed: id 1 to 128, priority 1 to 511 and above the configured one, not dirty.
unfoldable pub claimable : Core → Bool
claimable c =
    between 1 max_sources c.message.source.0 &&
    between 1 (top_priority max_sources) c.message.priority &&
    ltb c.configured c.message.priority && not c.message.dirty

-- A refusal answers id 0 and leaves the record as it was.
unfoldable pub taken_from : Core → Taken
taken_from c =
    cond c.message.filled
    (cond (claimable c) (taken 0 c.message.source (claimed_core c)) (taken malformed (source_id 0) c))
    (taken nothing_to_claim (source_id 0) c)

-- ---- statements

-- The comparator tree and the plain walk agree on every lent list.
abbrev pub FoundIsWalk : Type 0
FoundIsWalk = (l : List Source) → found_in l ≡ found_by_walk l

-- No range is looked into exactly if no record is a candidate.
abbrev pub NoRangeLent : Type 0
NoRangeLent =
    (l : List Source) → length l ≤ max_sources →
    ((ranges_in l).ranges ≡ 0) ↔ ((i : ℕ) → i < length l → candidate_at l i ≡ false)

-- If all records are candidates, every range of the tree over the list is looked into.
abbrev pub EveryRangeLent : Type 0
EveryRangeLent =
    (l : List Source) → 1 ≤ length l → length l ≤ max_sources → ((i : ℕ) → i < length l → candidate_at l i ≡ true) →
    ranges_in l ≡ ranged 0 (2 * length l - 1)

-- "At most d + 1 for each candidate", d as in `TreeDepthExact`, of every lent list.
abbrev pub RangesLentBounded : Type 0
RangesLentBounded =
    (l : List Source) → (ranges_in l).ranges ≤ (comparisons (length l) (length l) + 1) * candidates l (length l)

-- On a sound state the claim of core k's record gives what the command claim leaves there, with its number and id.
abbrev pub LentClaimIsCommand : Type 0
LentClaimIsCommand =
    (s : Controller) (k : CoreId) → WellFormed s → k.0 < s.m →
    taken_from (core_at s k.0) ≡
    taken (execute s (OnCore k Claim)).number (execute s (OnCore k Claim)).id (core_at (execute s (OnCore k Claim)).state k.0)
