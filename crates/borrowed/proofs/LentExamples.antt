-- The worked cases of the calls on lent records hold of the definitions, each list by one computation. Assumes nothing.
use mathlib.Core.Path.{refl}
use lib.Count.{count_leading_zeros}
use Rattle.model.specs.Priorities.{floor_log2, priority_width, top_priority}
use Rattle.lists.specs.Walks.{tree, occupied}
use Rattle.model.specs.Arbitration.{highest, highest_id, ranges_with}
use Rattle.borrowed.specs.Lent.{found_in, ranges_in, claimable, taken_from}
use Rattle.borrowed.specs.LentCases.{lent_cores, lent_lists, counted_lists, LentCoresAnswered, LentListsAnswered, CountedListsAnswered}

pub lent_cores_answered : LentCoresAnswered
unfolding count_leading_zeros floor_log2 priority_width top_priority claimable taken_from lent_cores
lent_cores_answered = refl

pub lent_lists_answered : LentListsAnswered
unfolding tree highest highest_id found_in lent_lists
lent_lists_answered = refl

pub counted_lists_answered : CountedListsAnswered
unfolding occupied ranges_with ranges_in counted_lists
counted_lists_answered = refl
