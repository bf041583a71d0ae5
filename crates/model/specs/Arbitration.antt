-- The highest candidate and the least core. Definitions only. Assumes nothing.
-- Source: document 01, "Settling", step 2, and the comparator tree; the tie between cores is document 02's, request 2.
--   rank r            0 for no candidate, else one more than the request's priority, so that a candidate of priority 0 counts
--   highest l n       the index of the first highest candidate of the first n sources, by the comparator tree;
--                     it is a candidate unless there is none
--   highest_id l n     its id, 0 if there is none
--   ranges_with l n    how many ranges of that tree have a candidate in them: those that the search looks into
--   candidates l n    how many of the first n sources are candidates
--   least l m         of the first m cores the one to be interrupted first: of least current priority, on a tie one whose box is
--                     filled, then the lowest number
use Rattle.std.specs.Prelude.{ℕ, suc, ◌+◌, ◌*◌, List, Bool, cond, get_or, ltb}
use Rattle.model.specs.declared.Source.{Source}
use Rattle.model.specs.declared.Core.{Core}
use Rattle.model.specs.Records.{no_source, no_core}
use Rattle.lists.specs.Walks.{tally, walk, tree, occupied}
use Rattle.model.specs.Requests.{current_priority, candidate}

abbrev pub rank : Source → ℕ
rank r = cond (candidate r) (suc r.priority) 0

-- Source i is above source j: strictly, so on a tie the lower id stays.
abbrev pub higher : List Source → ℕ → ℕ → Bool
higher l i j = ltb (rank (get_or l j no_source)) (rank (get_or l i no_source))

unfoldable pub highest : List Source → ℕ → ℕ
highest l n = tree (higher l) n 0 n

-- The same by a plain walk.
unfoldable pub highest_by_walk : List Source → ℕ → ℕ
highest_by_walk l n = walk (higher l) n

unfoldable pub highest_id : List Source → ℕ → ℕ
highest_id l n = cond (candidate (get_or l (highest l n) no_source)) (suc (highest l n)) 0

abbrev pub candidate_at : List Source → ℕ → Bool
candidate_at l i = candidate (get_or l i no_source)

-- Document 02, 3/14: "exactly those of the tree with a candidate in them".
unfoldable pub ranges_with : List Source → ℕ → ℕ
ranges_with l n = occupied (candidate_at l) 0 n

unfoldable pub candidates : List Source → ℕ → ℕ
candidates l n = tally n (candidate_at l)

-- Where a core stands in arbitration: by its current priority, and on a tie a filled box goes first, since to put its request back
-- disturbs no further core.
abbrev pub core_key : Core → ℕ
core_key c = 2 * current_priority c + cond c.message.filled 0 1

-- Core i is below core j: strictly, so of two that stand alike the lower number stays.
abbrev pub lower : List Core → ℕ → ℕ → Bool
lower l i j = ltb (core_key (get_or l i no_core)) (core_key (get_or l j no_core))

unfoldable pub least : List Core → ℕ → ℕ
least l m = walk (lower l) m

unfoldable pub least_priority : List Core → ℕ → ℕ
least_priority l m = current_priority (get_or l (least l m) no_core)
