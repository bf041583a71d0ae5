-- Worked cases of the calls on records that the host lends. Definitions only. Assumes nothing.
-- Source: document 01, "Two further faces", and the rows 1, 2 and 7 of "Numbers for no"; the ranges are document 02's, 3/14.
-- A case is what is lent beside what the call answers; a claim's answer holds the record after it, every field.
--   lent_cores       a bad filled record for each condition that can be broken alone, beside a good neighbour; empty boxes; whole effects.
--                   A box priority of 0 is never broken alone: it is not above any configured one.
--   lent_lists       lists of 0 to 129 records, and where the highest candidate stands
--   counted_lists    such lists, and the ranges that are looked into
use Rattle.std.specs.Prelude.{ℕ, ◌≡◌, List, [], ◌∷◌, ◌++◌, map, Bool, true, false, replicate}
use Rattle.model.specs.declared.Source.{Source}
use Rattle.model.specs.declared.Core.{Core}
use Rattle.model.specs.declared.Found.{Found}
use Rattle.model.specs.declared.Ranged.{Ranged}
use Rattle.model.specs.declared.Taken.{Taken}
use Rattle.model.specs.Records.{source_id, source_with, box_with, core_with, found, ranged, taken}
use Rattle.model.specs.SearchStatements.{two_of_five}
use Rattle.borrowed.specs.Lent.{found_in, ranges_in, taken_from}

-- ---- a lent core record

-- Configured priority, then the box's id and priority.
abbrev clean : ℕ → ℕ → ℕ → Core
clean configured id p = core_with configured (box_with true false (source_id id) p)

abbrev dirty : ℕ → ℕ → ℕ → Core
dirty configured id p = core_with configured (box_with true true (source_id id) p)

abbrev empty : Bool → ℕ → ℕ → ℕ → Core
empty d configured id p = core_with configured (box_with false d (source_id id) p)

-- The box's id is answered, the core is at the box's priority, the box is empty.
abbrev gives : Core → ℕ → ℕ → Core × Taken
gives c id p = (c, taken 0 (source_id id) (core_with p (box_with false false (source_id 0) 0)))

-- A refusal answers id 0 and leaves the record as lent.
abbrev refused_by : ℕ → Core → Core × Taken
refused_by number c = (c, taken number (source_id 0) c)

unfoldable pub lent_cores : List (Core × Taken)
lent_cores =
    -- the id isn't 1 to 128
    refused_by 1 (clean 0 0 1) ∷
    gives (clean 0 1 1) 1 1 ∷
    gives (clean 0 128 1) 128 1 ∷
    refused_by 1 (clean 0 129 1) ∷
    -- the box priority isn't 1 to 511
    refused_by 1 (clean 0 4 0) ∷
    gives (clean 0 4 1) 4 1 ∷
    gives (clean 0 4 511) 4 511 ∷
    refused_by 1 (clean 0 4 512) ∷
    -- it isn't above the configured one
    refused_by 1 (clean 5 4 4) ∷
    refused_by 1 (clean 5 4 5) ∷
    gives (clean 5 4 6) 4 6 ∷
    gives (clean 510 128 511) 128 511 ∷
    refused_by 1 (clean 511 128 511) ∷
    -- it is dirty
    refused_by 1 (dirty 5 4 6) ∷
    -- every condition at once, and the largest numbers that the fields hold
    refused_by 1 (dirty 65535 65535 65535) ∷
    refused_by 1 (dirty 0 0 0) ∷
    -- an empty box, whatever else the record holds; the last is what a claim leaves
    refused_by 7 (empty false 0 0 0) ∷
    refused_by 7 (empty false 5 4 6) ∷
    refused_by 7 (empty true 5 4 6) ∷
    refused_by 7 (empty false 65535 129 512) ∷
    refused_by 7 (empty true 5 0 5) ∷
    refused_by 7 (empty false 6 0 0) ∷
    []

-- ---- a lent list

-- A record by its request's priority; the configured one isn't looked at.
abbrev candidate_at : ℕ → Source
candidate_at p = source_with 600 false true false p 0

abbrev masked_at : ℕ → Source
masked_at p = source_with 600 true true false p 0

abbrev delivered_at : ℕ → Source
delivered_at p = source_with 600 false true true p 0

abbrev idle_at : ℕ → Source
idle_at p = source_with 600 false false false p 0

-- The list is searched; the position is counted from 1, and 0 is none.
abbrev finds : List Source → ℕ → List Source × Found
finds l position = (l, found 0 position)

abbrev too_long : List Source → List Source × Found
too_long l = (l, found 2 0)

unfoldable pub lent_lists : List (List Source × Found)
lent_lists =
    -- none, and no candidate
    finds [] 0 ∷
    finds (idle_at 9 ∷ []) 0 ∷
    finds (masked_at 9 ∷ []) 0 ∷
    finds (delivered_at 9 ∷ []) 0 ∷
    -- a candidate whatever its priority
    finds (candidate_at 0 ∷ []) 1 ∷
    finds (masked_at 9 ∷ candidate_at 0 ∷ idle_at 9 ∷ []) 2 ∷
    finds (candidate_at 0 ∷ candidate_at 65535 ∷ candidate_at 511 ∷ []) 2 ∷
    -- the highest, the others passed over
    finds (candidate_at 3 ∷ candidate_at 4 ∷ candidate_at 5 ∷ []) 3 ∷
    finds (idle_at 9 ∷ masked_at 9 ∷ delivered_at 9 ∷ candidate_at 1 ∷ []) 4 ∷
    finds (source_with 9 false true false 1 0 ∷ source_with 1 false true false 2 0 ∷ []) 2 ∷
    -- the first of two equal
    finds (candidate_at 5 ∷ candidate_at 5 ∷ []) 1 ∷
    finds (candidate_at 1 ∷ candidate_at 5 ∷ candidate_at 2 ∷ candidate_at 5 ∷ candidate_at 3 ∷ []) 2 ∷
    finds (candidate_at 0 ∷ candidate_at 0 ∷ []) 1 ∷
    -- 128 records are searched, the last among them; 129 are refused
    finds (replicate 127 (candidate_at 3) ++ candidate_at 4 ∷ []) 128 ∷
    finds (replicate 128 (candidate_at 3)) 1 ∷
    too_long (candidate_at 4 ∷ replicate 128 (candidate_at 3)) ∷
    too_long (replicate 129 (idle_at 0)) ∷
    []

-- ---- the ranges of a lent list

abbrev counts : List Source → ℕ → List Source × Ranged
counts l ranges = (l, ranged 0 ranges)

abbrev not_counted : List Source → List Source × Ranged
not_counted l = (l, ranged 2 0)

unfoldable pub counted_lists : List (List Source × Ranged)
counted_lists =
    -- none, and no candidate
    counts [] 0 ∷
    counts (idle_at 9 ∷ []) 0 ∷
    counts (masked_at 9 ∷ delivered_at 9 ∷ idle_at 9 ∷ []) 0 ∷
    -- one candidate, whatever its priority: the ranges on its path, the single record last
    counts (candidate_at 0 ∷ []) 1 ∷
    counts (idle_at 9 ∷ candidate_at 0 ∷ []) 2 ∷
    -- of three records the left half has two
    counts (candidate_at 7 ∷ idle_at 9 ∷ idle_at 9 ∷ []) 3 ∷
    counts (masked_at 9 ∷ candidate_at 0 ∷ idle_at 9 ∷ []) 3 ∷
    counts (idle_at 9 ∷ idle_at 9 ∷ candidate_at 7 ∷ []) 2 ∷
    -- two of five, one of them of priority 0, as in `RangesOfFive`
    counts two_of_five 6 ∷
    -- all are candidates: every range, 2n - 1
    counts (candidate_at 5 ∷ candidate_at 5 ∷ []) 3 ∷
    counts (candidate_at 0 ∷ candidate_at 0 ∷ candidate_at 0 ∷ []) 5 ∷
    counts (replicate 5 (candidate_at 3)) 9 ∷
    -- 128 records: the path of the last one, and every range; 129 are refused
    counts (replicate 127 (idle_at 0) ++ candidate_at 4 ∷ []) 8 ∷
    counts (replicate 128 (candidate_at 3)) 255 ∷
    not_counted (candidate_at 4 ∷ replicate 128 (candidate_at 3)) ∷
    not_counted (replicate 129 (idle_at 0)) ∷
    []

-- ---- statements

abbrev pub LentCoresAnswered : Type 0
LentCoresAnswered = map (λ (c : Core × Taken). taken_from c.0) lent_cores ≡ map (λ (c : Core × Taken). c.1) lent_cores

abbrev pub LentListsAnswered : Type 0
LentListsAnswered = map (λ (c : List Source × Found). found_in c.0) lent_lists ≡ map (λ (c : List Source × Found). c.1) lent_lists

abbrev pub CountedListsAnswered : Type 0
CountedListsAnswered =
    map (λ (c : List Source × Ranged). ranges_in c.0) counted_lists ≡ map (λ (c : List Source × Ranged). c.1) counted_lists
