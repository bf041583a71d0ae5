-- What one pass over a state says of it. Definitions only. Assumes nothing.
--   greatest n f         the greatest of f 0, .., f (n - 1), 0 if there is none
--   lowest n f           the least of them, and unboxed if there is none or all are above it
--   covered_priority c    the configured priority under a filled box; 0 where the box is empty
--   boxed_priority c      the priority of a filled box; unboxed, which is above every priority, where the box is empty
--   waiting_priority r    the priority of a candidate; 0 for a source that is none
--   shown s              what the survey says of a consistent state
--   survey_of s           what it says of any record: nothing where that isn't consistent
use Rattle.std.specs.Prelude.{ℕ, zero, suc, min, max, List, Bool, Option, Some, None, cond, get_or}
use Rattle.model.specs.declared.Source.{Source}
use Rattle.model.specs.declared.Core.{Core}
use Rattle.model.specs.declared.Controller.{Controller}
use Rattle.model.specs.Records.{no_source, no_core}
use Rattle.model.specs.Requests.{candidate}
use Rattle.model.specs.Arbitration.{least_priority}
use Rattle.model.specs.WellFormed.{consistent, boxes_clean}
use Rattle.well_formed.specs.declared.Survey.{Survey}

abbrev pub survey_with : Bool → ℕ → ℕ → ℕ → ℕ → Survey
survey_with clean lowest covered boxed waiting =
    record { clean = clean; lowest = lowest; covered = covered; boxed = boxed; waiting = waiting }

unfoldable pub greatest : ℕ → (ℕ → ℕ) → ℕ
greatest zero f = 0
greatest (suc k) f = max (greatest k f) (f k)

abbrev pub unboxed : ℕ
unboxed = 65535

unfoldable pub lowest : ℕ → (ℕ → ℕ) → ℕ
lowest zero f = unboxed
lowest (suc k) f = min (lowest k f) (f k)

abbrev pub covered_priority : Core → ℕ
covered_priority c = cond c.message.filled c.configured 0

abbrev pub boxed_priority : Core → ℕ
boxed_priority c = cond c.message.filled c.message.priority unboxed

abbrev pub waiting_priority : Source → ℕ
waiting_priority r = cond (candidate r) r.priority 0

-- The greatest configured priority under a filled box of the first m cores.
abbrev pub greatest_covered : List Core → ℕ → ℕ
greatest_covered l m = greatest m (λ k. covered_priority (get_or l k no_core))

-- The least priority of a filled box of the first m cores.
abbrev pub lowest_boxed : List Core → ℕ → ℕ
lowest_boxed l m = lowest m (λ k. boxed_priority (get_or l k no_core))

-- The greatest priority of a candidate of the first n sources.
abbrev pub greatest_waiting : List Source → ℕ → ℕ
greatest_waiting l n = greatest n (λ i. waiting_priority (get_or l i no_source))

abbrev pub shown : Controller → Survey
shown s =
    survey_with (boxes_clean s) (least_priority s.cores s.m)
    (greatest_covered s.cores s.m) (lowest_boxed s.cores s.m) (greatest_waiting s.sources s.n)

unfoldable pub survey_of : Controller → Option Survey
survey_of s = cond (consistent s) (Some (shown s)) None
