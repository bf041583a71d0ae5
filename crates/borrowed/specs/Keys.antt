-- What the functions behind the calls answer. Helpers of contracts; nothing here needs to be believed.
--   taken_by c r          the answer to the claim of c that came to r: a refusal's number, id 0 and the record as it was
--   position_of o         the position plus one of what a search found, 0 for none
--   found_by, ranged_by   what the calls on a lent list answer of a search that came to r
--   SoughtIn l r          that is what they answer of the list l, and what is found stands in a row of keys
use Rattle.std.specs.Prelude.{ℕ, ◌+◌, ◌<◌, ◌≡◌, List, Option, Some, None, Result, Ok, Err}
use Rattle.model.specs.declared.SourceId.{SourceId}
use Rattle.model.specs.declared.Source.{Source}
use Rattle.model.specs.declared.Core.{Core}
use Rattle.model.specs.declared.Found.{Found}
use Rattle.model.specs.declared.Ranged.{Ranged}
use Rattle.model.specs.declared.Taken.{Taken}
use Rattle.model.specs.declared.Refusal.{Refusal}
use Rattle.model.specs.Records.{max_sources, source_id, found, ranged, taken}
use Rattle.model.specs.Commands.{number_for}
use Rattle.borrowed.specs.Lent.{found_in, ranges_in}
use Rattle.arbitration.specs.declared.search.Looked.{Looked}
use Rattle.arbitration.specs.Marks.{looks_of}

abbrev pub taken_by : Core → Result (SourceId × Core) Refusal → Taken
taken_by c (Ok r) = taken 0 r.0 r.1
taken_by c (Err e) = taken (number_for e) (source_id 0) c

abbrev pub position_of : Option Looked → ℕ
position_of (Some looked) = looked.at + 1
position_of None = 0

abbrev pub found_by : Result (Option Looked) Refusal → Found
found_by (Ok o) = found 0 (position_of o)
found_by (Err e) = found (number_for e) 0

abbrev pub ranged_by : Result (Option Looked) Refusal → Ranged
ranged_by (Ok o) = ranged 0 (looks_of o)
ranged_by (Err e) = ranged (number_for e) 0

pub record SoughtIn (l : List Source) (r : Result (Option Looked) Refusal) : Type 0 where
  pub found : found_by r ≡ found_in l
  pub ranged : ranged_by r ≡ ranges_in l
  pub inside : (looked : Looked) → r ≡ Ok (Some looked) → looked.at < max_sources
