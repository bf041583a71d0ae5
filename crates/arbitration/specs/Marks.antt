-- The marks that tell a range without a candidate, and the search that skips such ranges, over rows of keys. Helpers of contracts; nothing
-- here needs to be believed.
--   ranked ks i                 the key at i is a candidate's: 0 is no candidate's
--   MarksOf ks n ms             ms holds for each index up to n how many candidates' keys stand before it
--   Lookable, LookedInto        what the search of a range that has a candidate asks and gives
--   place_of, looks_of          where an answer's key stands, and the ranges that were looked into; 0 where there is none
--   Searched ks n r             what the whole search answers: none exactly if no key is a candidate's
use Rattle.std.specs.Prelude.{ℕ, ◌+◌, ◌*◌, ◌<◌, ◌≤◌, ◌≡◌, List, Bool, true, length, get_or, ltb, Option, Some, None}
use Rattle.std.specs.Option.{is_some}
use Rattle.lists.specs.Walks.{tally, within, occupied}
use Rattle.model.specs.Records.{max_sources}
use Rattle.arbitration.specs.Keys.{HighestKey}
use Rattle.arbitration.specs.declared.search.Looked.{Looked}

abbrev pub ranked : List ℕ → ℕ → Bool
ranked ks i = ltb 0 (get_or ks i 0)

-- ---- marks

pub record MarksOf (ks : List ℕ) (n : ℕ) (ms : List ℕ) : Type 0 where
  pub room : n < length ms
  pub before : (i : ℕ) → i ≤ n → get_or ms i 0 ≡ tally i (ranked ks)

-- ---- the search

pub record Lookable (ks ms : List ℕ) (lo len : ℕ) : Type 0 where
  pub inside : lo + len ≤ length ks
  pub size : length ks ≤ max_sources
  pub marked : MarksOf ks (lo + len) ms
  pub held : within (ranked ks) (lo, len) ≡ true

pub record LookedInto (ks : List ℕ) (lo len : ℕ) (r : Looked) : Type 0 where
  pub highest : HighestKey ks lo len r.at
  pub counted : r.ranges ≡ occupied (ranked ks) lo len
  pub inside : r.at < lo + len
  pub few : r.ranges < 2 * len

abbrev pub place_of : Option Looked → ℕ
place_of (Some r) = r.at
place_of None = 0

abbrev pub looks_of : Option Looked → ℕ
looks_of (Some r) = r.ranges
looks_of None = 0

pub record Searched (ks : List ℕ) (n : ℕ) (r : Option Looked) : Type 0 where
  pub highest : HighestKey ks 0 n (place_of r)
  pub counted : looks_of r ≡ occupied (ranked ks) 0 n
  pub held : is_some r ≡ within (ranked ks) (0, n)
