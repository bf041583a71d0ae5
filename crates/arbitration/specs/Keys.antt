-- Arbitration over rows of numbers. Helpers of contracts; nothing here needs to be believed.
--   key_above ks i j                     the key at i is strictly above the key at j
--   HighestKey ks lo len r              r is what the comparator tree answers, whatever bound its depth is given
use Rattle.std.specs.Prelude.{ℕ, ◌≤◌, ◌≡◌, List, Bool, get_or, ltb}
use Rattle.lists.specs.Walks.{tree}

abbrev pub key_above : List ℕ → ℕ → ℕ → Bool
key_above ks i j = ltb (get_or ks j 0) (get_or ks i 0)

abbrev pub HighestKey : List ℕ → ℕ → ℕ → ℕ → Type 0
HighestKey ks lo len r = (d : ℕ) → len ≤ d → r ≡ tree (key_above ks) d lo len
