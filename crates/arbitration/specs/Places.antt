-- A core's key, or a source's rank, with its place in one number: one minimum tells the first of the least cores, one maximum the first of
-- the highest candidates. Helpers of contracts; nothing here needs to be believed.
--   key_at k c            of core k: the key first, then the number k
--   rank_at i r           of source i + 1: the request's priority first, then the lower id; 0 for no candidate
--   LowestOf ks m x      x is the least of the first m numbers
--   GreatestOf ks n x    x is the greatest of the first n numbers
--   core_of, current_of, source_of, priority_of    what a number tells
use Rattle.std.specs.Prelude.{ℕ, ◌+◌, ◌*◌, ◌-◌, ◌/◌, ◌%◌, ◌<◌, ◌≤◌, ◌≡◌, List, cond, get_or}
use Rattle.model.specs.declared.Source.{Source}
use Rattle.model.specs.declared.Core.{Core}
use Rattle.model.specs.Records.{max_sources, max_cores}
use Rattle.model.specs.Requests.{candidate}
use Rattle.model.specs.Arbitration.{core_key}

-- Above every id that there is room for.
abbrev pub rank_step : ℕ
rank_step = 2048

abbrev pub key_at : ℕ → Core → ℕ
key_at k c = max_cores * core_key c + k

abbrev pub rank_at : ℕ → Source → ℕ
rank_at i r = cond (candidate r) (rank_step * r.priority + (max_sources - i)) 0

-- ---- what a number tells

abbrev pub core_of : ℕ → ℕ
core_of x = x % max_cores

abbrev pub current_of : ℕ → ℕ
current_of x = x / (2 * max_cores)

abbrev pub source_of : ℕ → ℕ
source_of x = max_sources - x % rank_step

abbrev pub priority_of : ℕ → ℕ
priority_of x = x / rank_step

-- ---- the least and the greatest of a row

-- x is one of the first n numbers, and R relates it to each of them.
pub record Outermost (R : ℕ → ℕ → Type 0) (ks : List ℕ) (n x : ℕ) : Type 0 where
  pub at : ℕ
  pub inside : at < n
  pub there : get_or ks at 0 ≡ x
  pub related : (i : ℕ) → i < n → R x (get_or ks i 0)

abbrev pub AtMost : ℕ → ℕ → Type 0
AtMost x y = x ≤ y

abbrev pub AtLeast : ℕ → ℕ → Type 0
AtLeast x y = y ≤ x

abbrev pub LowestOf : List ℕ → ℕ → ℕ → Type 0
LowestOf ks m x = Outermost AtMost ks m x

abbrev pub GreatestOf : List ℕ → ℕ → ℕ → Type 0
GreatestOf ks n x = Outermost AtLeast ks n x
