-- The sound-state test, clause by clause, and the same as a proposition. Definitions only. Assumes nothing.
-- Source: document 01, "A sound state", in its order; the last layer is document 02's, request 2. Document 01's word is "sound".
--   well_formed s     the computed test: it answers on any record, whatever sizes, ids and priorities it holds
--   WellFormed s     what the test means; the two are proved equivalent
-- Both are made of four layers, each with a test of its own:
--   consistent, Consistent    the structure: sizes, ranges, blank values, boxes that name their request; it holds between two cycles
--                             of settling too, so a dirty box need not be above its core's configured priority
--   boxes_clean, Clean         no box is dirty
--   quiet, Quiet              no candidate and no covered priority is above a current one
--   frugal, Frugal            no covered priority reaches the priority of any filled box, so that no box could be left empty
-- The lists' lengths are those of the arrays in every value that a program can hold.
use Rattle.std.specs.Prelude.{ℕ, ◌<◌, ◌≤◌, ◌≡◌, List, Bool, true, false, not, ◌&&◌, ◌||◌, length, get_or, ltb, leb, eqb}
use Rattle.lists.specs.Numbers.{between}
use Rattle.model.specs.declared.Source.{Source}
use Rattle.model.specs.declared.Core.{Core}
use Rattle.model.specs.declared.MessageBox.{MessageBox}
use Rattle.model.specs.declared.Controller.{Controller}
use Rattle.model.specs.Records.{max_sources, max_cores, no_source, reset_source, reset_core, empty_box, index_of, source_at, core_at}
use Rattle.model.specs.Priorities.{top_priority}
use Rattle.lists.specs.Walks.{every}
use Rattle.model.specs.Requests.{current_priority, candidate}
use Rattle.model.specs.Arbitration.{least_priority}

-- ---- the test

-- Sizes in range.
unfoldable pub sizes_in_range : ℕ → ℕ → Bool
sizes_in_range n m = between 1 max_sources n && between 1 max_cores m

unfoldable pub lists_whole : Controller → Bool
lists_whole s = eqb (length s.sources) max_sources && eqb (length s.cores) max_cores

-- Configured source and pending request priorities 1 to top; not pending: delivered is off and the request's priority is 0.
unfoldable pub source_in_range : ℕ → Source → Bool
source_in_range top r =
    between 1 top r.configured &&
    (not r.pending || between 1 top r.priority) && (r.pending || (not r.delivered && eqb r.priority 0))

-- Core priorities 0 to top; an empty box has id 0, priority 0 and isn't dirty.
unfoldable pub is_empty_box : MessageBox → Bool
is_empty_box b = not b.filled && not b.dirty && eqb b.source.0 0 && eqb b.priority 0

unfoldable pub core_in_range : ℕ → Core → Bool
core_in_range top c = leb c.configured top && (c.message.filled || is_empty_box c.message)

-- Records past n or m are kept as fresh ones.
unfoldable pub is_reset_source : Source → Bool
is_reset_source r =
    eqb r.configured 1 && r.masked && not r.pending && not r.delivered && eqb r.priority 0 && eqb r.dropped 0

unfoldable pub is_reset_core : Core → Bool
is_reset_core c = eqb c.configured 0 && is_empty_box c.message

-- A filled box names a source that is pending and delivered, with the same priority, strictly above its core's configured priority;
-- a dirty one, which a sound state has none of, need not be above.
unfoldable pub backed_by : ℕ → Core → Source → Bool
backed_by n c r =
    between 1 n c.message.source.0 &&
    r.pending &&
    r.delivered && eqb r.priority c.message.priority && (c.message.dirty || ltb c.configured c.message.priority)

abbrev pub is_backed : ℕ → List Source → Core → Bool
is_backed n l c = not c.message.filled || backed_by n c (get_or l (index_of c.message.source) no_source)

-- Cores j and k hold the same source.
abbrev pub same_source : Core → Core → Bool
same_source c d = c.message.filled && d.message.filled && eqb c.message.source.0 d.message.source.0

unfoldable pub sources_in_range : Controller → Bool
sources_in_range s = every s.n (λ i. source_in_range (top_priority s.n) (source_at s i))

unfoldable pub cores_in_range : Controller → Bool
cores_in_range s = every s.m (λ k. core_in_range (top_priority s.n) (core_at s k))

unfoldable pub spares_reset : Controller → Bool
spares_reset s =
    every max_sources (λ i. ltb i s.n || is_reset_source (source_at s i)) &&
    every max_cores (λ k. ltb k s.m || is_reset_core (core_at s k))

unfoldable pub boxes_backed : Controller → Bool
boxes_backed s = every s.m (λ k. is_backed s.n s.sources (core_at s k))

-- No source in two boxes.
unfoldable pub boxes_distinct : Controller → Bool
boxes_distinct s = every s.m (λ k. every k (λ j. not (same_source (core_at s j) (core_at s k))))

-- No box dirty.
unfoldable pub boxes_clean : Controller → Bool
boxes_clean s = every s.m (λ k. not (core_at s k).message.dirty)

-- No candidate above the least current priority.
unfoldable pub candidates_settled : Controller → Bool
candidates_settled s =
    every s.n (λ i. not (candidate (source_at s i)) || leb (source_at s i).priority (least_priority s.cores s.m))

-- The configured priority under a filled box isn't above any core's current priority.
unfoldable pub covered_settled : Controller → Bool
covered_settled s =
    every s.m (λ k. not (core_at s k).message.filled || leb (core_at s k).configured (least_priority s.cores s.m))

unfoldable pub consistent : Controller → Bool
consistent s =
    sizes_in_range s.n s.m &&
    lists_whole s && sources_in_range s && cores_in_range s && spares_reset s && boxes_backed s && boxes_distinct s

unfoldable pub quiet : Controller → Bool
quiet s = candidates_settled s && covered_settled s

-- Each configured priority under a filled box is strictly below every filled box's priority, its own included.
unfoldable pub frugal : Controller → Bool
frugal s =
    every s.m (λ j.
    not (core_at s j).message.filled ||
    every s.m (λ k. not (core_at s k).message.filled || ltb (core_at s j).configured (core_at s k).message.priority))

unfoldable pub well_formed : Controller → Bool
well_formed s = consistent s && boxes_clean s && quiet s && frugal s

-- ---- the proposition

-- What a filled box says of its source.
pub record Holding (s : Controller) (c : Core) : Type 0 where
  pub some_id : 1 ≤ c.message.source.0
  pub id_le : c.message.source.0 ≤ s.n
  pub pending : (source_at s (index_of c.message.source)).pending ≡ true
  pub delivered : (source_at s (index_of c.message.source)).delivered ≡ true
  pub same_priority : (source_at s (index_of c.message.source)).priority ≡ c.message.priority
  pub above : c.message.dirty ≡ false → c.configured < c.message.priority

pub record Consistent (s : Controller) : Type 0 where
  pub some_source : 1 ≤ s.n
  pub n_le : s.n ≤ max_sources
  pub some_core : 1 ≤ s.m
  pub m_le : s.m ≤ max_cores
  pub sources_length : length s.sources ≡ max_sources
  pub cores_length : length s.cores ≡ max_cores
  pub configured_source : (i : ℕ) → i < s.n → (1 ≤ (source_at s i).configured) × ((source_at s i).configured ≤ top_priority s.n)
  pub request_range :
      (i : ℕ) → i < s.n → (source_at s i).pending ≡ true → (1 ≤ (source_at s i).priority) × ((source_at s i).priority ≤ top_priority s.n)
  pub idle_source :
      (i : ℕ) → i < s.n → (source_at s i).pending ≡ false → ((source_at s i).delivered ≡ false) × ((source_at s i).priority ≡ 0)
  pub configured_core : (k : ℕ) → k < s.m → (core_at s k).configured ≤ top_priority s.n
  pub unfilled_box : (k : ℕ) → k < s.m → (core_at s k).message.filled ≡ false → (core_at s k).message ≡ empty_box
  pub spare_source : (i : ℕ) → s.n ≤ i → i < max_sources → source_at s i ≡ reset_source
  pub spare_core : (k : ℕ) → s.m ≤ k → k < max_cores → core_at s k ≡ reset_core
  pub backed : (k : ℕ) → k < s.m → (core_at s k).message.filled ≡ true → Holding s (core_at s k)
  pub distinct :
      (j k : ℕ) → j < s.m → k < s.m → (core_at s j).message.filled ≡ true → (core_at s k).message.filled ≡ true →
      (core_at s j).message.source.0 ≡ (core_at s k).message.source.0 → j ≡ k

abbrev pub Clean : Controller → Type 0
Clean s = (k : ℕ) → k < s.m → (core_at s k).message.dirty ≡ false

-- No candidate is above any core's current priority.
abbrev pub NoneAbove : Controller → Type 0
NoneAbove s =
    (i k : ℕ) → i < s.n → k < s.m → candidate (source_at s i) ≡ true → (source_at s i).priority ≤ current_priority (core_at s k)

pub record Quiet (s : Controller) : Type 0 where
  pub candidates_below : NoneAbove s
  pub covered_below :
      (j k : ℕ) → j < s.m → k < s.m → (core_at s j).message.filled ≡ true → (core_at s j).configured ≤ current_priority (core_at s k)

abbrev pub Frugal : Controller → Type 0
Frugal s =
    (j k : ℕ) → j < s.m → k < s.m → (core_at s j).message.filled ≡ true → (core_at s k).message.filled ≡ true →
    (core_at s j).configured < (core_at s k).message.priority

pub record WellFormed (s : Controller) : Type 0 where
  pub consistent : Consistent s
  pub clean : Clean s
  pub quiet : Quiet s
  pub frugal : Frugal s
