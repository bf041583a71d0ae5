-- The sound-state test is exact (`TestExact`): it succeeds on a state just if the state is well formed. A law for each clause, in
-- the test's order. Assumes nothing.
--   well_formed-out, well_formed-in    the two directions
--   test_exact                       both
--   layers_exact                     the same of each layer
--   consistent_exact, frugal_exact   the first and the last of them
use Rattle.model.specs.Statements.{LayersExact, TestExact}
use Rattle.model.specs.WellFormed.{Frugal, frugal, Quiet, quiet, consistent, Consistent, Clean, lists_whole, sources_in_range, cores_in_range}
use Rattle.model.specs.WellFormed.{spares_reset, boxes_backed, boxes_distinct, boxes_clean, candidates_settled, covered_settled, well_formed}
use Rattle.model.specs.WellFormed.{WellFormed, Holding}
use Prim.Native.Nat.{ℕ, ◌<◌, ◌≤◌}
use mathlib.Core.Path.{◌≡◌, sym}
use mathlib.Core.Logic.Iff
use mathlib.Core.Logic.{◌↔◌}
use mathlib.Core.Bool.{Bool, true, ◌&&◌}
use mathlib.Core.List.{List}
use lib.ListN.{length, get_or}
use lib.Dec.{leb}
use native.Mathlib.Nat.{le_trans}
use native.Mathlib.Omega.{arith}
use native.Mathlib.Decide.{dec_lt}
use Rattle.model.specs.declared.Core.{Core}
use Rattle.model.specs.declared.Controller.{Controller}
use Rattle.model.specs.Records.{max_sources, max_cores, no_core, reset_source, reset_core, source_at, core_at}
use Rattle.model.specs.Priorities.{top_priority}
use Rattle.model.specs.Requests.{current_priority, candidate}
use Rattle.model.specs.Arbitration.{least, least_priority}
use Rattle.arbitration.proofs.LeastCore.{least_le, least_below}
use Rattle.lists.proofs.Bools.{and_in, and_l, and_r}
use Rattle.lists.proofs.Exact.{Exact, ◌and◌, not_exact, leb_exact, ltb_exact, eqb_exact, refuted_exact, implies_exact, from_exact}
use Rattle.lists.proofs.Exact.{every_exact}
use Rattle.well_formed.proofs.Clauses.{sizes_exact, SourceFits, source_exact, CoreFits, core_exact, reset_source_exact}
use Rattle.well_formed.proofs.Clauses.{reset_core_exact, backed_exact, SameSource, same_source_exact}

-- a symmetric relation holds between no two numbers below m if it holds from none to a larger one
module _ (m : ℕ) (R : ℕ → ℕ → Type 0) (turn : (j k : ℕ) → R j k → R k j) where
  abbrev Apart : Type 0
  Apart = (k : ℕ) → k < m → (j : ℕ) → j < k → ¬ R j k

  apart_any : Apart → (j k : ℕ) → j < m → k < m → R j k → Dec (j < k) → Dec (k < j) → j ≡ k
  apart_any f j k p q r (yes h) d = absurd (f k q j h r)
  apart_any f j k p q r (no g) (yes h) = absurd (f j p k h (turn j k r))
  apart_any f j k p q r (no g) (no h) = omega arith

  apart_exact : Apart ↔ ((j k : ℕ) → j < m → k < m → R j k → j ≡ k)
  apart_exact = (
    λ f j k p q r. apart_any f j k p q r (dec_lt j k) (dec_lt k j),
    λ f k q j h r. omega (arith, f j k (omega arith) q r),
  )

-- no source lies in two boxes
pub sources_apart : (s : Controller) →
    ((k : ℕ) → k < s.m → (j : ℕ) → j < k → ¬ SameSource (core_at s j) (core_at s k)) ↔
    ((j k : ℕ) → j < s.m → k < s.m → SameSource (core_at s j) (core_at s k) → j ≡ k)
sources_apart s =
    apart_exact s.m (λ j k. SameSource (core_at s j) (core_at s k))
    (λ j k f. record { left = f.right; right = f.left; source = sym f.source })

module _ (s : Controller) where
  lists_exact : Exact (lists_whole s) ((length s.sources ≡ max_sources) × (length s.cores ≡ max_cores))
  unfolding lists_whole
  lists_exact = eqb_exact (length s.sources) max_sources and eqb_exact (length s.cores) max_cores

  sources_exact : Exact (sources_in_range s) ((i : ℕ) → i < s.n → SourceFits (top_priority s.n) (source_at s i))
  unfolding sources_in_range
  sources_exact = every_exact s.n (λ i. source_exact (top_priority s.n) (source_at s i))

  cores_exact : Exact (cores_in_range s) ((k : ℕ) → k < s.m → CoreFits (top_priority s.n) (core_at s k))
  unfolding cores_in_range
  cores_exact = every_exact s.m (λ k. core_exact (top_priority s.n) (core_at s k))

  spares_exact : Exact (spares_reset s)
      (((i : ℕ) → i < max_sources → s.n ≤ i → source_at s i ≡ reset_source) ×
      ((k : ℕ) → k < max_cores → s.m ≤ k → core_at s k ≡ reset_core))
  unfolding spares_reset
  spares_exact =
      every_exact max_sources (λ i. from_exact i s.n (reset_source_exact (source_at s i))) and
      every_exact max_cores (λ k. from_exact k s.m (reset_core_exact (core_at s k)))

  boxes_exact : Exact (boxes_backed s) ((k : ℕ) → k < s.m → (core_at s k).message.filled ≡ true → Holding s (core_at s k))
  unfolding boxes_backed
  boxes_exact = every_exact s.m (λ k. backed_exact s (core_at s k))

  distinct_exact : Exact (boxes_distinct s) ((j k : ℕ) → j < s.m → k < s.m → SameSource (core_at s j) (core_at s k) → j ≡ k)
  unfolding boxes_distinct
  distinct_exact =
      Iff.trans (every_exact s.m (λ k. every_exact k (λ j. refuted_exact (same_source_exact (core_at s j) (core_at s k)))))
      (sources_apart s)

  clean_exact : Exact (boxes_clean s) (Clean s)
  unfolding boxes_clean
  clean_exact = every_exact s.m (λ k. not_exact (core_at s k).message.dirty)

-- at most the least current priority is at most each core's
least_exact : (l : List Core) (m p : ℕ) → 1 ≤ m →
    Exact (leb p (least_priority l m)) ((k : ℕ) → k < m → p ≤ current_priority (get_or l k no_core))
unfolding least_priority
least_exact l m p h =
    Iff.trans (leb_exact p (current_priority (get_or l (least l m) no_core)))
    (λ e k b. le_trans e (least_le l m k b), λ f. f (least l m) (least_below l m h))

module _ (s : Controller) (some : 1 ≤ s.m) where
  candidates_exact : Exact (candidates_settled s)
      ((i : ℕ) → i < s.n → candidate (source_at s i) ≡ true → (k : ℕ) → k < s.m → (source_at s i).priority ≤ current_priority (core_at s k))
  unfolding candidates_settled
  candidates_exact =
      every_exact s.n
      (λ i. implies_exact (candidate (source_at s i)) (least_exact s.cores s.m (source_at s i).priority some))

  covered_exact : Exact (covered_settled s)
      ((j : ℕ) → j < s.m → (core_at s j).message.filled ≡ true → (k : ℕ) → k < s.m →
      (core_at s j).configured ≤ current_priority (core_at s k))
  unfolding covered_settled
  covered_exact =
      every_exact s.m
      (λ j. implies_exact (core_at s j).message.filled (least_exact s.cores s.m (core_at s j).configured some))

-- ---- the layers, and the whole

pub consistent_exact : (s : Controller) → Exact (consistent s) (Consistent s)
unfolding consistent
consistent_exact s =
    Iff.trans
    (sizes_exact s.n s.m and
    lists_exact s and sources_exact s and cores_exact s and spares_exact s and boxes_exact s and distinct_exact s) (
      λ ((((((sizes, lists), sources), cores), spares), backed), distinct).
          record {
            some_source = sizes.some_source;
            n_le = sizes.n_le;
            some_core = sizes.some_core;
            m_le = sizes.m_le;
            sources_length = lists.0;
            cores_length = lists.1;
            configured_source = λ i h. (sources i h).configured;
            request_range = λ i h. (sources i h).request;
            idle_source = λ i h. (sources i h).idle;
            configured_core = λ k h. (cores k h).configured;
            unfilled_box = λ k h. (cores k h).empty;
            spare_source = λ i a b. spares.0 i b a;
            spare_core = λ k a b. spares.1 k b a;
            backed = backed;
            distinct = λ j k a b f g q. distinct j k a b (record { left = f; right = g; source = q });
          },
      λ c. (
        (
          (
            (
              (
                (
                  record { some_source = c.some_source; n_le = c.n_le; some_core = c.some_core; m_le = c.m_le },
                  (c.sources_length, c.cores_length),
                ),
                λ i h. record { configured = c.configured_source i h; request = c.request_range i h; idle = c.idle_source i h },
              ),
              λ k h. record { configured = c.configured_core k h; empty = c.unfilled_box k h },
            ),
            (λ i b a. c.spare_source i a b, λ k b a. c.spare_core k a b),
          ),
          c.backed,
        ),
        λ j k a b f. c.distinct j k a b f.left f.right f.source,
      ),
    )

quiet_exact : (s : Controller) → 1 ≤ s.m → Exact (quiet s) (Quiet s)
unfolding quiet
quiet_exact s some =
    Iff.trans (candidates_exact s some and covered_exact s some) (
      λ (f, g). record { candidates_below = λ i k a b c. f i a c k b; covered_below = λ j k a b e. g j a e k b },
      λ q. (λ i a c k b. q.candidates_below i k a b c, λ j a e k b. q.covered_below j k a b e),
    )

pub frugal_exact : (s : Controller) → Exact (frugal s) (Frugal s)
unfolding frugal
frugal_exact s =
    Iff.trans
    (every_exact s.m (λ j.
    implies_exact (core_at s j).message.filled
    (every_exact s.m (λ k.
    implies_exact (core_at s k).message.filled (ltb_exact (core_at s j).configured (core_at s k).message.priority)))))
    (λ f j k a b p q. f j a p k b q, λ f j a p k b q. f j k a b p q)

pub well_formed-out : (s : Controller) → well_formed s ≡ true → WellFormed s
unfolding well_formed
well_formed-out s e =
    let first : Bool = consistent s && boxes_clean s in
    let three : first && quiet s ≡ true = and_l (first && quiet s) (frugal s) e in
    let two : first ≡ true = and_l first (quiet s) three in
    let c : Consistent s = (consistent_exact s).0 (and_l (consistent s) (boxes_clean s) two) in
    record {
      consistent = c;
      clean = (clean_exact s).0 (and_r (consistent s) (boxes_clean s) two);
      quiet = (quiet_exact s c.some_core).0 (and_r first (quiet s) three);
      frugal = (frugal_exact s).0 (and_r (first && quiet s) (frugal s) e);
    }

pub well_formed-in : (s : Controller) → WellFormed s → well_formed s ≡ true
unfolding well_formed
well_formed-in s w =
    and_in
    (and_in (and_in ((consistent_exact s).1 w.consistent) ((clean_exact s).1 w.clean))
    ((quiet_exact s w.consistent.some_core).1 w.quiet))
    ((frugal_exact s).1 w.frugal)

pub layers_exact : LayersExact
layers_exact s = (consistent_exact s, clean_exact s, quiet_exact s, frugal_exact s)

pub test_exact : TestExact
test_exact s = (well_formed-out s, well_formed-in s)
