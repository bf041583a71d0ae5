-- What the next cycle does, and why: the case that `next s` is in. Assumes nothing.
--   Next s         at rest, a retraction of a dirty box, or a delivery of a highest candidate to a least core
--   next_cases s   one of the three
--   next_retract   a dirty box with no dirty box before it is the next to be retracted
--   next_clean     with no box dirty, arbitration says what is next
use Prim.Native.Nat.{ℕ, zero, suc, ◌<◌, ◌≤◌}
use mathlib.Core.Path.{◌≡◌, refl}
use mathlib.Core.List.{List}
use mathlib.Core.Bool.{Bool, true, false}
use lib.ListN.{get_or}
use borrow.Author.Tests.{ltb-true, lt-ltb, le-ltb}
use native.Mathlib.Omega.{arith}
use native.Mathlib.Decide.{dec_lt}
use Rattle.model.specs.declared.Core.{Core}
use Rattle.model.specs.declared.Controller.{Controller}
use Rattle.model.specs.declared.Cycle.TheVariants.{Rest, Retract, Deliver}
use Rattle.model.specs.Records.{no_core, source_id, core_id, source_at, core_at}
use Rattle.model.specs.Requests.{current_priority, candidate}
use Rattle.model.specs.Arbitration.{highest, least}
use Rattle.model.specs.WellFormed.{NoneAbove}
use Rattle.model.specs.Settling.{first_dirty, interrupted_by, arbitrate, next}
use Rattle.arbitration.proofs.Tree.{highest_below, highest_ge}
use Rattle.arbitration.proofs.LeastCore.{least_below, least_le}
use Rattle.lists.proofs.Bools.{and_in, and_l, and_r, Flag, on, off, flag, clash}
use Rattle.lists.proofs.Walks.{below_suc}

abbrev dirty_at : List Core → ℕ → Bool
dirty_at l k = (get_or l k no_core).message.dirty

-- No box of the first m is dirty.
abbrev pub NoneDirty : List Core → ℕ → Type 0
NoneDirty l m = (k : ℕ) → k < m → dirty_at l k ≡ false

-- ---- the first dirty box

module _ (l : List Core) where
  data First (m w : ℕ) : Type 0 where
    found : w < m → dirty_at l w ≡ true → NoneDirty l w → First m w
    missed : w ≡ m → NoneDirty l m → First m w

  first_cases : (m : ℕ) → First m (first_dirty l m)
  unfolding first_dirty
  first_cases zero = missed refl (λ k p. absurd (omega arith))
  first_cases (suc j) = go (first_cases j) (flag (dirty_at l j))
    where
      go : First j (first_dirty l j) → Flag (dirty_at l j) → First (suc j) (first_dirty l (suc j))
      go (found p e c) f = rw (lt-ltb (first_dirty l j) j p) (found (omega arith) e c)
      go (missed p c) (on e) = rw (le-ltb (first_dirty l j) j (omega arith), e) (found (omega arith) e c)
      go (missed p c) (off e) = rw (le-ltb (first_dirty l j) j (omega arith), e)
          (missed refl (below_suc (λ (k : ℕ). dirty_at l k ≡ false) j c e))

-- ---- the three cases

-- Source i + 1 offers a highest request, core k is one of the least, and the request is above it.
pub record Contest (s : Controller) (i k : ℕ) : Type 0 where
  pub source_in : i < s.n
  pub is_candidate : candidate (source_at s i) ≡ true
  pub highest : (j : ℕ) → j < s.n → candidate (source_at s j) ≡ true → (source_at s j).priority ≤ (source_at s i).priority
  pub core_in : k < s.m
  pub least : (j : ℕ) → j < s.m → current_priority (core_at s k) ≤ current_priority (core_at s j)
  pub above : current_priority (core_at s k) < (source_at s i).priority

pub data Next (s : Controller) : Type 0 where
  resting : next s ≡ Rest → NoneDirty s.cores s.m → NoneAbove s → Next s
  retracting : (k : ℕ) → next s ≡ Retract (core_id k) → k < s.m → dirty_at s.cores k ≡ true → Next s
  arbitrating : (i k : ℕ) → next s ≡ Deliver (source_id (suc i)) (core_id k) → NoneDirty s.cores s.m → Contest s i k → Next s

abbrev pub top_source : Controller → ℕ
top_source s = highest s.sources s.n

abbrev pub low_core : Controller → ℕ
low_core s = least s.cores s.m

abbrev pub interrupts : Controller → Bool
interrupts s = interrupted_by (core_at s (low_core s)) (source_at s (top_source s))

module _ (s : Controller) (some_source : 1 ≤ s.n) (some_core : 1 ≤ s.m) where
  pub contest : interrupts s ≡ true → Contest s (top_source s) (low_core s)
  contest e =
      record {
        source_in = highest_below s.sources s.n some_source;
        is_candidate = and_l (candidate (source_at s (top_source s))) _ e;
        highest = λ j p q. (highest_ge s.sources s.n j p q).1;
        core_in = least_below s.cores s.m some_core;
        least = least_le s.cores s.m;
        above = ltb-true _ _ (and_r (candidate (source_at s (top_source s))) _ e);
      }

  settled : interrupts s ≡ false → NoneAbove s
  settled e i k p q c = go (dec_lt low high) (highest_ge s.sources s.n i p c)
    where
      low : ℕ
      low = current_priority (core_at s (low_core s))

      high : ℕ
      high = (source_at s (top_source s)).priority

      go :
          Dec (low < high) → (candidate (source_at s (top_source s)) ≡ true) × ((source_at s i).priority ≤ high) →
          (source_at s i).priority ≤ current_priority (core_at s k)
      go (yes u) h = clash (and_in h.0 (lt-ltb low high u)) e
      go (no u) h = omega (arith, h.1, least_le s.cores s.m k q)

  pub next_cases : Next s
  unfolding next arbitrate
  next_cases = go (first_cases s.cores s.m) (flag (interrupts s))
    where
      w : ℕ
      w = first_dirty s.cores s.m

      go : First s.cores s.m w → Flag (interrupts s) → Next s
      go (found p e c) f = retracting w (rw (lt-ltb w s.m p)) p e
      go (missed p c) (on e) =
          arbitrating (top_source s) (low_core s) (rw (le-ltb w s.m (omega arith), e)) c (contest e)
      go (missed p c) (off e) = resting (rw (le-ltb w s.m (omega arith), e)) c (settled e)

-- ---- the first dirty box is the next to be retracted

module _ (s : Controller) (k : ℕ) (h : k < s.m) (clean : NoneDirty s.cores k) (dirty : dirty_at s.cores k ≡ true) where
  first_is : first_dirty s.cores s.m ≡ k
  first_is = go (first_cases s.cores s.m) (dec_lt w k) (dec_lt k w)
    where
      w : ℕ
      w = first_dirty s.cores s.m

      go : First s.cores s.m w → Dec (w < k) → Dec (k < w) → w ≡ k
      go (found p e c) (yes q) d = clash e (clean w q)
      go (found p e c) (no q) (yes u) = clash dirty (c k u)
      go (found p e c) (no q) (no u) = omega arith
      go (missed p c) d d' = clash dirty (c k h)

  pub next_retract : next s ≡ Retract (core_id k)
  unfolding next
  next_retract = rw (first_is, lt-ltb k s.m h)

-- ---- with no box dirty, arbitration

pub next_clean : (s : Controller) → NoneDirty s.cores s.m → next s ≡ arbitrate s (top_source s) (low_core s)
unfolding next
next_clean s clean = go (first_cases s.cores s.m)
  where
    w : ℕ
    w = first_dirty s.cores s.m

    go : First s.cores s.m w → next s ≡ arbitrate s (top_source s) (low_core s)
    go (found p e c) = clash e (clean w p)
    go (missed p c) = rw (le-ltb w s.m (omega arith))
