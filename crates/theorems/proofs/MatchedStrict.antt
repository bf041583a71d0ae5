-- A sound state that the ledger matches is priority-strict; that no placement fills fewer boxes is `Fewest`'s. Assumes nothing.
-- At each threshold either every core's current priority is at or above it, or some core's is below it, and then so is everything in
-- the collection that no core shows: the candidates' priorities, and the configured priorities under filled boxes.
use Prim.Native.Nat.{ℕ, suc, ◌+◌, ◌≤◌, ◌<◌, min}
use mathlib.Core.Path.{◌≡◌, refl, subst₂}
use mathlib.Core.List.{List}
use mathlib.Core.Bool.{Bool, true, false, cond, not}
use native.Mathlib.Omega.{arith}
use lib.Dec.{ltb}
use borrow.Author.Tests.{ltb-true, ltb-false}
use Rattle.model.specs.declared.Controller.{Controller}
use Rattle.model.specs.Records.{source_at, core_at}
use Rattle.model.specs.Requests.{current_priority, waiting, holds, boxed}
use Rattle.lists.specs.Walks.{some}
use Rattle.model.specs.WellFormed.{WellFormed}
use Rattle.model.specs.Ledger.{Ledger, competes, request_priority, collection, given, in_boxes, current_priorities}
use Rattle.lists.specs.Rows.{row}
use Rattle.model.specs.Statements.{PriorityStrict}
use Rattle.lists.proofs.Bools.{and_in, and_l, or_off, Flag, on, off, flag}
use Rattle.lists.proofs.Walks.{Witness, some_out, some_false_out}
use Rattle.model.proofs.Boxes.{holds_filled, holds_source, boxed_out}
use Rattle.lists.proofs.Counting.{total_le, total_add, reach, reach_under, reached_all}
use Rattle.theorems.specs.Matches.{Matches, MatchedStrict}
use Rattle.lists.proofs.Counts.{Sent, nowhere, to, total_sent, count, count_one, count_row, row_count_le, row_length, row_cong}
use Rattle.theorems.proofs.Placements.{offered, collection_count, collection_length, Competing, competes_out, placement_count}
use Rattle.theorems.proofs.Requests.{pending_priority, unboxed_waits}
use Rattle.theorems.proofs.FilledBoxes.{current_given, box_priority, boxes_placed}
use Rattle.theorems.proofs.Fewest.{fewest}
use Rattle.lists.proofs.Sorting.{sorted_le, top_of}

module _ (b : Ledger) (s : Controller) where
  abbrev current : ℕ → ℕ
  current k = current_priority (core_at s k)

  abbrev currents : List ℕ
  currents = current_priorities s.m s

  abbrev everything : List ℕ
  everything = collection s.n s.m b s

  abbrev offer : ℕ → List ℕ
  offer i = offered s.n s.m b s i

  -- what the box of core k counts at a threshold
  abbrev shown : ℕ → ℕ → ℕ
  shown t k = cond (core_at s k).message.filled (reach t (current k)) 0

  -- the box of core k holds the request of source i + 1
  abbrev In : ℕ → ℕ → Type 0
  In i k = holds (suc i) (core_at s k) ≡ true

  in_apart : (i j k : ℕ) → In i k → In j k → i ≡ j
  in_apart i j k x y = omega (arith, holds_source (suc i) (core_at s k) x, holds_source (suc j) (core_at s k) y)

  module _ (w : WellFormed s) (match : Matches s.n s.m b s) where
    -- a request that competes outside the boxes is a candidate's
    unboxed_settled :
        (i k : ℕ) → i < s.n → k < s.m → Competing s.n s.m b s (suc i) → boxed s.cores s.m (suc i) ≡ false →
        request_priority b (suc i) ≤ current k
    unboxed_settled i k p q c e =
        let unmasked : not (b.masked (suc i)) ≡ true = or_off (boxed s.cores s.m (suc i)) (not (b.masked (suc i))) c.placed e in
        let waits : waiting (source_at s i) ≡ true = unboxed_waits s.n s.m b s match i p c.request_open e in
        rw (pending_priority s.n s.m b s match i p (and_l _ _ waits))
        (w.quiet.candidates_below i k p q (and_in waits (rw (match.masked i p) at unmasked)))

    module _ (t : ℕ) where
      currents_le : count t currents ≤ count t everything
      currents_le =
          rw (row_cong s.m current (given b (in_boxes s)) (current_given b s w match))
          (placement_count t s.n s.m b s (in_boxes s) (boxes_placed b s w match))

      boxed_shown : (i k : ℕ) → k < s.m → In i k → reach t (request_priority b (suc i)) ≤ shown t k
      boxed_shown i k below x =
          let f : (core_at s k).message.filled ≡ true = holds_filled (suc i) (core_at s k) x in
          rw (f, ← holds_source (suc i) (core_at s k) x, ← (box_priority b s w match k below f).1) (omega arith)

      -- where some core's current priority is below the threshold
      module _ (low : ℕ) (low_below : low < s.m) (is-low : current low < t) where
        -- a configured priority under a filled box isn't counted
        core_shown : (k : ℕ) → k < s.m → reach t (b.core k) + shown t k ≤ reach t (current k)
        core_shown k below = go (flag (core_at s k).message.filled)
          where
            go : Flag (core_at s k).message.filled → reach t (b.core k) + shown t k ≤ reach t (current k)
            go (on f) =
                let covered : b.core k < t = omega (arith, match.core k below, w.quiet.covered_below k low below low_below f) in
                rw f (omega (arith, reach_under t (b.core k) covered))
            go (off f) = rw (f, match.core k below) (omega arith)

        -- a request that is counted lies in a box
        request_shown : (i : ℕ) → i < s.n → Sent s.m (shown t) (In i) (count t (offer i))
        unfolding count
        request_shown i below = go (flag (competes s.n s.m b s (suc i))) (flag (boxed s.cores s.m (suc i)))
          where
            go :
                Flag (competes s.n s.m b s (suc i)) → Flag (boxed s.cores s.m (suc i)) →
                Sent s.m (shown t) (In i) (count t (offer i))
            go (on c) (on x) =
                let k = boxed_out s.cores s.m (suc i) x in
                to k.at k.below k.holds (rw (c, count_one) (boxed_shown i k.at k.below k.holds))
            go (on c) (off x) =
                let settled = unboxed_settled i low below low_below (competes_out s.n s.m b s (suc i) c) x in
                nowhere (rw (c, count_one) (reach_under t (request_priority b (suc i)) (omega arith)))
            go (off c) x = nowhere (rw c)

        everything_le : count t everything ≤ count t currents
        everything_le =
            let cores : ℕ → ℕ = λ k. reach t (b.core k) in
            let offers : ℕ → ℕ = λ i. count t (offer i) in
            let split = total_le (λ k. cores k + shown t k) (λ k. reach t (current k)) s.m core_shown in
            let sent = total_sent s.m In in_apart s.n offers (shown t) request_shown in
            rw (count_row, collection_count) (omega (arith, total_add s.m cores (shown t)))

      currents_ge : min s.m (count t everything) ≤ count t currents
      currents_ge = go (flag (some s.m low))
        where
          low : ℕ → Bool
          low k = ltb (current k) t

          go : Flag (some s.m low) → min s.m (count t everything) ≤ count t currents
          go (on x) =
              let k : Witness s.m low = some_out s.m low x in
              omega (arith, everything_le k.at k.below (ltb-true (current k.at) t k.holds))
          go (off x) =
              let all : (k : ℕ) → k < s.m → t ≤ current k = λ k below. ltb-false (current k) t (some_false_out s.m low x k below) in
              omega (arith, count_row t s.m current, reached_all s.m t current all)

      currents_count : count t currents ≡ min s.m (count t everything)
      currents_count = omega (arith, currents_le, currents_ge, row_count_le t s.m current)

    strict : PriorityStrict s.n s.m b s
    strict =
        record {
          n_same = refl;
          m_same = refl;
          top_m = top_of currents everything s.m (row_length s.m current) (collection_length s.n s.m b s) currents_count;
          boxes_placed = boxes_placed b s w match;
          box_priority = box_priority b s w match;
          current_given = current_given b s w match;
          none_higher = λ P p. sorted_le (row s.m (given b P)) currents
              (λ t. omega (arith, currents_count t, row_count_le t s.m (given b P), placement_count t s.n s.m b s P p));
          fewest_boxes = λ P p. fewest b s w match P;
        }

pub matched_strict : MatchedStrict
matched_strict n m b s w match =
    subst₂ (λ (x y : ℕ). Matches x y b s → PriorityStrict x y b s) match.n_same match.m_same (strict b s w) match
