-- No placement with the same current priorities, sorted, gives fewer requests than a sound state has filled boxes. Assumes nothing.
-- No covered priority reaches the threshold that is one above the greatest of them, and every filled box does. So as many cores reach
-- it as there are filled boxes, and besides those whose configured priority does; a placement that gives fewer requests falls short.
use Prim.Native.Nat.{ℕ, suc, ◌+◌, ◌<◌, ◌≤◌}
use mathlib.Core.Path.{◌≡◌, sym}
use mathlib.Core.Bool.{Bool, true, false, cond}
use native.Mathlib.Omega.{arith}
use lib.Dec.{ltb}
use Rattle.model.specs.declared.Controller.{Controller}
use Rattle.model.specs.Records.{core_at}
use Rattle.model.specs.Requests.{current_priority}
use Rattle.model.specs.WellFormed.{WellFormed}
use Rattle.model.specs.Ledger.{Ledger, given, current_priorities, request_priority, placed_by, filled_boxes}
use Rattle.lists.specs.Rows.{row}
use Rattle.lists.specs.Sorting.{sort_down}
use Rattle.lists.proofs.Bools.{Flag, on, off, flag}
use Rattle.lists.proofs.Counting.{total, total_le, total_add, tally_total, reach, reach_up, reach_under, Reach, up, under, reach_cases}
use Rattle.lists.proofs.Counts.{count, count_row}
use Rattle.lists.proofs.Sorting.{sorted_count}
use Rattle.well_formed.specs.Survey.{greatest, covered_priority}
use Rattle.well_formed.proofs.Verdict.{greatest_le, greatest_lt}
use Rattle.theorems.specs.Matches.{Matches}

abbrev one : Bool → ℕ
one b = cond b 1 0

module _ (b : Ledger) (s : Controller) (w : WellFormed s) (match : Matches s.n s.m b s) where
  abbrev filled : ℕ → Bool
  filled k = (core_at s k).message.filled

  abbrev current : ℕ → ℕ
  current k = current_priority (core_at s k)

  abbrev covered : ℕ → ℕ
  covered k = covered_priority (core_at s k)

  -- one above the greatest covered priority
  abbrev bar : ℕ
  bar = suc (greatest s.m covered)

  under_box : (j k : ℕ) → j < s.m → k < s.m → filled k ≡ true → covered j < (core_at s k).message.priority
  under_box j k h h' v = go (flag (filled j))
    where
      go : Flag (filled j) → covered j < (core_at s k).message.priority
      go (on u) = rw u (w.frugal j k h h' u v)
      go (off u) = rw u (omega (arith, w.frugal k k h' h' v v))

  -- a filled box reaches it, and what is under the box does not
  box_reaches : (k : ℕ) → k < s.m → filled k ≡ true → bar ≤ current k
  box_reaches k h v =
      rw v
      (greatest_lt s.m covered (core_at s k).message.priority (omega (arith, under_box k k h h v))
      (λ j p. under_box j k p h v))

  covered_under : (k : ℕ) → k < s.m → filled k ≡ true → (core_at s k).configured < bar
  covered_under k h v =
      let le : (core_at s k).configured ≤ greatest s.m covered = rw v at (greatest_le s.m covered k h) in
      omega arith

  shown : (k : ℕ) → k < s.m → one (filled k) + reach bar (b.core k) ≤ reach bar (current k)
  shown k h = go (flag (filled k))
    where
      go : Flag (filled k) → one (filled k) + reach bar (b.core k) ≤ reach bar (current k)
      go (on v) =
          let none : reach bar (b.core k) ≡ 0 = reach_under bar (b.core k) (omega (arith, match.core k h, covered_under k h v)) in
          let all : reach bar (current k) ≡ 1 = reach_up bar (current k) (box_reaches k h v) in
          rw (none, all, v) (omega arith)
      go (off v) = rw (v, match.core k h) (omega arith)

  module _ (P : ℕ → ℕ) where
    abbrev placed : ℕ → Bool
    placed k = ltb 0 (P k)

    gives : (k : ℕ) → reach bar (given b P k) ≤ one (placed k) + reach bar (b.core k)
    gives k = go (placed k)
      where
        go : (y : Bool) → reach bar (cond y (request_priority b (P k)) (b.core k)) ≤ one y + reach bar (b.core k)
        go true = at_most (reach_cases bar (request_priority b (P k)))
          where
            at_most : Reach bar (request_priority b (P k)) → reach bar (request_priority b (P k)) ≤ 1 + reach bar (b.core k)
            at_most (up p e) = omega arith
            at_most (under p e) = omega arith
        go false = omega arith

    pub fewest : sort_down (row s.m (given b P)) ≡ sort_down (current_priorities s.m s) → filled_boxes s.m s ≤ placed_by s.m P
    fewest same =
        let m : ℕ = s.m in
        let cores : ℕ → ℕ = λ k. reach bar (b.core k) in
        let boxes : ℕ → ℕ = λ k. one (filled k) in
        let requests : ℕ → ℕ = λ k. one (placed k) in
        let low = total_le (λ k. boxes k + cores k) (λ k. reach bar (current k)) m shown in
        let high = total_le (λ k. reach bar (given b P k)) (λ k. requests k + cores k) m (λ k h. gives k) in
        let level = sorted_count (row m (given b P)) (current_priorities m s) same bar in
        let left : total m (λ k. reach bar (current k)) ≡ count bar (current_priorities m s) = sym (count_row bar m current) in
        let right : total m (λ k. reach bar (given b P k)) ≡ count bar (row m (given b P)) = sym (count_row bar m (given b P)) in
        rw (tally_total, tally_total) (omega (arith, low, high, level, left, right, total_add m boxes cores, total_add m requests cores))
