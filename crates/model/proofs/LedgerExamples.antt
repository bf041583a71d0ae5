-- The worked pages, collection and placements hold of the definitions. Assumes nothing.
--   pages_read           each page by one computation
--   collected_hold       who competes, the collection, and what placements give
--   placements_told      placements, and neighbours that are none
use Prim.Native.Nat.{ℕ, ◌<◌, ◌≤◌}
use mathlib.Core.Path.{◌≡◌, refl, sym}
use mathlib.Core.Bool.{Bool, true, true≢false}
use native.Mathlib.Omega.{arith}
use Rattle.model.specs.declared.Controller.{Controller}
use Rattle.lists.specs.Walks.{some}
use Rattle.model.specs.Requests.{boxed}
use Rattle.model.specs.Ledger.{Ledger, post_accepted, post, ledger, competes, collection}
use Rattle.lists.specs.Rows.{gather}
use Rattle.lists.specs.Sorting.{insert_down, sort_down}
use Rattle.model.specs.LedgerCases.{all_read, pages, book, boxes, collected, placing, Placed, PlacementsTold}
use Rattle.model.specs.StateCases.{all_hold}
use Rattle.lists.proofs.Walks.{below_suc}

-- To open this name is to open every definition that the ledger computes with.
computed : ℕ → ℕ → Ledger → Controller → ℕ → Bool
unfolding some boxed post_accepted post ledger gather competes collection insert_down sort_down book boxes
computed = competes

pub pages_read : all_read pages ≡ true
unfolding computed all_read pages
pages_read = refl

pub collected_hold : all_hold collected ≡ true
unfolding computed collected
collected_hold = refl

-- ---- placements on two cores

below_two : (P : ℕ → Type 0) → P 0 → P 1 → (k : ℕ) → k < 2 → P k
below_two P a b = below_suc P 1 (below_suc P 0 (λ i h. absurd (omega arith)) a) b

-- none used twice, if the two are told apart
once_two : (P : ℕ → ℕ) → (1 ≤ P 0 → P 0 ≡ P 1 → ⊥) →
    (j k : ℕ) → j < 2 → k < 2 → 1 ≤ P j → P j ≡ P k → j ≡ k
once_two P differ j k h h' =
    below_two (λ i. 1 ≤ P i → P i ≡ P k → i ≡ k)
    (below_two (λ i. 1 ≤ P 0 → P 0 ≡ P i → 0 ≡ i) (λ p e. refl) (λ p e. absurd (differ p e)) k h')
    (below_two (λ i. 1 ≤ P 1 → P 1 ≡ P i → 1 ≡ i) (λ p e. absurd (differ (omega arith) (sym e))) (λ p e. refl) k h')
    j h

both_placed : Placed 2 1
unfolding computed
both_placed =
    record {
      placed = below_two _ (λ h. refl) (λ h. refl);
      above = below_two _ (λ h. omega arith) (λ h. omega arith);
      once = once_two (placing 2 1) (λ h e. omega arith);
    }

none_placed : Placed 0 0
none_placed =
    record {
      placed = below_two _ (λ h. absurd (omega arith)) (λ h. absurd (omega arith));
      above = below_two _ (λ h. absurd (omega arith)) (λ h. absurd (omega arith));
      once = once_two (placing 0 0) (λ h e. omega arith);
    }

pub placements_told : PlacementsTold
unfolding computed
placements_told =
    record {
      both_placed = both_placed;
      none_placed = none_placed;
      not_equal = λ p. omega (arith, p.above 1 (omega arith) (omega arith));
      not_below = λ p. omega (arith, p.above 0 (omega arith) (omega arith));
      not_twice = λ p. omega (arith, p.once 0 1 (omega arith) (omega arith) (omega arith) refl);
      not_masked = λ p. true≢false (sym (p.placed 0 (omega arith) (omega arith)));
      not_claimed = λ p. true≢false (sym (p.placed 0 (omega arith) (omega arith)));
    }
