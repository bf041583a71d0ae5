-- The hollow controller's state after unmask 1, trigger 1 has every property of demand 3 but `current_given`. Assumes nothing.
use Prim.Native.Nat.{ℕ, zero, suc, ◌<◌, ◌≤◌}
use mathlib.Core.Path.{◌≡◌, refl}
use mathlib.Core.Bool.{Bool, true, false, cond}
use native.Mathlib.Omega.{arith}
use lib.ListN.{get_or}
use lib.Dec.{ltb, eqb}
use Rattle.model.specs.declared.Controller.{Controller}
use Rattle.model.specs.Records.{core_at}
use Rattle.model.specs.Ledger.{Ledger, no_request, open_request, priority_of, given, in_boxes, current_priorities}
use Rattle.lists.specs.Rows.{row}
use Rattle.lists.specs.Sorting.{sort_down}
use Rattle.lists.proofs.Bools.{clash}
use Rattle.theorems.specs.Dummies.{hollow}
use Rattle.theorems.specs.BoxesApart.{BoxesApart}
use Rattle.theorems.proofs.FailsThree.{booked, after, book, smallest, delivery}

abbrev state : Controller
state = after hollow 1 1 smallest delivery

abbrev kept : Ledger
kept = book hollow 1 1 smallest delivery

-- no box is filled
empty : (k : ℕ) → k < 1 → (core_at state k).message.filled ≡ false
unfolding booked
empty zero below = refl
empty (suc k) below = absurd (omega arith)

nowhere : (k : ℕ) → k < 1 → in_boxes state k ≡ 0
nowhere k below = rw (empty k below)

-- the one request has priority 1, the core is configured at 0
given_le : (placed named : Bool) → cond placed (priority_of (cond named (open_request 1) no_request)) 0 ≤ 1
given_le true true = omega arith
given_le true false = omega arith
given_le false named = omega arith

none_higher : (P : ℕ → ℕ) (j : ℕ) → get_or (sort_down (row 1 (given kept P))) j 0 ≤ get_or (sort_down (current_priorities 1 state)) j 0
unfolding booked
none_higher P zero = given_le (ltb 0 (P 0)) (eqb (P 0) 1)
none_higher P (suc j) = omega arith

pub hollow_otherwise : BoxesApart 1 1 kept state
unfolding booked
hollow_otherwise =
    record {
      n_same = refl;
      m_same = refl;
      top_m = refl;
      boxes_placed =
          record {
            placed = λ k below named. absurd (omega (arith, nowhere k below));
            above = λ k below named. absurd (omega (arith, nowhere k below));
            once = λ j k p q named e. absurd (omega (arith, nowhere j p));
          };
      box_priority = λ k below f. clash f (empty k below);
      none_higher = λ P p. none_higher P;
      fewest_boxes = λ P p e. omega arith;
    }
