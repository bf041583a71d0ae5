-- Demand 3 over lists is false of the dummies that document 01 names for it, of controllers whose priorities alone are right, and of one
-- that fills more boxes than need be.
-- Each is refuted by one list of commands from a fresh controller, computed. Assumes nothing.
--   booked         opens what a list of commands and its ledger compute with
--   after, book    the state that a list leaves, and its ledger
use Prim.Native.Nat.{ℕ, zero, suc, ◌<◌, ◌≤◌}
use mathlib.Core.Path.{◌≡◌, refl, ap}
use mathlib.Core.List.{List, [], ◌∷◌, ◌++◌}
use mathlib.Core.Bool.{true, false, cond}
use native.Mathlib.Omega.{arith}
use lib.ListN.{get_or, take}
use lib.Dec.{leb, eqb}
use borrow.Author.Tests.{eqb-false, le-leb, ltb-true}
use Rattle.lists.proofs.Bools.{clash}
use Rattle.model.specs.Ledger.{paired, Ledger, opening, post, post_accepted, ledger, competes, collection, given, in_boxes, current_priorities}
use Rattle.model.specs.Ledger.{request_priority, Placement, placed_by, filled_boxes, entries_by}
use Rattle.lists.specs.Sorting.{insert_down, sort_down}
use Rattle.lists.specs.Rows.{row}
use Rattle.lists.specs.Walks.{tally}
use Rattle.model.specs.Behaviours.{answers_by, Behaviour, run_by}
use Rattle.model.specs.declared.Controller.{Controller}
use Rattle.model.specs.declared.Command.{Command}
use Rattle.model.specs.declared.Command.TheVariants.{OnSource, OnCore}
use Rattle.model.specs.declared.CoreAction.TheVariants.{SetCorePriority}
use Rattle.model.specs.declared.SourceAction.TheVariants.{SetSourcePriority, Unmask, Trigger}
use Rattle.model.specs.Records.{source_id, core_id, core_at}
use Rattle.model.specs.Requests.{current_priority}
use Rattle.model.specs.Commands.{make}
use Rattle.model.specs.Statements.{InRange, EveryListStrict}
use Rattle.model.proofs.Examples.{computed}
use Rattle.theorems.specs.Dummies.{change_nothing, flags_only, hollow, growing, settle_by_number, tie_to_lowest}

unfoldable pub booked : Behaviour → Controller → List Command → Controller
unfolding computed make ledger post post_accepted competes collection insert_down sort_down run_by answers_by paired tally
booked = run_by

module _ (x : Behaviour) (n m : ℕ) (sizes : InRange n m) (cs : List Command) where
  abbrev pub after : Controller
  after = run_by x (make n m).state cs

  abbrev pub book : Ledger
  book = ledger opening (entries_by x (make n m).state cs)

  -- the sorted current priorities differ at place j from the highest of the collection
  not_top :
      (j : ℕ) →
      eqb (get_or (sort_down (current_priorities m after)) j 0) (get_or (take m (sort_down (collection n m book after))) j 0) ≡ false →
      ¬ EveryListStrict x
  not_top j differ h = eqb-false _ _ differ (ap (λ l. get_or l j 0) (h n m cs sizes).top_m)

  -- core k stands elsewhere than its box and the ledger say
  not_given : (k : ℕ) → k < m → eqb (current_priority (core_at after k)) (given book (in_boxes after) k) ≡ false → ¬ EveryListStrict x
  not_given k below differ h = eqb-false _ _ differ ((h n m cs sizes).current_given k below)

  -- a placement shows the same current priorities and gives fewer requests than there are filled boxes
  not_fewest :
      (P : ℕ → ℕ) → Placement n m book after P → sort_down (row m (given book P)) ≡ sort_down (current_priorities m after) →
      leb (filled_boxes m after) (placed_by m P) ≡ false → ¬ EveryListStrict x
  not_fewest P p same fewer h = clash (le-leb _ _ ((h n m cs sizes).fewest_boxes P p same)) fewer

  other_size : eqb after.n n ≡ false → ¬ EveryListStrict x
  other_size differ h = eqb-false _ _ differ (h n m cs sizes).n_same

-- ---- the table's T2 and T3, the two sources set up as they are needed

table : InRange 32 2
table = record { some_source = omega arith; n_le = omega arith; some_core = omega arith; m_le = omega arith }

abbrev up_to_t2 : List Command
up_to_t2 = OnSource (source_id 4) (SetSourcePriority 4) ∷ OnSource (source_id 4) Unmask ∷ OnSource (source_id 4) Trigger ∷ []

abbrev up_to_t3 : List Command
up_to_t3 = OnSource (source_id 3) (SetSourcePriority 3) ∷ OnSource (source_id 3) Unmask ∷ (up_to_t2 ++ (OnSource (source_id 3) Trigger ∷ []))

-- T2: the highest current priority is 0, and 4 waits
pub change_nothing-fails_three : ¬ EveryListStrict change_nothing
unfolding booked
change_nothing-fails_three = not_top change_nothing 32 2 table up_to_t2 0 refl

-- T3: the second current priority is 0, and 3 is in no box
pub flags_only-fails_three : ¬ EveryListStrict flags_only
unfolding booked
flags_only-fails_three = not_top flags_only 32 2 table up_to_t3 1 refl

-- ---- one source and one core

pub smallest : InRange 1 1
smallest = record { some_source = omega arith; n_le = omega arith; some_core = omega arith; m_le = omega arith }

abbrev pub delivery : List Command
delivery = OnSource (source_id 1) Unmask ∷ OnSource (source_id 1) Trigger ∷ []

-- the core's record stands at 1 over an empty box, and the ledger has it at 0
pub hollow_fails_three : ¬ EveryListStrict hollow
unfolding booked
hollow_fails_three = not_given hollow 1 1 smallest delivery 0 (omega arith) refl

-- a second source
pub growing_fails_three : ¬ EveryListStrict growing
unfolding booked
growing_fails_three = other_size growing 1 1 smallest delivery refl

-- ---- document 02's run: cores at 3 and 1, a request of 3, then one of 9

four : InRange 4 2
four = record { some_source = omega arith; n_le = omega arith; some_core = omega arith; m_le = omega arith }

abbrev disturbing : List Command
disturbing =
    OnSource (source_id 1) (SetSourcePriority 3) ∷
    OnSource (source_id 1) Unmask ∷
    OnSource (source_id 2) (SetSourcePriority 9) ∷
    OnSource (source_id 2) Unmask ∷
    OnCore (core_id 0) (SetCorePriority 3) ∷
    OnCore (core_id 1) (SetCorePriority 1) ∷ OnSource (source_id 1) Trigger ∷ OnSource (source_id 2) Trigger ∷ []

-- the request of 9 to core 1, none to core 0
abbrev sparing : ℕ → ℕ
sparing k = cond (eqb k 1) 2 0

sparing_placed : Placement 4 2 (book tie_to_lowest 4 2 four disturbing) (after tie_to_lowest 4 2 four disturbing) sparing
unfolding booked settle_by_number
sparing_placed = record { placed = placed; above = above; once = once }
  where
    placed :
        (k : ℕ) → k < 2 → 1 ≤ sparing k →
        competes 4 2 (book tie_to_lowest 4 2 four disturbing) (after tie_to_lowest 4 2 four disturbing) (sparing k) ≡ true
    placed zero h p = absurd (omega arith)
    placed (suc zero) h p = refl
    placed (suc (suc k)) h p = absurd (omega arith)

    above :
        (k : ℕ) → k < 2 → 1 ≤ sparing k →
        (book tie_to_lowest 4 2 four disturbing).core k < request_priority (book tie_to_lowest 4 2 four disturbing) (sparing k)
    above zero h p = absurd (omega arith)
    above (suc zero) h p = ltb-true _ _ refl
    above (suc (suc k)) h p = absurd (omega arith)

    once : (j k : ℕ) → j < 2 → k < 2 → 1 ≤ sparing j → sparing j ≡ sparing k → j ≡ k
    once zero k h h' p e = absurd (omega arith)
    once (suc zero) zero h h' p e = absurd (omega arith)
    once (suc zero) (suc zero) h h' p e = refl
    once (suc zero) (suc (suc k)) h h' p e = absurd (omega arith)
    once (suc (suc j)) k h h' p e = absurd (omega arith)

-- [9,3] with both boxes filled, where [3,9] fills one
pub tie_to_lowest-fails_three : ¬ EveryListStrict tie_to_lowest
unfolding booked settle_by_number
tie_to_lowest-fails_three = not_fewest tie_to_lowest 4 2 four disturbing sparing sparing_placed refl refl
