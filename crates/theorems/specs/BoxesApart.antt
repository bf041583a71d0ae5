-- `PriorityStrict` without its field `current_given`: priorities and boxes are each right, and nothing ties the ones to the others.
-- It shows what that field is for, and no demand rests on it. Definitions only.
use Rattle.std.specs.Prelude.{ℕ, ◌<◌, ◌≤◌, ◌≡◌, true, get_or, take}
use Rattle.model.specs.declared.Controller.{Controller}
use Rattle.model.specs.Records.{core_at}
use Rattle.model.specs.Ledger.{Ledger, collection, Placement, given, in_boxes, request_priority, current_priorities, placed_by, filled_boxes}
use Rattle.lists.specs.Rows.{row}
use Rattle.lists.specs.Sorting.{sort_down}

pub record BoxesApart (n m : ℕ) (b : Ledger) (s : Controller) : Type 0 where
  pub n_same : s.n ≡ n
  pub m_same : s.m ≡ m
  pub top_m : sort_down (current_priorities m s) ≡ take m (sort_down (collection n m b s))
  pub boxes_placed : Placement n m b s (in_boxes s)
  pub box_priority :
      (k : ℕ) → k < m → (core_at s k).message.filled ≡ true →
      (1 ≤ (core_at s k).message.source.0) × ((core_at s k).message.priority ≡ request_priority b (core_at s k).message.source.0)
  pub none_higher :
      (P : ℕ → ℕ) → Placement n m b s P → (j : ℕ) → get_or (sort_down (row m (given b P))) j 0 ≤ get_or (sort_down (current_priorities m s)) j 0
  pub fewest_boxes :
      (P : ℕ → ℕ) → Placement n m b s P → sort_down (row m (given b P)) ≡ sort_down (current_priorities m s) → filled_boxes m s ≤ placed_by m P
