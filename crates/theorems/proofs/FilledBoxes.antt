-- The filled boxes of a sound state that the ledger matches are a placement, and give each core its current priority. Assumes nothing.
--   Held    what the filled box of core k says of the ledger
use Prim.Native.Nat.{ℕ, suc, ◌≤◌, ◌<◌}
use mathlib.Core.Path.{◌≡◌, refl}
use mathlib.Core.Bool.{Bool, true, false, cond, not}
use native.Mathlib.Omega.{arith}
use borrow.Author.Tests.{lt-ltb}
use Rattle.model.specs.declared.Controller.{Controller}
use Rattle.model.specs.Records.{core_at}
use Rattle.model.specs.Requests.{current_priority, boxed}
use Rattle.model.specs.WellFormed.{WellFormed, Holding}
use Rattle.model.specs.Ledger.{Ledger, open_request, competes, request_priority, Placement, given, in_boxes}
use Rattle.lists.proofs.Bools.{or_in_l, Flag, on, off, flag}
use Rattle.model.proofs.Boxes.{holds_in, boxed_in}
use Rattle.effects.proofs.Checked.{by_index}
use Rattle.theorems.specs.Matches.{Matches}
use Rattle.theorems.proofs.Placements.{competes_in}

-- a box that names a source is filled
names_filled : (f : Bool) (id : ℕ) → 1 ≤ cond f id 0 → f ≡ true
names_filled true id p = refl
names_filled false id p = absurd (omega arith)

-- Its source has id i + 1.
record Held (b : Ledger) (s : Controller) (k : ℕ) : Type 0 where
  i : ℕ
  named : (core_at s k).message.source.0 ≡ suc i
  below : i < s.n
  inside : boxed s.cores s.m (suc i) ≡ true
  request : b.request (suc i) ≡ open_request (core_at s k).message.priority
  above : (core_at s k).configured < (core_at s k).message.priority

module _ (b : Ledger) (s : Controller) (w : WellFormed s) (match : Matches s.n s.m b s) where
  module _ (k : ℕ) (below : k < s.m) (f : (core_at s k).message.filled ≡ true) where
    backed : Holding s (core_at s k)
    backed = w.consistent.backed k below f

    held_by_lem : (i : ℕ) → i < s.n → (core_at s k).message.source.0 ≡ suc i → Held b s k
    held_by_lem i p e =
        let inside : boxed s.cores s.m (suc i) ≡ true
        = boxed_in s.cores s.m (suc i) k below (holds_in (suc i) (core_at s k) f e) in
        record {
          i = i;
          named = e;
          below = p;
          inside = inside;
          request =
              rw (match.request i p, rw e at backed.pending, rw e at backed.delivered, inside, rw e at backed.same_priority);
          above = backed.above (w.clean k below);
        }

    held : Held b s k
    held =
        by_index (λ x. (core_at s k).message.source.0 ≡ x → Held b s k) held_by_lem (core_at s k).message.source.0
        (backed.some_id, backed.id_le) refl

  pub current_given : (k : ℕ) → k < s.m → current_priority (core_at s k) ≡ given b (in_boxes s) k
  current_given k below = go (flag (core_at s k).message.filled)
    where
      go : Flag (core_at s k).message.filled → current_priority (core_at s k) ≡ given b (in_boxes s) k
      go (on f) = let h : Held b s k = held k below f in rw (f, h.named, lt-ltb 0 (suc h.i) (omega arith), h.request)
      go (off f) = rw (f, match.core k below)

  pub box_priority :
      (k : ℕ) → k < s.m → (core_at s k).message.filled ≡ true →
      (1 ≤ (core_at s k).message.source.0) × ((core_at s k).message.priority ≡ request_priority b (core_at s k).message.source.0)
  box_priority k below f = let h : Held b s k = held k below f in rw (h.named, h.request) (omega arith, refl)

  filled : (k : ℕ) → 1 ≤ in_boxes s k → (core_at s k).message.filled ≡ true
  filled k p = names_filled (core_at s k).message.filled (core_at s k).message.source.0 p

  pub boxes_placed : Placement s.n s.m b s (in_boxes s)
  boxes_placed = record { placed = placed; above = above; once = once }
    where
      placed : (k : ℕ) → k < s.m → 1 ≤ in_boxes s k → competes s.n s.m b s (in_boxes s k) ≡ true
      placed k below p =
          let h : Held b s k = held k below (filled k p) in
          rw (filled k p, h.named)
          (competes_in s.n s.m b s (suc h.i)
          (record {
            some_id = omega arith;
            id_le = h.below;
            request_open = rw h.request;
            placed = or_in_l (not (b.masked (suc h.i))) h.inside;
          }))

      above : (k : ℕ) → k < s.m → 1 ≤ in_boxes s k → b.core k < request_priority b (in_boxes s k)
      above k below p =
          let h : Held b s k = held k below (filled k p) in
          rw (filled k p, h.named, h.request, match.core k below) h.above

      once : (j k : ℕ) → j < s.m → k < s.m → 1 ≤ in_boxes s j → in_boxes s j ≡ in_boxes s k → j ≡ k
      once j k x y p e =
          let q : 1 ≤ in_boxes s k = omega arith in
          w.consistent.distinct j k x y (filled j p) (filled k q) (rw (filled j p, filled k q) at e)
