-- What the loop over the cores keeps of the cores below k: where it begins, and one turn. Assumes nothing.
--   Boxes s seen k             they are sound, and `seen` marks the sources in their boxes
--   marked_twice               the next core's source lies in an earlier box
--   filled_turn, empty_turn    one core more, with a filled box and with an empty one
--   cores_begin, cores_more    what they show of the whole
use Prim.Native.Nat.{ℕ, suc, ◌+◌, ◌-◌, ◌<◌, ◌≤◌, min}
use mathlib.Core.Path.{◌≡◌, refl, sym, ◌∙◌, ap}
use mathlib.Core.List.{List}
use mathlib.Core.Bool.{Bool, true, false, cond, ◌||◌, or-false, and-false}
use native.Mathlib.Omega.{arith}
use native.Mathlib.Numerals.{add-one}
use native.Mathlib.Decide.{ℕ_discrete}
use native.Mathlib.Nat.{le_of_lt}
use lib.ListN.{length, get_or, set, replicate, length-set, length-replicate, get_or-replicate}
use lib.Seq.{get_or-set_same, get_or-set_other}
use borrow.Author.Count.{below_more}
use borrow.Author.Tests.{ne_eqb, ltb-true, ltb-false}
use Rattle.model.specs.declared.Core.{Core}
use Rattle.model.specs.declared.Controller.{Controller}
use Rattle.model.specs.Records.{max_sources, no_core, core_at}
use Rattle.model.specs.Priorities.{top_priority}
use Rattle.lists.specs.Walks.{every, some, walk}
use Rattle.model.specs.Requests.{current_priority, holds, boxed}
use Rattle.model.specs.Arbitration.{lower, least, least_priority}
use Rattle.arbitration.proofs.LeastCore.{key_le}
use Rattle.well_formed.specs.Survey.{survey_with, unboxed, greatest, lowest}
use Rattle.well_formed.specs.Loops.{with_core, cores_to}
use Rattle.lists.proofs.Bools.{or_in_r}
use Rattle.model.proofs.Boxes.{holds_in, holds_filled, holds_source, boxed_out}
use Rattle.well_formed.proofs.Cores.{CoreNames, CoreSound, id_at, backed_at, filled_sound, empty_sound}

-- ---- one box more

boxed_more : (l : List Core) (k id : ℕ) → boxed l (k + 1) id ≡ boxed l k id || holds id (get_or l k no_core)
unfolding boxed some
boxed_more l k id = rw add-one

boxed_here : (l : List Core) (k id : ℕ) → holds id (get_or l k no_core) ≡ true → boxed l (k + 1) id ≡ true
boxed_here l k id e = boxed_more l k id ∙ or_in_r (boxed l k id) e

boxed_same : (l : List Core) (k id : ℕ) → holds id (get_or l k no_core) ≡ false → boxed l (k + 1) id ≡ boxed l k id
boxed_same l k id e = boxed_more l k id ∙ rw (e, or-false)

holds_other : (id : ℕ) (c : Core) → (c.message.source.0 ≡ id → ⊥) → holds id c ≡ false
holds_other id c h = rw (ne_eqb c.message.source.0 id h, and-false)

holds_empty : (id : ℕ) (c : Core) → c.message.filled ≡ false → holds id c ≡ false
holds_empty id c e = rw e

-- ---- the boxes

pub record Boxes (s : Controller) (seen : List Bool) (k : ℕ) : Type 0 where
  pub sound : (j : ℕ) → j < k → CoreSound s j
  pub seen_length : length seen ≡ max_sources
  pub marked : (i : ℕ) → i < max_sources → get_or seen i false ≡ boxed s.cores k (suc i)

pub boxes_begin : (s : Controller) → Boxes s (replicate max_sources false) 0
unfolding boxed some
boxes_begin s =
    record {
      sound = λ j h. absurd (omega arith);
      seen_length = length-replicate max_sources false;
      marked = λ i h. get_or-replicate max_sources i false false h;
    }

module _ {s : Controller} {seen : List Bool} {k : ℕ} (b : Boxes s seen k) (some_id : 1 ≤ id_at s k) (id_le : id_at s k ≤ max_sources) where
  mark_is : get_or seen (id_at s k - 1) false ≡ boxed s.cores k (id_at s k)
  mark_is =
      let e : suc (id_at s k - 1) ≡ id_at s k = omega arith in
      b.marked (id_at s k - 1) (omega arith) ∙ ap (boxed s.cores k) e

  unmarked : get_or seen (id_at s k - 1) false ≡ false → boxed s.cores k (id_at s k) ≡ false
  unmarked e = sym mark_is ∙ e

  -- an earlier box names the source
  pub marked_twice : CoreSound s k → (core_at s k).message.filled ≡ true → get_or seen (id_at s k - 1) false ≡ true → ⊥
  marked_twice o f e =
      let w = boxed_out s.cores k (id_at s k) (sym mark_is ∙ e) in
      o.apart w.at w.below
      (record {
        left = holds_filled (id_at s k) (core_at s w.at) w.holds;
        right = f;
        source = holds_source (id_at s k) (core_at s w.at) w.holds;
      })

module _ {s : Controller} {seen : List Bool} {k : ℕ} (b : Boxes s seen k) (o : CoreSound s k) where
  boxes_empty : (core_at s k).message.filled ≡ false → Boxes s seen (k + 1)
  boxes_empty e =
      record {
        sound = below_more (CoreSound s) k b.sound o;
        seen_length = b.seen_length;
        marked = λ i h. b.marked i h ∙ sym (boxed_same s.cores k (suc i) (holds_empty (suc i) (core_at s k) e));
      }

  module _ (e : (core_at s k).message.filled ≡ true) (some_id : 1 ≤ id_at s k) (id_le : id_at s k ≤ max_sources) where
    marked_more : (i : ℕ) → i < max_sources → get_or (set seen (id_at s k - 1) true) i false ≡ boxed s.cores (k + 1) (suc i)
    marked_more i h = go (ℕ_discrete i (id_at s k - 1))
      where
        go : Dec (i ≡ id_at s k - 1) → get_or (set seen (id_at s k - 1) true) i false ≡ boxed s.cores (k + 1) (suc i)
        go (yes p) =
            ap (λ (j : ℕ). get_or (set seen (id_at s k - 1) true) j false) p ∙
            get_or-set_same seen (id_at s k - 1) true false (omega (arith, b.seen_length)) ∙
            sym (boxed_here s.cores k (suc i) (holds_in (suc i) (core_at s k) e (omega arith)))
        go (no p) =
            get_or-set_other seen (id_at s k - 1) i true false p ∙
            b.marked i h ∙ sym (boxed_same s.cores k (suc i) (holds_other (suc i) (core_at s k) (λ q. p (omega arith))))

    boxes_filled : Boxes s (set seen (id_at s k - 1) true) (k + 1)
    boxes_filled =
        record {
          sound = below_more (CoreSound s) k b.sound o;
          seen_length = length-set seen (id_at s k - 1) true ∙ b.seen_length;
          marked = marked_more;
        }

-- ---- one turn, from its tests

module _ {s : Controller} {seen next : List Bool} {k : ℕ} (b : Boxes s seen k)
    (f : CoreNames s.n (top_priority s.n) (core_at s k)) where
  pub empty_turn : (core_at s k).message.filled ≡ false → next ≡ seen → Boxes s next (k + 1)
  empty_turn e x = rw x (boxes_empty b (empty_sound s k f e) e)

  pub filled_turn : s.n ≤ max_sources → (core_at s k).message.filled ≡ true →
      get_or seen (id_at s k - 1) false ≡ false → backed_at s k ≡ true → next ≡ set seen (id_at s k - 1) true → Boxes s next (k + 1)
  filled_turn h e u g x =
      let (some_id, id_le) = f.1 e in
      let small : id_at s k ≤ max_sources = omega arith in
      let o = filled_sound s k f e (unmarked b some_id small u) g in
      rw x (boxes_filled b o e some_id small)

-- ---- what the cores show

module _ (l : List Core) where
  abbrev current_at : ℕ → ℕ
  current_at k = current_priority (get_or l k no_core)

  -- of two cores the one with the lower key has the lower current priority, or the same
  winner_min : (w k : ℕ) (y : Bool) → lower l k w ≡ y → current_at (cond y k w) ≡ min (current_at w) (current_at k)
  winner_min w k true e =
      omega (arith, key_le (get_or l k no_core) (get_or l w no_core) (le_of_lt (ltb-true _ _ e)))
  winner_min w k false e = omega (arith, key_le (get_or l w no_core) (get_or l k no_core) (ltb-false _ _ e))

  least_more : (k : ℕ) → least_priority l (suc k) ≡ min (least_priority l k) (current_at k)
  unfolding least_priority least walk
  least_more k = winner_min (least l k) k _ refl

  pub cores_begin : survey_with true (current_at 0) 0 unboxed 0 ≡ cores_to l 0
  unfolding every greatest lowest least_priority least walk
  cores_begin = refl

  pub cores_more : (k : ℕ) → with_core (cores_to l k) (get_or l k no_core) ≡ cores_to l (k + 1)
  unfolding with_core every greatest lowest
  cores_more k = rw (add-one, least_more k)
