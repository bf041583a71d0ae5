-- The retractions after set core priority, on boxes that were never marked as dirty: no mark needs to be written. Assumes nothing.
--   soiled_core, soiled_retract      the cores of a state with every filled box dirty; a retraction there writes the same record
--   soiled_none                      where no box is filled and none is dirty, nothing is left to mark
--   Emptying s b g x k               the boxes below k are empty, x of them since the retractions began from s
--   emptying_none, -filled, -empty, -all    before the first turn, after a turn, and after the last
use Prim.Native.Nat.{ℕ, zero, suc, ◌+◌, ◌<◌, ◌≤◌}
use mathlib.Core.Path.{◌≡◌, refl, sym, ap, ap₂, subst, ◌∙◌}
use mathlib.Core.List.{List, [], ◌∷◌, map}
use mathlib.Core.Bool.{true, false}
use lib.ListN.{length, get_or, set, get_or-map}
use native.Mathlib.Omega.{arith}
use native.Mathlib.Decide.{ℕ_discrete, dec_lt}
use Rattle.model.specs.declared.Core.{Core}
use Rattle.model.specs.declared.Controller.{Controller}
use Rattle.model.specs.Records.{max_cores, no_core, empty_box, box_with, core_with, core_at, with_sources, with_core, with_cores}
use Rattle.model.specs.Commands.{soiled}
use Rattle.model.specs.WellFormed.{Holding}
use Rattle.model.specs.Settling.{put_back, retract}
use Rattle.settling.specs.Phases.{AllDirty}
use Rattle.settling.specs.Runs.{AfterRetractions}
use Rattle.settling.proofs.Writes.{core_retract_same, core_retract_other}
use Rattle.settling.proofs.Forward.{ran_m}
use Rattle.settling.proofs.Retracting.{Retracting, retracting_none, retracting_clean, retracting_dirty, retracting_all}
use Rattle.layout.specs.Bytes.{core_from, state_from}
use Rattle.in_place.specs.declared.Ranking.{Ranking}
use Rattle.in_place.specs.Held.{core_place, Held, NamesSource, Retracts}
use Rattle.in_place.proofs.Stored.{held_back, held_here, read_core}
use Rattle.core_steps.specs.Phases.{soiled_all, AllClean, Soiled, Emptied}

-- ---- marks

map_set : {A B : Type 0} (f : A → B) (l : List A) (k : ℕ) (x : A) → map f (set l k x) ≡ set (map f l) k (f x)
map_set f [] k x = refl
map_set f (y ∷ ys) zero x = refl
map_set {B = B} f (y ∷ ys) (suc k) x = ap (λ (l : List B). f y ∷ l) (map_set f ys k x)

map_same : {A : Type 0} (f : A → A) (d : A) (l : List A) → ((k : ℕ) → k < length l → f (get_or l k d) ≡ get_or l k d) → map f l ≡ l
map_same f d [] each = refl
map_same f d (x ∷ l) each = ap₂ ◌∷◌ (each zero (omega arith)) (map_same f d l (λ k h. each (suc k) (omega arith)))

soiled_core : (u : Controller) (k : ℕ) → core_at (soiled_all u) k ≡ soiled (core_at u k)
soiled_core u k = get_or-map soiled u.cores k no_core

soiled_retract : (u : Controller) (k : ℕ) → retract (soiled_all u) k ≡ soiled_all (retract u k)
unfolding retract
soiled_retract u k =
    ap (λ (c : Core).
    with_core (with_sources (soiled_all u) (put_back c.message u.sources)) k (core_with c.configured empty_box)) (soiled_core u k) ∙
    ap (with_cores (with_sources u (put_back (core_at u k).message u.sources)))
    (sym (map_set soiled u.cores k (core_with (core_at u k).configured empty_box)))

-- a box that is neither filled nor dirty has no mark to get
unmarked : (c : Core) → c.message.filled ≡ false → c.message.dirty ≡ false → soiled c ≡ c
unmarked c empty clean =
    let box = c.message in
    ap (λ (t : _). core_with c.configured (box_with box.filled t box.source box.priority)) (empty ∙ sym clean)

soiled_none :
    (u : Controller) → AllClean u → ((k : ℕ) → k < length u.cores → (core_at u k).message.filled ≡ false) → soiled_all u ≡ u
soiled_none u clean empty =
    ap (with_cores u) (map_same soiled no_core u.cores (λ k h. unmarked (core_at u k) (empty k h) (clean k)))

all_dirty : (u : Controller) → AllDirty (soiled_all u)
all_dirty u k h f = rw (soiled_core u k) (rw (soiled_core u k) at f)

clean_retract : (u : Controller) (k : ℕ) → k < length u.cores → AllClean u → AllClean (retract u k)
clean_retract u k inside clean j = go (ℕ_discrete j k)
  where
    go : Dec (j ≡ k) → (core_at (retract u k) j).message.dirty ≡ false
    go (yes e) = rw (e, core_retract_same u k inside)
    go (no e) = rw (core_retract_other u k j e) (clean j)

-- ---- the loop

pub record Emptying (s : Controller) (b : List ℕ) (g : Ranking) (x k : ℕ) : Type 0 where
  pub held : Held (state_from b) b g
  pub clean : AllClean (state_from b)
  pub turn : Retracting (soiled_all s) (soiled_all (state_from b)) x k

pub emptying_none : {b : List ℕ} {g : Ranking} → Soiled b g → Emptying (state_from b) b g 0 0
emptying_none {b} p =
    record {
      held = p.held;
      clean = p.clean;
      turn = retracting_none (soiled_all (state_from b)) p.consistent (all_dirty (state_from b));
    }

-- the same by other names
pub emptying_by :
    {s : Controller} {b b' : List ℕ} {g g' : Ranking} {x x' k : ℕ} → Emptying s b g x k → b' ≡ b → g' ≡ g → x' ≡ x →
    Emptying s b' g' x' k
emptying_by e p q r = rw (p, q, r) e

module _ {s : Controller} {b : List ℕ} {g : Ranking} {x k m : ℕ} (e : Emptying s b g x k) (sized : m ≡ s.m) (k_lt : k < m) where
  abbrev u : Controller
  u = state_from b

  below : k < s.m
  below = omega arith

  in_use : k < u.m
  in_use = omega (arith, ran_m e.turn.ran)

  pub core_inside : k < max_cores
  core_inside = omega (arith, in_use, e.turn.consistent.m_le)

  -- c is the record that is read
  module _ {c : Core} (read : c ≡ core_from b (core_place k)) where
    is : c ≡ core_at u k
    is = read ∙ read_core e.held k core_inside

    marked : (core_at (soiled_all u) k).message.dirty ≡ c.message.filled
    marked = rw (soiled_core u k, is)

    pub box_names : NamesSource c.message
    box_names f =
        let filled : (core_at (soiled_all u) k).message.filled ≡ true = rw (soiled_core u k, ← is) f in
        let held : Holding (soiled_all u) (core_at (soiled_all u) k) = e.turn.consistent.backed k in_use filled in
        let same : (core_at (soiled_all u) k).message.source.0 ≡ c.message.source.0 = rw (soiled_core u k, ← is) in
        (omega (arith, held.some_id, same), omega (arith, held.id_le, same, e.turn.consistent.n_le))

    pub emptying_filled :
        c.message.filled ≡ true → {b' : List ℕ} {g' : Ranking} → Retracts k c b g b' g' → Emptying s b' g' (x + 1) (k + 1)
    emptying_filled f {b'} {g'} done =
        let after : Held (retract u k) b' g' = done u e.held is in
        let more : Retracting (soiled_all s) (retract (soiled_all u) k) (x + 1) (k + 1) =
        retracting_dirty (soiled_all s) (soiled_all u) x k e.turn below (marked ∙ f) in
        record {
          held = held_here after;
          clean =
              subst AllClean (sym (held_back after))
              (clean_retract u k (omega (arith, core_inside, e.held.sized.cores)) e.clean);
          turn =
              subst (λ (v : Controller). Retracting (soiled_all s) v (x + 1) (k + 1))
              (soiled_retract u k ∙ ap soiled_all (sym (held_back after))) more;
        }

    pub emptying_empty : c.message.filled ≡ false → Emptying s b g x (k + 1)
    emptying_empty f =
        record {
          held = e.held;
          clean = e.clean;
          turn = retracting_clean (soiled_all s) (soiled_all u) x k e.turn below (marked ∙ f);
        }

pub emptying_all :
    {b b' : List ℕ} {g : Ranking} {x k : ℕ} → Emptying (state_from b) b' g x k → (state_from b).m ≤ k → Emptied b x b' g
emptying_all {b} {b'} {g} {x} {k} e all =
    let u : Controller = state_from b' in
    let after : AfterRetractions (soiled_all (state_from b)) (soiled_all u) x =
    retracting_all (soiled_all (state_from b)) (soiled_all u) x k e.turn all in
    record {
      held = e.held;
      after =
          subst (λ (v : Controller). AfterRetractions (soiled_all (state_from b)) v x)
          (soiled_none u e.clean (λ j h. empty j h (dec_lt j u.m))) after;
    }
  where
    empty : (j : ℕ) → j < length (state_from b').cores → Dec (j < (state_from b').m) → (core_at (state_from b') j).message.filled ≡ false
    empty j h (yes p) =
        sym (ap (λ (c : Core). c.message.dirty) (soiled_core (state_from b') j)) ∙ e.turn.clean j (omega (arith, ran_m e.turn.ran))
    empty j h (no p) =
        ap (λ (c : Core). c.message.filled)
        (sym (soiled_core (state_from b') j) ∙ e.turn.consistent.spare_core j (omega arith) (omega (arith, h, e.held.sized.cores)))
