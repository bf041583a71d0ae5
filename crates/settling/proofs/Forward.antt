-- A run of cycles cut in two: the state after a + b cycles is that after b more cycles, and what was counted adds up. Assumes nothing.
--   settle_add, count_of-add, cycles_of-add    the laws
--   settle_beyond, count_of-beyond            once at rest, longer runs come to the same state and count the same
--   cycles_of-le                              a cycle counts at most once, so where each is of one kind nothing else is counted
--   Ran kind s state t                       state is s after t cycles, each of that kind: what both loops of settling keep
--   ran_none, ran_more, ran_n, ran_m         no cycle, and one cycle more; the sizes stay
use Prim.Native.Nat.{ℕ, zero, suc, ◌+◌, ◌-◌, ◌≤◌}
use mathlib.Core.Path.{◌≡◌, refl, sym, ap, ◌∙◌}
use native.Mathlib.Omega.{arith}
use native.Mathlib.Nat.{zero-add, suc-add}
use Rattle.model.specs.declared.Controller.{Controller}
use Rattle.model.specs.declared.Cycle.{Cycle}
use Rattle.model.specs.declared.Cycle.TheVariants.{Rest, Retract, Deliver}
use Rattle.model.specs.Settling.{next, apply, cycle, settle, is_retraction, is_delivery, count_of, cycles_of}
use Rattle.settling.proofs.Keeps.{settling_leaves_bare, kept_n, kept_m}
use Rattle.settling.proofs.Run.{cycle_is, settle_rest, count_rest}

pub settle_add : (a b : ℕ) (s : Controller) → settle (a + b) s ≡ settle b (settle a s)
unfolding settle
settle_add zero b s = rw zero-add
settle_add (suc a) b s = rw suc-add (settle_add a b (cycle s))

pub count_of-add : (kind : Cycle → ℕ) (a b : ℕ) (s : Controller) → count_of kind (a + b) s ≡ count_of kind a s + count_of kind b (settle a s)
unfolding settle count_of
count_of-add kind zero b s = rw (zero-add b) (omega arith)
count_of-add kind (suc a) b s = rw suc-add (omega (arith, count_of-add kind a b (cycle s)))

pub cycles_of-add : (a b : ℕ) (s : Controller) → cycles_of (a + b) s ≡ cycles_of a s + cycles_of b (settle a s)
unfolding cycles_of
cycles_of-add a b s = omega (arith, count_of-add is_retraction a b s, count_of-add is_delivery a b s)

-- ---- a run that is at rest after t cycles, and a longer one

module _ (s : Controller) (t : ℕ) (rests : next (settle t s) ≡ Rest) (f : ℕ) (more : t ≤ f) where
  split : t + (f - t) ≡ f
  split = omega arith

  pub settle_beyond : settle f s ≡ settle t s
  settle_beyond = rw split at (settle_add t (f - t) s ∙ settle_rest (settle t s) rests (f - t))

  pub count_of-beyond : (kind : Cycle → ℕ) → kind Rest ≡ 0 → count_of kind f s ≡ count_of kind t s
  count_of-beyond kind none =
      omega (arith, ap (λ (g : ℕ). count_of kind g s) split, count_of-add kind t (f - t) s, count_rest (settle t s) rests kind none (f - t))

  pub cycles_of-beyond : cycles_of f s ≡ cycles_of t s
  unfolding cycles_of
  cycles_of-beyond = omega (arith, count_of-beyond is_retraction refl, count_of-beyond is_delivery refl)

-- ---- a cycle counts at most once

one_kind : (c : Cycle) → is_retraction c + is_delivery c ≤ 1
one_kind Rest = omega arith
one_kind (Retract k) = omega arith
one_kind (Deliver id k) = omega arith

pub cycles_of-le : (t : ℕ) (s : Controller) → cycles_of t s ≤ t
unfolding count_of cycles_of
cycles_of-le zero s = omega arith
cycles_of-le (suc t) s = omega (arith, one_kind (next s), cycles_of-le t (cycle s))

-- ---- a run of cycles of one kind

pub record Ran (kind : Cycle → ℕ) (s state : Controller) (t : ℕ) : Type 0 where
  pub state_is : state ≡ settle t s
  pub counted : count_of kind t s ≡ t

pub ran_none : (kind : Cycle → ℕ) (s : Controller) → Ran kind s s 0
unfolding settle count_of
ran_none kind s = record { state_is = refl; counted = refl }

count_of-one : (kind : Cycle → ℕ) (s : Controller) → count_of kind 1 s ≡ kind (next s)
unfolding count_of
count_of-one kind s = omega arith

pub ran_more :
    {kind : Cycle → ℕ} {s state : Controller} {t : ℕ} → Ran kind s state t → (c : Cycle) → next state ≡ c → kind c ≡ 1 →
    Ran kind s (apply c state) (t + 1)
unfolding settle
ran_more {kind} {s} {state} {t} r c e counts =
    record {
      state_is = rw settle_add (sym (cycle_is state c e) ∙ ap cycle r.state_is);
      counted = rw (count_of-add, ← r.state_is, count_of-one, e) (omega (arith, r.counted));
    }

-- the sizes stay
module _ {kind : Cycle → ℕ} {s state : Controller} {t : ℕ} (r : Ran kind s state t) where
  pub ran_n : state.n ≡ s.n
  ran_n = rw r.state_is (kept_n s (settle t s) (settling_leaves_bare t s))

  pub ran_m : state.m ≡ s.m
  ran_m = rw r.state_is (kept_m s (settle t s) (settling_leaves_bare t s))
