-- What each call answers and writes, from what the functions that it calls hand back. Assumes nothing.
--   make_unfit, make_refused, make_done    `make_routines_call`
--   call_unread, call_went                 `routine_call`
use Prim.Native.Nat.{ℕ}
use mathlib.Core.Path.{◌≡◌, refl, ◌∙◌, subst}
use mathlib.Core.Logic.{◌≢◌}
use mathlib.Core.List.{List}
use mathlib.Core.Bool.{true, false, and-false}
use lib.ListN.{length, replicate}
use native.Mathlib.Omega.{arith}
use borrow.Author.Tests.{eq-eqb, ne_eqb}
use Rattle.std.proofs.Common.{Option, ◌⊎◌, inl, inr}
use Rattle.lists.proofs.Bools.{and_in}
use Rattle.model.specs.declared.Answer.{Answer}
use Rattle.model.specs.Records.{max_sources, max_cores}
use Rattle.model.specs.Commands.{make}
use Rattle.layout.specs.Bytes.{state_size, state_bytes, packed_as, unreadable}
use Rattle.routines.specs.declared.Routines.{Routines}
use Rattle.routines.specs.declared.RoutineCall.{RoutineCall}
use Rattle.routines.specs.Routines.{call_routine}
use Rattle.routines.specs.Calls.{routines_in, is_simulation, packed_call, DoesCall, fits_make, make_routines_call, routine_call}
use Rattle.in_place.specs.declared.Ranking.{Ranking}
use Rattle.in_place.specs.Steps.{Says as OutcomeSays}
use Rattle.in_place.proofs.Refused.{says_same}
use Rattle.routine_steps.specs.Simulated.{Stepped, outcome_in, Went}

module _ (b active holder : List ℕ) where
  -- ---- making

  unfit :
      (length b ≢ state_size) ⊎ ((length b ≡ state_size × (length active ≢ max_cores)) ⊎
      (length b ≡ state_size × length active ≡ max_cores × (length holder ≢ max_sources))) → fits_make b active holder ≡ false
  unfit (inl h) = rw (ne_eqb _ _ h)
  unfit (inr (inl (s, h))) = simp (ne_eqb _ _ h, and-false)
  unfit (inr (inr (s, a, h))) = simp (ne_eqb _ _ h, and-false)

  pub make_unfit :
      (n m : ℕ) → (length b ≢ state_size) ⊎ ((length b ≡ state_size × (length active ≢ max_cores)) ⊎
      (length b ≡ state_size × length active ≡ max_cores × (length holder ≢ max_sources))) →
      DoesCall unreadable b active holder (make_routines_call n m b active holder)
  unfolding make_routines_call
  make_unfit n m h = rw (unfit h) (refl, refl, refl, refl)

  -- where the lengths are right
  module _ (n m : ℕ) (eb : length b ≡ state_size) (ea : length active ≡ max_cores) (eh : length holder ≡ max_sources)
      (a : Answer) (is : a ≡ make n m) where
    fits : fits_make b active holder ≡ true
    fits = and_in (eq-eqb _ _ eb) (and_in (eq-eqb _ _ ea) (eq-eqb _ _ eh))

    pub make_refused : (r : ℕ) → (a.number ≡ 0 → ⊥) → r ≡ a.number → DoesCall r b active holder (make_routines_call n m b active holder)
    unfolding make_routines_call
    make_refused r h er = rw (fits, ← is, ne_eqb _ _ h) (omega (arith, er), refl, refl, refl)

    pub make_done :
        {b' active' holder' : List ℕ} → a.number ≡ 0 → b' ≡ state_bytes a.state → active' ≡ replicate (length active) 0 →
        holder' ≡ replicate (length holder) 0 → DoesCall 0 b' active' holder' (make_routines_call n m b active holder)
    unfolding make_routines_call
    make_done e ib ia ih = rw (fits, ← is, e) (refl, ib, rw ea at ia, rw eh at ih)

  -- ---- one call

  pub call_unread :
      (c : RoutineCall) → is_simulation b active holder ≡ false → DoesCall unreadable b active holder (routine_call c b active holder)
  unfolding routine_call
  call_unread c e = rw e (refl, refl, refl, refl)

  pub call_went :
      (c : RoutineCall) {r n i y : ℕ} {o : Stepped} {b' active' holder' b'' active'' holder'' : List ℕ} {g' : Option Ranking} →
      is_simulation b active holder ≡ true → Went (routines_in b active holder) c o b' active' holder' g' →
      OutcomeSays (outcome_in o) n i y → r ≡ packed_as n i y → b'' ≡ b' → active'' ≡ active' → holder'' ≡ holder' →
      DoesCall r b'' active'' holder'' (routine_call c b active holder)
  unfolding routine_call
  call_went c {r} {o = o} {b'} {active'} {holder'} e went told er eb ea eh =
      let s = routines_in b active holder in
      let (number_is, id_is, cycles_are) = says_same (outcome_in o) told went.says.0 in
      let is : Routines → Type 0 = λ x. (b' ≡ state_bytes x.controller) × (active' ≡ x.active) × (holder' ≡ x.holder) in
      let result : r ≡ packed_call (call_routine s c) = er ∙ rw (number_is, id_is, cycles_are) refl in
      let (bytes, actives, holders) : is (call_routine s c).state
      = subst is went.state_is (went.running.whole, refl, refl) in
      rw e (result, eb ∙ bytes, ea ∙ actives, eh ∙ holders)
