-- What the answer after the retractions is good for. Assumes nothing.
--   after_settles, after_counts    the run goes on from it
--   retractions_determined         it is the only one: as many cycles as the whole settling has retractions
use Prim.Native.Nat.{ℕ, ◌+◌, ◌*◌, ◌-◌, ◌≤◌}
use mathlib.Core.Path.{◌≡◌, sym, ap, ◌∙◌}
use native.Mathlib.Omega.{arith}
use Rattle.model.specs.declared.Controller.{Controller}
use Rattle.model.specs.Settling.{settle, is_retraction, count_of, cycles_of}
use Rattle.settling.specs.Runs.{AfterRetractions, RetractionsDetermined}
use Rattle.settling.proofs.Forward.{settle_add, count_of-add, cycles_of-add, cycles_of-le}
use Rattle.settling.proofs.Deliveries.{deliveries_end}

module _ {s state : Controller} {cycles : ℕ} (a : AfterRetractions s state cycles) where
  pub after_settles : (f : ℕ) → settle (cycles + f) s ≡ settle f (state)
  after_settles f = rw a.state_is (settle_add (cycles) f s)

  pub after_counts : (f : ℕ) → cycles_of (cycles + f) s ≡ cycles + cycles_of f (state)
  unfolding cycles_of
  after_counts f = rw a.state_is (omega (arith, cycles_of-add (cycles) f s, a.each_retracts, cycles_of-le (cycles) s))

  none_follows : (f : ℕ) → s.m ≤ f → count_of is_retraction f (settle (cycles) s) ≡ 0
  none_follows f h =
      rw (← a.state_is)
      (omega (arith, (deliveries_end (state) a.consistent a.delivering f (omega (arith, a.m_same))).retractions))

  cycles_are : cycles ≡ count_of is_retraction (2 * s.m) s
  cycles_are =
      let f : ℕ = 2 * s.m - cycles in
      let all : cycles + f ≡ 2 * s.m = omega (arith, a.cycles_le) in
      let more : count_of is_retraction f (settle (cycles) s) ≡ 0 = none_follows f (omega arith) in
      omega (arith, a.each_retracts, count_of-add is_retraction (cycles) f s, ap (λ (g : ℕ). count_of is_retraction g s) all)

pub retractions_determined : RetractionsDetermined
retractions_determined s state state' cycles cycles' a a' =
    let counts : cycles ≡ cycles' = cycles_are a ∙ sym (cycles_are a') in
    (a.state_is ∙ ap (λ (f : ℕ). settle f s) counts ∙ sym a'.state_is, counts)
