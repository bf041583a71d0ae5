-- The retractions and then the deliveries are the settling of a state with every filled box dirty. Assumes nothing.
use Prim.Native.Nat.{ℕ, ◌+◌, ◌*◌, ◌-◌}
use mathlib.Core.Path.{◌≡◌, sym, ap, subst, ◌∙◌}
use mathlib.Core.List.{List}
use native.Mathlib.Omega.{arith}
use Rattle.model.specs.declared.Controller.{Controller}
use Rattle.model.specs.Settling.{settle, cycles_of}
use Rattle.settling.proofs.Determined.{after_settles, after_counts}
use Rattle.layout.specs.Bytes.{state_from}
use Rattle.in_place.specs.declared.Ranking.{Ranking}
use Rattle.in_place.specs.Held.{Held}
use Rattle.core_steps.specs.Phases.{soiled_all, Emptied, Delivered, Settled}

module _ {b b₁ : List ℕ} {g₁ : Ranking} {x : ℕ} (e : Emptied b x b₁ g₁) where
  -- 2m cycles less those of the retractions are enough for the deliveries
  pub settled_by :
      {y : ℕ} {b₂ : List ℕ} {g₂ : Ranking} →
      Delivered b₁ y b₂ g₂ → Settled (soiled_all (state_from b)) (x + y) b₂ g₂
  settled_by {y} {b₂} {g₂} d =
      let s : Controller = soiled_all (state_from b) in
      let f : ℕ = 2 * s.m - x in
      let all : x + f ≡ 2 * s.m = omega (arith, e.after.cycles_le) in
      let (state_is, count-is) : (state_from b₂ ≡ settle f (state_from b₁)) × (y ≡ cycles_of f (state_from b₁))
      = d.after f (omega (arith, e.after.cycles_le, e.after.m_same)) in
      let reached : state_from b₂ ≡ settle (2 * s.m) s
      = state_is ∙ sym (after_settles e.after f) ∙ ap (λ (g : ℕ). settle g s) all in
      let counted : cycles_of (x + f) s ≡ x + cycles_of f (state_from b₁) = after_counts e.after f in
      record {
        held = subst (λ (u : Controller). Held u b₂ g₂) reached d.held;
        cycles_are =
            omega (arith, count-is, counted) ∙ ap (λ (g : ℕ). cycles_of g s) all;
      }
