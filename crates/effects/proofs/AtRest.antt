-- What is left of an effect to settle. Assumes nothing.
--   still           a consistent state with no box dirty and no candidate above a core is at rest
--   unmoved         at rest settling answers the state as it is, with 0 cycles
--   claim_answer    a claim leaves nothing to settle: every core's current priority is the same before and after
use Prim.Native.Nat.{ℕ, ◌*◌, ◌<◌}
use mathlib.Core.Path.{◌≡◌, ◌∙◌}
use mathlib.Core.Bool.{true}
use native.Mathlib.Omega.{arith}
use borrow.Author.Tests.{lt-ltb}
use Rattle.model.specs.declared.CoreId.{CoreId}
use Rattle.model.specs.declared.Controller.{Controller}
use Rattle.model.specs.declared.Command.TheVariants.{OnCore}
use Rattle.model.specs.declared.CoreAction.TheVariants.{Claim}
use Rattle.model.specs.declared.Cycle.TheVariants.{Rest}
use Rattle.model.specs.Records.{core_at, with_core, answer}
use Rattle.model.specs.WellFormed.{WellFormed, Consistent, NoneAbove}
use Rattle.model.specs.Settling.{next}
use Rattle.model.specs.Commands.{claimed_core, effect, refusal_of, refusal, answered_id, settled, execute}
use Rattle.lists.proofs.Bools.{clash}
use Rattle.well_formed.proofs.Test.{well_formed-in}
use Rattle.settling.specs.Phases.{Delivering}
use Rattle.settling.proofs.Next.{Next, resting, retracting, arbitrating, next_cases}
use Rattle.settling.proofs.Run.{settle_rest, cycles_of-rest}
use Rattle.effects.proofs.Accepted.{execute_accepted}
use Rattle.effects.proofs.CoreEffects.{claimed_delivering, current_same}
use Rattle.effects.proofs.Effects.{well_formed-delivering, effect_begins}

pub still : (s : Controller) → Consistent s → Delivering s → NoneAbove s → next s ≡ Rest
still s c d calm = go (next_cases s c.some_source c.some_core)
  where
    go : Next s → next s ≡ Rest
    go (resting e clean st) = e
    go (retracting k e h dirty) = clash dirty (d.clean k h)
    go (arbitrating i k e clean con) = absurd (omega (arith, con.above, calm i k con.source_in con.core_in con.is_candidate))

module _ (s : Controller) (rest : next s ≡ Rest) where
  pub unmoved : (id : ℕ) → settled s id ≡ answer s 0 id 0
  unfolding settled
  unmoved id = rw (settle_rest s rest (2 * s.m), cycles_of-rest s rest (2 * s.m))

module _ (s : Controller) (w : WellFormed s) (k : CoreId) (k_lt : k.0 < s.m) (filled : (core_at s k.0).message.filled ≡ true) where
  abbrev after : Controller
  after = with_core s k.0 (claimed_core (core_at s k.0))

  old : Consistent s
  old = w.consistent

  claim_accepted : refusal s (OnCore k Claim) ≡ 0
  unfolding refusal refusal_of
  claim_accepted = rw (well_formed-in s w, lt-ltb k.0 s.m k_lt, filled)

  claim_rests : next after ≡ Rest
  unfolding effect
  claim_rests =
      still after
      (effect_begins s w (OnCore k Claim) (k_lt, filled)).consistent
      (claimed_delivering s old k.0 k_lt filled (well_formed-delivering s w))
      (λ i j i_lt j-lt e. rw (current_same s old k.0 k_lt filled j) (w.quiet.candidates_below i j i_lt j-lt e))

  pub claim_answer : execute s (OnCore k Claim) ≡ answer after 0 (core_at s k.0).message.source.0 0
  unfolding effect answered_id
  claim_answer =
      execute_accepted s (OnCore k Claim) claim_accepted ∙ unmoved after claim_rests (core_at s k.0).message.source.0
