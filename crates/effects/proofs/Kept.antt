-- A command keeps a sound state sound, and settles within its bounds. Assumes nothing.
--   execute_settles    what settling does after an accepted command
--   well_formed-kept, nothing_cut_short, cycles_bounded    the statements of those names
use Prim.Native.Nat.{ℕ, ◌*◌, ◌≤◌}
use mathlib.Core.Path.{◌≡◌, refl, subst}
use native.Mathlib.Omega.{arith}
use Rattle.settling.proofs.Forward.{settle_beyond, count_of-beyond}
use Rattle.model.specs.declared.Controller.{Controller}
use Rattle.model.specs.declared.Cycle.{Cycle}
use Rattle.model.specs.declared.Cycle.TheVariants.{Rest}
use Rattle.model.specs.declared.Command.{Command}
use Rattle.model.specs.WellFormed.{WellFormed}
use Rattle.model.specs.Settling.{settle, is_retraction, is_delivery, count_of, cycles_of}
use Rattle.model.specs.Commands.{effect, refusal, answered_id, settled, refused}
use Rattle.model.specs.Statements.{WellFormedKept, EndedBy, NothingCutShort, CyclesBounded}
use Rattle.settling.specs.Phases.{Strict, Settles}
use Rattle.settling.proofs.Ends.{phases_settle}
use Rattle.settling.proofs.Spared.{phases_spare}
use Rattle.effects.proofs.Accepted.{execute_accepted, by_answer}
use Rattle.effects.proofs.Checked.{accepted}
use Rattle.effects.proofs.Dropped.{refused-well_formed}
use Rattle.effects.proofs.Effects.{effect_m, Begun, effect_begins}

begun : (s : Controller) (c : Command) → refusal s c ≡ 0 → Begun (effect s c)
begun s c e = let (w, checks) = accepted s c e in effect_begins s w c checks

pub execute_settles : (s : Controller) (c : Command) → refusal s c ≡ 0 → Settles (effect s c)
execute_settles s c e = phases_settle (effect s c) (begun s c e).consistent (begun s c e).phase

settled-well_formed : (s : Controller) (c : Command) → refusal s c ≡ 0 → WellFormed (settle (2 * (effect s c).m) (effect s c))
settled-well_formed s c e =
    let b : Begun (effect s c) = begun s c e in
    let strict : Strict (settle (2 * (effect s c).m) (effect s c)) = (execute_settles s c e).strict in
    record {
      consistent = strict.consistent;
      clean = strict.clean;
      quiet = strict.quiet;
      frugal = phases_spare (effect s c) b.consistent b.phase b.spared (2 * (effect s c).m) strict.clean;
    }

pub well_formed-kept : WellFormedKept
unfolding settled refused
well_formed-kept s c w = by_answer s c (λ a. WellFormed a.state) (settled-well_formed s c) (λ h. refused-well_formed s c w)

-- ---- cycles beyond those that a command takes

-- what settles from e answers the same for any number of cycles from 2m on
module _ (e : Controller) (done : Settles e) (f : ℕ) (more : 2 * e.m ≤ f) where
  same : (kind : Cycle → ℕ) → kind Rest ≡ 0 → count_of kind f e ≡ count_of kind (2 * e.m) e
  same = count_of-beyond e (2 * e.m) done.rests f more

  ended_by : (id : ℕ) → EndedBy f e.m e (settled e id)
  unfolding settled cycles_of
  ended_by id =
      record {
        same_state = settle_beyond e (2 * e.m) done.rests f more;
        same_count = omega (arith, same is_retraction refl, same is_delivery refl);
        at_rest = record { rests = done.rests; clean = done.strict.clean; none_above = done.strict.quiet.candidates_below };
        retractions_le = omega (arith, same is_retraction refl, done.retractions);
        deliveries_le = omega (arith, same is_delivery refl, done.deliveries);
      }

pub nothing_cut_short : NothingCutShort
nothing_cut_short s c e f more =
    rw (execute_accepted s c e)
    (subst (λ m. 2 * m ≤ f → EndedBy f m (effect s c) (settled (effect s c) (answered_id s c))) (effect_m s c)
    (λ h. ended_by (effect s c) (execute_settles s c e) f h (answered_id s c)) more)

pub cycles_bounded : CyclesBounded
unfolding settled refused cycles_of
cycles_bounded s c =
    by_answer s c (λ a. a.cycles ≤ 2 * s.m)
    (λ e. let done : Settles (effect s c) = execute_settles s c e in omega (arith, effect_m s c))
    (λ h. omega arith)
