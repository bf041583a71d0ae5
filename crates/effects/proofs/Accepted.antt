-- What an accepted and a refused command answer. Assumes nothing.
--   execute_accepted    one that is not refused answers the settled effect
--   execute_refused     a refused one answers the state it was given, a dropped trigger counted
--   by_answer           what holds of both answers holds of every command's
--   demand_two          `execute` answers as document 01 derives it, by definition; that the code does is its contract
use mathlib.Core.Path.{◌≡◌, refl}
use native.Mathlib.Decide.{ℕ_discrete}
use borrow.Author.Tests.{eq-eqb, ne_eqb}
use Rattle.model.specs.declared.Controller.{Controller}
use Rattle.model.specs.declared.Answer.{Answer}
use Rattle.model.specs.declared.Command.{Command}
use Rattle.model.specs.Commands.{effect, refusal, answered_id, settled, refused, execute}
use Rattle.model.specs.Statements.{DemandTwo}

module _ (s : Controller) (c : Command) where
  pub execute_accepted : refusal s c ≡ 0 → execute s c ≡ settled (effect s c) (answered_id s c)
  unfolding execute
  execute_accepted e = rw (eq-eqb (refusal s c) 0 e)

  pub execute_refused : (refusal s c ≡ 0 → ⊥) → execute s c ≡ refused s c (refusal s c)
  unfolding execute
  execute_refused h = rw (ne_eqb (refusal s c) 0 h)

  pub by_answer :
      (P : Answer → Type 0) → (refusal s c ≡ 0 → P (settled (effect s c) (answered_id s c))) →
      ((refusal s c ≡ 0 → ⊥) → P (refused s c (refusal s c))) → P (execute s c)
  by_answer P settles stays = go (ℕ_discrete (refusal s c) 0)
    where
      go : Dec (refusal s c ≡ 0) → P (execute s c)
      go (yes e) = rw (execute_accepted e) (settles e)
      go (no h) = rw (execute_refused h) (stays h)

pub demand_two : DemandTwo execute
demand_two s c = refl
