-- Only claim answers an id (`OnlyClaimAnswers`), and an accepted claim that of the box (`ClaimAnswersBox`). Assumes nothing.
use mathlib.Core.Path.{◌≡◌, refl}
use Rattle.model.specs.declared.Controller.{Controller}
use Rattle.model.specs.declared.Command.{Command}
use Rattle.model.specs.declared.Command.TheVariants.{OnSource, OnCore}
use Rattle.model.specs.declared.CoreAction.TheVariants.{SetCorePriority, Claim}
use Rattle.model.specs.Commands.{answered_id, settled, refused, execute}
use Rattle.model.specs.Statements.{OnlyClaimAnswers, ClaimAnswersBox}
use Rattle.effects.proofs.Accepted.{execute_accepted, by_answer}

no_id : (s : Controller) (c : Command) → answered_id s c ≡ 0 → (execute s c).id.0 ≡ 0
unfolding settled refused
no_id s c e = by_answer s c (λ a. a.id.0 ≡ 0) (λ h. e) (λ h. refl)

pub only_claim_answers : OnlyClaimAnswers
unfolding answered_id
only_claim_answers s (OnSource id a) h = absurd (h (no_id s (OnSource id a) refl))
only_claim_answers s (OnCore k (SetCorePriority p)) h = absurd (h (no_id s (OnCore k (SetCorePriority p)) refl))
only_claim_answers s (OnCore k Claim) h = (k, refl)

pub claim_answers_box : ClaimAnswersBox
unfolding settled answered_id
claim_answers_box s k e = rw (execute_accepted s (OnCore k Claim) e)
