-- What the code finds of the one record that a command looks at is what the definitions ask of the state. Assumes nothing.
-- The code reads the source with an id at index id - 1, the definitions at `index_of id`.
--   claimed_at     whether its request is claimed
--   number_is      the number of the checks after that of the id
use Prim.Native.Nat.{ℕ, zero, suc, ◌-◌, ◌≤◌}
use mathlib.Core.Path.{◌≡◌, refl, ◌∙◌}
use mathlib.Core.Bool.{Bool, not, ◌&&◌}
use native.Mathlib.Nat.{not-suc-le-zero}
use native.Mathlib.Numerals.{sub-one}
use Rattle.model.specs.declared.SourceId.{SourceId}
use Rattle.model.specs.declared.Controller.{Controller}
use Rattle.model.specs.declared.SourceAction.{SourceAction}
use Rattle.model.specs.declared.SourceAction.TheVariants.{SetSourcePriority, Mask, Unmask, Trigger, Redeliver, Complete}
use Rattle.model.specs.Records.{source_id, index_of, source_at}
use Rattle.model.specs.Requests.{boxed, claimed}
use Rattle.model.specs.Commands.{source_refusal}
use Rattle.checks.specs.Refusals.{source_refusal_by}

-- the code's test of it
abbrev pub claimed_by : Controller → ℕ → Bool
claimed_by s id = (source_at s (id - 1)).pending && (source_at s (id - 1)).delivered && not (boxed s.cores s.m id)

pub claimed_at : (s : Controller) (id : ℕ) → 1 ≤ id → claimed_by s id ≡ claimed s (index_of (source_id id))
claimed_at s zero h = absurd (not-suc-le-zero h)
claimed_at s (suc i) h = rw (sub-one (suc i))

number_by : (s : Controller) (i : ℕ) (a : SourceAction) → source_refusal_by s.n (source_at s i) (claimed s i) a ≡ source_refusal s i a
number_by s i (SetSourcePriority p) = refl
number_by s i Mask = refl
number_by s i Unmask = refl
number_by s i Trigger = refl
number_by s i Redeliver = refl
number_by s i Complete = refl

pub number_is : (s : Controller) (id : SourceId) (a : SourceAction) {taken : Bool} → taken ≡ claimed s (index_of id) →
    {k : ℕ} → k ≡ source_refusal_by s.n (source_at s (id.0 - 1)) taken a → k ≡ source_refusal s (index_of id) a
number_is s id a {taken} is e =
    e ∙ rw (is, sub-one id.0) (number_by s (index_of id) a)
