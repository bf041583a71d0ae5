-- An answer by its parts, from what a step leaves in the bytes of a state. Assumes nothing.
use Prim.Native.Nat.{ℕ}
use mathlib.Core.Path.{◌≡◌, ap, ◌∙◌}
use mathlib.Core.List.{List}
use Rattle.model.specs.declared.Controller.{Controller}
use Rattle.model.specs.declared.Command.{Command}
use Rattle.model.specs.Records.{answer}
use Rattle.model.specs.Commands.{execute}
use Rattle.layout.specs.Bytes.{state_from}
use Rattle.std.proofs.Common.{Option}
use Rattle.in_place.specs.declared.Ranking.{Ranking}
use Rattle.in_place.specs.Steps.{Outcome, Says}
use Rattle.in_place.proofs.Refused.{says_same}
use Rattle.steps.specs.Going.{Went}

pub answered :
    {s state : Controller} (b : List ℕ) {b' : List ℕ} {r r' : Option Ranking} {o : Outcome} {number id cycles : ℕ} (c : Command) →
    state_from b ≡ s → Went (execute (state_from b) c) r o b' r' → Says o number id cycles → state ≡ state_from b' →
    answer state number id cycles ≡ execute s c
answered {s} {state} b c back went told read =
    let whole : state ≡ (execute (state_from b) c).state = read ∙ went.state_is in
    let (number_is, id_is, cycles_are) = says_same _ told went.says in
    rw (whole, number_is, id_is, cycles_are) (ap (λ (u : Controller). execute u c) back)
