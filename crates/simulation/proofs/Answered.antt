-- An answer by its parts, from what a step leaves in memory. Assumes nothing.
use Prim.Native.Nat.{ℕ}
use mathlib.Core.Path.{◌≡◌, ap, ◌∙◌}
use mathlib.Core.List.{List}
use Rattle.model.specs.declared.Controller.{Controller}
use Rattle.layout.specs.Bytes.{state_from}
use Rattle.routines.specs.declared.Routines.{Routines}
use Rattle.routines.specs.declared.RoutineCall.{RoutineCall}
use Rattle.routines.specs.declared.RoutineAnswer.{RoutineAnswer}
use Rattle.routines.specs.Routines.{routines_with, routine_answer, call_routine}
use Rattle.routines.specs.Calls.{routines_in}
use Rattle.std.proofs.Common.{Option}
use Rattle.in_place.specs.declared.Ranking.{Ranking}
use Rattle.in_place.specs.Steps.{Says as OutcomeSays}
use Rattle.in_place.proofs.Refused.{says_same}
use Rattle.routine_steps.specs.Simulated.{Stepped, outcome_in, Went}

pub answered :
    {s : Routines} {after : Controller} (b : List ℕ) {b' active' holder' active'' holder'' : List ℕ} {g' : Option Ranking} {o : Stepped} {n i y : ℕ}
    (c : RoutineCall) → routines_in b s.active s.holder ≡ s → Went (routines_in b s.active s.holder) c o b' active' holder' g' →
    OutcomeSays (outcome_in o) n i y → after ≡ state_from b' → active'' ≡ active' → holder'' ≡ holder' →
    routine_answer (routines_with after active'' holder'') n i y ≡ call_routine s c
answered {s} {after} b {b'} {active'} {holder'} {o = o} c back went told read ea eh =
    let a : RoutineAnswer = call_routine (routines_in b s.active s.holder) c in
    let (number_is, id_is, cycles_are) = says_same (outcome_in o) told went.says.0 in
    let whole : routines_with after active' holder' ≡ a.state
    = ap (λ (x : Controller). routines_with x active' holder') read ∙ went.state_is in
    rw (ea, eh, whole, number_is, id_is, cycles_are) (ap (λ (x : Routines). call_routine x c) back)
