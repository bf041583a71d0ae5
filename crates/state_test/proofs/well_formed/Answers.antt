-- `state_test::well_formed` meets its contract: it is the verdict of the survey. Assumes nothing.
use mathlib.Core.Path.{sym, ◌∙◌, ap}
use Rattle.std.proofs.Common.{arith}
use Rattle.std.proofs.lemmas.Grind.{common_steps}
use Rattle.layout.specs.Bytes.{state_from}
use Rattle.well_formed.proofs.Verdict.{verdict, well_formed_is}
use Rattle.state_test.proofs.well_formed.Goals as goal

pub returns-in_default : goal.returns-in_default
returns-in_default c = sym (well_formed_is (state_from c.args.state.now) ∙ ap verdict (sym c.survey.ensures ∙ c.in_default.is))

pub returns-then-v-3 : goal.returns-then-v-3
returns-then-v-3 c =
    let asked = well_formed_is (state_from c.args.state.now) ∙ ap verdict (sym c.survey.ensures ∙ c.in-Some.is) in
    grind (arith, common_steps)

pub returns-else-v-3 : goal.returns-else-v-3
returns-else-v-3 c =
    let asked = well_formed_is (state_from c.args.state.now) ∙ ap verdict (sym c.survey.ensures ∙ c.in-Some.is) in
    grind (arith, common_steps)
