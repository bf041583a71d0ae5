-- `simulation::call` meets its contract: the call runs on the state's bytes, and the state is read back from them. Assumes nothing.
use mathlib.Core.Path.{◌≡◌, refl, ap, ◌∙◌}
use mathlib.Core.Bool.{true}
use lib.ListN.{length}
use Rattle.lists.proofs.Arrays.{unmapped}
use Rattle.model.specs.Records.{max_sources, max_cores}
use Rattle.layout.specs.Bytes.{is_state, state_from}
use Rattle.layout.specs.Statements.{Sized}
use Rattle.layout.proofs.RoundTrip.{state_read_back, state_encoded}
use Rattle.routines.specs.Calls.{routines_in}
use Rattle.simulation.proofs.Answered.{answered}
use Rattle.std.proofs.Common.{rules}
use Rattle.simulation.proofs.call.Goals as goal

pub begin-ranking-requires : goal.begin-ranking-requires
begin-ranking-requires c =
    let s = c.args.s in
    let sized : Sized s.controller = record { sources = search (rules, unmapped); cores = search (rules, unmapped) } in
    let encodes : is_state c.put_state.new.b ≡ true = ap is_state c.put_state.ensures ∙ (state_encoded s.controller sized).0 in
    let active_long : length s.active ≡ max_cores = search (rules, unmapped) in
    let holder_long : length s.holder ≡ max_sources = search (rules, unmapped) in
    (encodes, active_long, holder_long)

pub returns : goal.returns
returns c =
    let s = c.args.s in
    let sized : Sized s.controller = record { sources = search (rules, unmapped); cores = search (rules, unmapped) } in
    let same : state_from c.put_state.new.b ≡ s.controller = ap state_from c.put_state.ensures ∙ state_read_back s.controller sized in
    let back : routines_in c.put_state.new.b s.active s.holder ≡ s = rw same refl in
    answered c.put_state.new.b c.args.c back c.step-o.ensures.went c.numbers_of-number.ensures
    (c.state_from-after.ensures ∙ ap state_from (search rules)) (search rules) (search rules)
