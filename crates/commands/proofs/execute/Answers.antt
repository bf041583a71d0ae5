-- `commands::execute` meets its contract: the command runs on the state's bytes, and the state is read back from them. Assumes nothing.
use Rattle.std.proofs.Common.{◌≡◌, ap, ◌∙◌, rules}
use Rattle.lists.proofs.Arrays.{unmapped}
use Rattle.layout.specs.Bytes.{is_state, state_from}
use Rattle.layout.specs.Statements.{Sized}
use Rattle.layout.proofs.RoundTrip.{state_read_back, state_encoded}
use Rattle.commands.proofs.Answered.{answered}
use Rattle.commands.proofs.execute.Goals as goal

pub begin-ranking-requires : goal.begin-ranking-requires
begin-ranking-requires c =
    let sized : Sized c.args.s = record { sources = search (rules, unmapped); cores = search (rules, unmapped) } in
    ap is_state c.put_state.ensures ∙ (state_encoded c.args.s sized).0

pub returns : goal.returns
returns c =
    let sized : Sized c.args.s = record { sources = search (rules, unmapped); cores = search (rules, unmapped) } in
    let back : state_from c.put_state.new.b ≡ c.args.s = ap state_from c.put_state.ensures ∙ state_read_back c.args.s sized in
    c.answer_with.ensures ∙ answered _ c.args.c back c.step-o.ensures c.numbers_of-number.ensures c.state_from-state.ensures
