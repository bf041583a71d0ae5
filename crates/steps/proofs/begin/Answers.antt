-- `steps::begin` meets its contract: the test, and then the numbers. Assumes nothing.
use Rattle.std.proofs.Common.{arith, sym, ◌∙◌}
use Rattle.layout.specs.Bytes.{state_from}
use Rattle.layout.proofs.RoundTrip.{state_size_lem}
use Rattle.well_formed.proofs.Test.{well_formed-out}
use Rattle.steps.proofs.Gone.{begun_sound, begun_unsound}
use Rattle.steps.proofs.begin.Goals as goal

pub well_formed-requires : goal.well_formed-requires
well_formed-requires c = state_size_lem c.args.state.now c.requires

pub returns-then-not-well_formed : goal.returns-then-not-well_formed
returns-then-not-well_formed c =
    begun_unsound c.requires (λ i h. omega (arith, c.type_inv.state i)) (sym c.well_formed-2.ensures ∙ c.if-not-well_formed.true)

pub number_all-requires : goal.number_all-requires
number_all-requires c =
    let sound = well_formed-out (state_from c.args.state.now) (sym c.well_formed-2.ensures ∙ c.if-not-well_formed.false) in
    (state_size_lem c.args.state.now c.requires, sound.consistent.n_le, sound.consistent.m_le)

pub returns : goal.returns
returns c =
    begun_sound c.requires (λ i h. omega (arith, c.type_inv.state i)) (sym c.well_formed-2.ensures ∙ c.if-not-well_formed.false)
    c.number_all.ensures
