-- `routine_steps::begin` meets its contract: the test, and then the numbers. Assumes nothing.
use mathlib.Core.Path.{sym, ◌∙◌}
use Rattle.std.proofs.Common.{arith}
use Rattle.layout.proofs.RoundTrip.{state_size_lem}
use Rattle.routines.specs.Calls.{routines_in}
use Rattle.routine_laws.proofs.Test.{routines_test_exact}
use Rattle.routine_steps.proofs.Gone.{begun_sound, begun_unsound}
use Rattle.routine_steps.proofs.begin.Goals as goal

pub sound-requires : goal.sound-requires
sound-requires c = (state_size_lem c.args.state.now c.requires.0, c.requires.1, c.requires.2)

pub returns-then-not-sound : goal.returns-then-not-sound
returns-then-not-sound c =
    begun_unsound c.requires.0 c.requires.1 c.requires.2 (λ i h. omega (arith, c.type_inv.state i))
    (sym c.sound.ensures ∙ c.if-not-sound.true)

pub number_all-requires : goal.number_all-requires
number_all-requires c =
    let a = c.args in
    let s = ((routines_test_exact (routines_in a.state.now a.active.now a.holder.now)).0
    (sym c.sound.ensures ∙ c.if-not-sound.false)).controller.consistent in
    (state_size_lem a.state.now c.requires.0, s.n_le, s.m_le)

pub returns : goal.returns
returns c =
    begun_sound c.requires.0 c.requires.1 c.requires.2 (λ i h. omega (arith, c.type_inv.state i))
    (sym c.sound.ensures ∙ c.if-not-sound.false) c.number_all.ensures
