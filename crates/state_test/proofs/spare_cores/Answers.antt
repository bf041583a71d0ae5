-- `state_test::spare_cores` meets its contract: where the bytes repeat, every spare core is what the first is. The loop's invariant: every
-- spare core below k is reset. Assumes nothing.
use mathlib.Core.Path.{sym, ap, ◌∙◌}
use Rattle.std.proofs.Common.{arith}
use Rattle.model.specs.WellFormed.{is_reset_core}
use Rattle.lists.proofs.Turns.{since_begin, since_end, since_turn, since_fails}
use Rattle.layout.proofs.InPlace.{core_read}
use Rattle.state_test.proofs.Repeating.{spare_cores_by_first}
use Rattle.state_test.proofs.spare_cores.Goals as goal

pub returns-then-m-ge-CORES : goal.returns-then-m-ge-CORES
returns-then-m-ge-CORES c = since_begin _ _ _ c.if-m-ge-CORES.true

pub returns-then-repeats : goal.returns-then-repeats
returns-then-repeats c =
    c.is_reset_core.ensures ∙
    ap is_reset_core c.core_at.ensures ∙
    spare_cores_by_first c.args.state.now c.args.m c.if-m-ge-CORES.false (sym c.repeats.ensures ∙ c.if-repeats.true)

pub loop-k-init : goal.loop-k-init
loop-k-init c = since_begin _ _ _ (omega arith)

pub returns-then-not-is_reset_core : goal.returns-then-not-is_reset_core
returns-then-not-is_reset_core c =
    let b = c.args.state.now in
    let k = c.loop-k.k in
    since_fails _ _ k (omega arith) _ (omega arith)
    (sym (c.is_reset_core-in-loop-k.ensures ∙ ap is_reset_core (c.core_at-in-loop-k.ensures ∙ sym (core_read b k (omega arith)))) ∙ c.if-not-is_reset_core.true)

pub loop-k-preserved : goal.loop-k-preserved
loop-k-preserved c =
    let b = c.args.state.now in
    let k = c.loop-k.k in
    sym c.if-not-is_reset_core.false ∙ c.is_reset_core-in-loop-k.ensures ∙
    ap is_reset_core (c.core_at-in-loop-k.ensures ∙ sym (core_read b k (omega arith))) ∙
    since_turn _ _ k c.loop-k.invariant (omega arith)

pub returns : goal.returns
returns c = since_end _ _ _ c.loop-k.invariant _ (omega arith)
