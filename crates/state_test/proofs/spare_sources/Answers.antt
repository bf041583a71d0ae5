-- `state_test::spare_sources` meets its contract: where the bytes repeat, every spare source is what the first is. The loop's invariant: every
-- spare source below i is reset. Assumes nothing.
use mathlib.Core.Path.{sym, ap, ◌∙◌}
use Rattle.std.proofs.Common.{arith}
use Rattle.model.specs.WellFormed.{is_reset_source}
use Rattle.lists.proofs.Turns.{since_begin, since_end, since_turn, since_fails}
use Rattle.layout.proofs.InPlace.{source_read}
use Rattle.state_test.proofs.Repeating.{spare_sources_by_first}
use Rattle.state_test.proofs.spare_sources.Goals as goal

pub returns-then-n-ge-SOURCES : goal.returns-then-n-ge-SOURCES
returns-then-n-ge-SOURCES c = since_begin _ _ _ c.if-n-ge-SOURCES.true

pub returns-then-repeats : goal.returns-then-repeats
returns-then-repeats c =
    c.is_reset_source.ensures ∙
    ap is_reset_source c.source_at.ensures ∙
    spare_sources_by_first c.args.state.now c.args.n c.if-n-ge-SOURCES.false (sym c.repeats.ensures ∙ c.if-repeats.true)

pub loop-i-init : goal.loop-i-init
loop-i-init c = since_begin _ _ _ (omega arith)

pub returns-then-not-is_reset_source : goal.returns-then-not-is_reset_source
returns-then-not-is_reset_source c =
    let b = c.args.state.now in
    let i = c.loop-i.i in
    since_fails _ _ i (omega arith) _ (omega arith)
    (sym (c.is_reset_source-in-loop-i.ensures ∙ ap is_reset_source (c.source_at-in-loop-i.ensures ∙ sym (source_read b i (omega arith)))) ∙ c.if-not-is_reset_source.true)

pub loop-i-preserved : goal.loop-i-preserved
loop-i-preserved c =
    let b = c.args.state.now in
    let i = c.loop-i.i in
    sym c.if-not-is_reset_source.false ∙ c.is_reset_source-in-loop-i.ensures ∙
    ap is_reset_source (c.source_at-in-loop-i.ensures ∙ sym (source_read b i (omega arith))) ∙
    since_turn _ _ i c.loop-i.invariant (omega arith)

pub returns : goal.returns
returns c = since_end _ _ _ c.loop-i.invariant _ (omega arith)
