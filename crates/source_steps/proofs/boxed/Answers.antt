-- `source_steps::boxed` meets its contract. Assumes nothing.
use mathlib.Core.Path.{◌≡◌, sym, ap, ◌∙◌}
use mathlib.Core.Bool.{true, false}
use Rattle.std.proofs.Common.{arith, ℕ}
use Rattle.model.specs.Records.{core_at}
use Rattle.model.specs.Requests.{holds, boxed}
use Rattle.model.proofs.Boxes.{boxed_in}
use Rattle.checks.proofs.Tests.{holding, holds_unfilled, holds_other, unboxed_none, unboxed_more}
use Rattle.layout.specs.Bytes.{state_from}
use Rattle.layout.proofs.InPlace.{core_read}
use Rattle.source_steps.proofs.boxed.Goals as goal
use Rattle.source_steps.proofs.boxed.Goals.{else-held-via-then-held+else-eq, else-held-via-else-held}

pub loop-k-init : goal.loop-k-init
loop-k-init c = unboxed_none (state_from c.args.state.now).cores c.args.id.0

pub returns-then-eq : goal.returns-then-eq
returns-then-eq c =
    let id : ℕ = c.args.id.0 in
    let at_turn : c.core_at.result ≡ core_at (state_from c.args.state.now) c.loop-k.k =
    c.core_at.ensures ∙ sym (core_read c.args.state.now c.loop-k.k (omega (arith, c.loop-k-test.true, c.requires.1))) in
    let held : holds id c.core_at.result ≡ true = holding c.core_at.result id c.if-held.true (sym c.eq.ensures ∙ c.if-eq.true) in
    sym (boxed_in (state_from c.args.state.now).cores c.args.m id c.loop-k.k c.loop-k-test.true (sym (ap (holds id) at_turn) ∙ held))

pub loop-k-preserved : goal.loop-k-preserved
loop-k-preserved c =
    let id : ℕ = c.args.id.0 in
    let at_turn : c.core_at.result ≡ core_at (state_from c.args.state.now) c.loop-k.k =
    c.core_at.ensures ∙ sym (core_read c.args.state.now c.loop-k.k (omega (arith, c.loop-k-test.true, c.requires.1))) in
    let unheld : holds id c.core_at.result ≡ false =
    elim c.else-held.branch [
      | else-held-via-then-held+else-eq w ↦ holds_other c.core_at.result id w.if-held.true (sym w.eq.ensures ∙ w.if-eq.false)
      | else-held-via-else-held w ↦ holds_unfilled c.core_at.result id w.if-held.false
    ] in
    unboxed_more (state_from c.args.state.now).cores id c.loop-k.k c.loop-k.invariant (sym (ap (holds id) at_turn) ∙ unheld)

pub returns : goal.returns
returns c =
    let at_end : c.loop-k.k ≡ c.args.m = omega (arith, c.loop-k-test.false) in
    sym c.loop-k.invariant ∙ ap (λ (k : ℕ). boxed (state_from c.args.state.now).cores k c.args.id.0) at_end
