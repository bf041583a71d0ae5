-- `routine_test::source_stands` meets its contract: each test decides one of the facts that the source asks for. Assumes nothing.
use Prim.Native.Nat.{pred}
use mathlib.Core.Path.{◌≡◌, sym, ◌∙◌, ap}
use mathlib.Core.Bool.{not}
use Rattle.std.proofs.Common.{arith}
use native.Mathlib.Numerals.{add-one}
use borrow.Author.Tests.{eq-eqb}
use Rattle.lists.proofs.Bools.{clash}
use Rattle.lists.proofs.Exact.{eqb_exact, passes, refused, agree}
use Rattle.model.specs.Requests.{claimed}
use Rattle.routines.specs.declared.Routines.{Routines}
use Rattle.routines.specs.Routines.{active_at, holder_at}
use Rattle.routines.specs.Calls.{routines_in}
use Rattle.routine_test.proofs.Exact.{source_exact}
use Rattle.routine_test.proofs.Read.{less_one, claimed_read}
use Rattle.routine_test.proofs.source_stands.Goals as goal

pub returns-then-m-h : goal.returns-then-m-h
returns-then-m-h c =
    let sim : Routines = routines_in c.args.state.now c.args.active.now c.args.holder.now in
    refused (source_exact sim c.args.i) (λ p. omega (arith, p.0))

pub returns-then-from-i : goal.returns-then-from-i
returns-then-from-i c =
    let sim : Routines = routines_in c.args.state.now c.args.active.now c.args.holder.now in
    passes (source_exact sim c.args.i) (omega arith, λ l e. absurd (omega arith))

pub returns-then-not-claimed : goal.returns-then-not-claimed
returns-then-not-claimed c =
    let sim : Routines = routines_in c.args.state.now c.args.active.now c.args.holder.now in
    let is : c.is_claimed-claimed.result ≡ claimed sim.controller c.args.i =
    claimed_read c.requires.0 c.args.i _ c.requires.1 (add-one c.args.i) c.source_at-r.ensures c.is_claimed-claimed.ensures in
    ap not c.if-not-claimed.true ∙ passes (source_exact sim c.args.i) (omega arith, λ l e. clash (is ∙ e) c.if-not-claimed.true)

pub returns-then-h-ne0 : goal.returns-then-h-ne0
returns-then-h-ne0 c =
    let sim : Routines = routines_in c.args.state.now c.args.active.now c.args.holder.now in
    let is : c.is_claimed-claimed.result ≡ claimed sim.controller c.args.i =
    claimed_read c.requires.0 c.args.i _ c.requires.1 (add-one c.args.i) c.source_at-r.ensures c.is_claimed-claimed.ensures in
    let at : c.from-then-h-ne0.result ≡ active_at sim (pred (holder_at sim c.args.i)) =
    c.from-then-h-ne0.ensures ∙ ap (active_at sim) (less_one c.from-h.result ∙ ap pred c.from-h.ensures) in
    agree (eqb_exact _ _) (source_exact sim c.args.i)
    (λ q. (omega arith, λ l g. (omega arith, sym at ∙ q ∙ add-one _)))
    (λ p. at ∙ (p.1 (omega arith) (sym is ∙ c.if-not-claimed.false)).1 ∙ sym (add-one _))

pub returns-else-h-ne0 : goal.returns-else-h-ne0
returns-else-h-ne0 c =
    let sim : Routines = routines_in c.args.state.now c.args.active.now c.args.holder.now in
    let is : c.is_claimed-claimed.result ≡ claimed sim.controller c.args.i =
    claimed_read c.requires.0 c.args.i _ c.requires.1 (add-one c.args.i) c.source_at-r.ensures c.is_claimed-claimed.ensures in
    rw (eq-eqb c.from-h.result 0 c.if-h-ne0.false)
    (refused (source_exact sim c.args.i) (λ p. omega (arith, (p.1 (omega arith) (sym is ∙ c.if-not-claimed.false)).0)))
