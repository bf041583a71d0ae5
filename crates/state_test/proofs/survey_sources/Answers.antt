-- `state_test::survey_sources` meets its contract. The loop's invariant: every source below i is in range, and `waiting` is the
-- greatest priority of a candidate among them. Assumes nothing.
use Prim.Native.Nat.{ℕ, ◌<◌, ◌≤◌, max}
use mathlib.Core.Path.{◌≡◌, refl, sym, ◌∙◌, ap}
use mathlib.Core.List.{List}
use Rattle.std.proofs.Common.{arith, Some}
use borrow.Author.Count.{below_more}
use Rattle.model.specs.declared.Source.{Source}
use Rattle.model.specs.Records.{max_sources, source_at}
use Rattle.model.specs.Requests.{candidate}
use Rattle.model.specs.WellFormed.{source_in_range}
use Rattle.layout.specs.Bytes.{source_of, state_from}
use Rattle.layout.proofs.InPlace.{source_read}
use Rattle.well_formed.specs.Survey.{survey_with, greatest_waiting}
use Rattle.well_formed.proofs.Fits.{spares_refused, source_refused, sources_passed, waiting_begin, waiting_raised, waiting_same}
use Rattle.state_test.proofs.survey_sources.Goals as goal
use Rattle.state_test.proofs.survey_sources.Goals.{then-is_candidate, else-is_candidate}

-- a test of the source that was read is a test of the state's
tested : {A : Type 0} (f : Source → A) (b : List ℕ) {n i : ℕ} → n ≤ max_sources → i < n → {x : Source} {r : A} →
    x ≡ source_of b i → r ≡ f x → f (source_at (state_from b) i) ≡ r
tested f b {n} {i} h g e p = sym (p ∙ ap f (e ∙ sym (source_read b i (omega arith))))

pub returns-then-not-spare_sources : goal.returns-then-not-spare_sources
returns-then-not-spare_sources c =
    spares_refused c.args.v _ c.args.n c.args.top (sym c.spare_sources.ensures ∙ c.if-not-spare_sources.true)

pub loop-i-init : goal.loop-i-init
loop-i-init c = (λ j h. absurd (omega arith), waiting_begin _)

pub returns-then-not-source_in_range : goal.returns-then-not-source_in_range
returns-then-not-source_in_range c =
    let top = c.args.top in
    source_refused c.args.v _ c.args.n top c.loop-i.i c.loop-i-test.true
    (tested (source_in_range top) c.args.state.now c.requires.1 c.loop-i-test.true c.source_at-r.ensures c.source_in_range.ensures ∙
    c.if-not-source_in_range.true)

pub loop-i-preserved : goal.loop-i-preserved
loop-i-preserved c =
    let i = c.loop-i.i in
    let b = c.args.state.now in
    let (fit, greatest) = c.loop-i.invariant in
    let here = tested (source_in_range c.args.top) b c.requires.1 c.loop-i-test.true c.source_at-r.ensures c.source_in_range.ensures in
    let is = tested candidate b c.requires.1 c.loop-i-test.true c.source_at-r.ensures c.is_candidate.ensures in
    let priority = tested (λ (r : Source). r.priority) b c.requires.1 c.loop-i-test.true c.source_at-r.ensures refl in (
      below_more _ i fit (here ∙ c.if-not-source_in_range.false),
      elim c.if-is_candidate.branch [
        | then-is_candidate w ↦ waiting_raised _ i greatest (is ∙ w.if-is_candidate.true) (w.waiting-is ∙ w.max-waiting.ensures ∙ ap (max c.loop-i.waiting) (sym priority))
        | else-is_candidate w ↦ waiting_same _ i greatest (is ∙ w.if-is_candidate.false) w.waiting-is
      ],
    )

pub returns : goal.returns
returns c =
    let l = c.loop-i in
    let v = c.args.v in
    let all : l.i ≡ c.args.n = omega (arith, c.loop-i-test.false) in
    (λ t. Some (survey_with v.clean v.lowest v.covered v.boxed ((l.invariant.1 ∙ ap (greatest_waiting _) all) t))) ∙
    sources_passed v _ c.args.n c.args.top (λ j h. l.invariant.0 j (omega arith)) (sym c.spare_sources.ensures ∙ c.if-not-spare_sources.false)
