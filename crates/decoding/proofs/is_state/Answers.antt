-- `decoding::is_state` meets its contract: each `all` over a range is the test of each number below its end. Assumes nothing.
use Rattle.std.proofs.Common.{◌≡◌, true, false, refl, sym, ◌∙◌, rules}
use mathlib.Core.Bool.{true≢false}
use borrow.Author.Tests.{tests, ne_eqb}
use Rattle.std.proofs.lemmas.Iterator.{YieldsList-from_range}
use Rattle.std.proofs.lemmas.Iterator.Search.{all_from_yields_List}
use Rattle.model.specs.Records.{max_sources, max_cores}
use Rattle.lists.specs.Walks.{every}
use Rattle.layout.specs.Bytes.{source_flags_of, core_flags_of}
use Rattle.decoding.proofs.Flags.{every_all, wrong_size, right_size}
use Rattle.decoding.proofs.is_state.Goals as goal
use Rattle.decoding.proofs.is_state.Goals.{then-b-eq-STATE_SIZE, else-b-eq-STATE_SIZE}

pub returns-then-all : goal.returns-then-all
returns-then-all c =
    let b = c.args.b.now in
    let cores : c.all-then-all.result ≡ every max_cores (core_flags_of b)
    = all_from_yields_List (core_flags_of b) _ _ c.all-then-all.result c.all-then-all.ensures.ran
    (YieldsList-from_range 0 max_cores max_cores refl refl) (λ x v q k. search (rules, tests))
    ∙ every_all max_cores (core_flags_of b) in
    elim c.if-b-eq-STATE_SIZE.branch [
      | then-b-eq-STATE_SIZE w ↦
          right_size b w.if-b-eq-STATE_SIZE.true true c.all-then-all.result
          (sym c.if-all.true ∙ w.value-is
          ∙ all_from_yields_List (source_flags_of b) _ _ w.all.result w.all.ensures.ran
          (YieldsList-from_range 0 max_sources max_sources refl refl) (λ x v q k. search (rules, tests))
          ∙ every_all max_sources (source_flags_of b))
          cores
      | else-b-eq-STATE_SIZE w ↦ absurd (true≢false (sym c.if-all.true ∙ w.value-is ∙ ne_eqb _ _ w.if-b-eq-STATE_SIZE.false))
    ]

pub returns-else-all : goal.returns-else-all
returns-else-all c =
    let b = c.args.b.now in
    c.if-all.false
    ∙ elim c.if-b-eq-STATE_SIZE.branch [
      | then-b-eq-STATE_SIZE w ↦
          right_size b w.if-b-eq-STATE_SIZE.true false (every max_cores (core_flags_of b))
          (sym c.if-all.false ∙ w.value-is
          ∙ all_from_yields_List (source_flags_of b) _ _ w.all.result w.all.ensures.ran
          (YieldsList-from_range 0 max_sources max_sources refl refl) (λ x v q k. search (rules, tests))
          ∙ every_all max_sources (source_flags_of b))
          refl
      | else-b-eq-STATE_SIZE w ↦ wrong_size b w.if-b-eq-STATE_SIZE.false
    ]
