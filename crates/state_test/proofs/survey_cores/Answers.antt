-- `state_test::survey_cores` meets its contract. The loop's invariant: the cores below k are sound, `seen` marks the sources in
-- their boxes, and the survey is what they show. Each early answer is refuted by what sound cores have there. Assumes nothing.
use Prim.Native.Nat.{◌+◌}
use mathlib.Core.Path.{◌≡◌, sym, ◌∙◌, ap}
use Rattle.std.proofs.Common.{arith, Some}
use Rattle.layout.specs.Bytes.{state_from}
use Rattle.well_formed.specs.Loops.{cores_to}
use Rattle.well_formed.proofs.Cores.{spares_refused, cores_passed}
use Rattle.well_formed.proofs.Marks.{Boxes, boxes_begin}
use Rattle.state_test.proofs.Read.{spares_of, shown_first, shown_more, out_of_range, seen_twice, unbacked, id_in, filled_more, empty_more}
use Rattle.state_test.proofs.survey_cores.Goals as goal
use Rattle.state_test.proofs.survey_cores.Goals.{then-c+else-seen-at+else-not-is_backed, else-c}
use Rattle.state_test.proofs.survey_cores.Goals.{then-seen-at-via-then-seen-at, then-seen-at-via-else-seen-at+then-not-is_backed}

pub returns-then-not-spare_cores : goal.returns-then-not-spare_cores
returns-then-not-spare_cores c =
    spares_refused (state_from c.args.state.now) (sym (spares_of c.requires c.spare_cores.ensures) ∙ c.if-not-spare_cores.true)

pub loop-k-init : goal.loop-k-init
loop-k-init c = (boxes_begin (state_from c.args.state.now), shown_first c.requires c.core_at.ensures c.current_priority.ensures)

pub returns-then-not-core_in_range : goal.returns-then-not-core_in_range
returns-then-not-core_in_range c =
    out_of_range c.requires c.loop-k-test.true c.core_at-c.ensures c.core_in_range.ensures c.if-not-core_in_range.true

pub overflow_sub-at : goal.overflow_sub-at
overflow_sub-at c =
    let id = id_in c.requires c.loop-k-test.true c.core_at-c.ensures c.core_in_range.ensures c.if-not-core_in_range.false c.if-c.true c.from-at.ensures in omega arith

pub bounds-seen-at : goal.bounds-seen-at
bounds-seen-at c =
    let id = id_in c.requires c.loop-k-test.true c.core_at-c.ensures c.core_in_range.ensures c.if-not-core_in_range.false c.if-c.true c.from-at.ensures in omega arith

pub source_at-requires : goal.source_at-requires
source_at-requires c =
    let id = id_in c.requires c.loop-k-test.true c.core_at-c.ensures c.core_in_range.ensures c.if-not-core_in_range.false c.if-c.true c.from-at.ensures in
    (c.requires.size, omega arith)

pub returns-then-seen-at : goal.returns-then-seen-at
returns-then-seen-at c =
    elim c.then-seen-at.branch [
      | then-seen-at-via-then-seen-at w ↦
          seen_twice c.requires c.loop-k-test.true c.core_at-c.ensures c.core_in_range.ensures c.if-not-core_in_range.false c.if-c.true c.from-at.ensures
          c.loop-k.invariant.0 w.if-seen-at.true
      | then-seen-at-via-else-seen-at+then-not-is_backed w ↦
          unbacked c.requires c.loop-k-test.true c.core_at-c.ensures c.core_in_range.ensures c.if-not-core_in_range.false c.if-c.true c.from-at.ensures
          w.source_at.ensures w.is_backed.ensures w.if-not-is_backed.true
    ]

pub bounds-seen-at-then-c : goal.bounds-seen-at-then-c
bounds-seen-at-then-c c =
    let id = id_in c.requires c.loop-k-test.true c.core_at-c.ensures c.core_in_range.ensures c.if-not-core_in_range.false c.if-c.true c.from-at.ensures in omega arith

pub loop-k-preserved : goal.loop-k-preserved
loop-k-preserved c =
    let (boxes, shown) = c.loop-k.invariant in
    let more : Boxes (state_from c.args.state.now) c.if-c.seen (c.loop-k.k + 1) =
    elim c.if-c.branch [
      | then-c+else-seen-at+else-not-is_backed w ↦
          filled_more c.requires c.loop-k-test.true c.core_at-c.ensures c.core_in_range.ensures c.if-not-core_in_range.false w.if-c.true w.from-at.ensures
          w.source_at.ensures w.is_backed.ensures boxes w.if-seen-at.false w.if-not-is_backed.false w.seen-is
      | else-c w ↦
          empty_more c.requires c.loop-k-test.true c.core_at-c.ensures c.core_in_range.ensures c.if-not-core_in_range.false
          boxes w.if-c.false w.seen-is
    ] in
    (more, shown_more c.requires c.loop-k-test.true c.core_at-c.ensures c.core_in_range.ensures shown c.with_core-v.ensures)

pub returns : goal.returns
returns c =
    let l = c.loop-k in
    let s = state_from c.args.state.now in
    let all : l.k ≡ s.m = omega (arith, c.loop-k-test.false, c.requires.m_is) in
    ap Some (l.invariant.1 ∙ ap (cores_to s.cores) all) ∙
    cores_passed s (λ j h. l.invariant.0.sound j (omega arith)) (sym (spares_of c.requires c.spare_cores.ensures) ∙ c.if-not-spare_cores.false)
