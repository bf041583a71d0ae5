-- `core_steps::retract_all` meets its contract: the boxes passed are empty. Assumes nothing.
use Rattle.std.proofs.Common.{arith}
use Rattle.core_steps.proofs.Retracted.{emptying_none, emptying_by, core_inside, box_names, emptying_filled}
use Rattle.core_steps.proofs.Retracted.{emptying_empty, emptying_all}
use Rattle.core_steps.proofs.retract_all.Goals as goal
use Rattle.core_steps.proofs.retract_all.Goals.{else-c, then-c}

pub loop-k-init : goal.loop-k-init
loop-k-init c = emptying_none c.requires

pub core_at-c-requires : goal.core_at-c-requires
core_at-c-requires c =
    let e = c.loop-k.invariant in (e.held.size, core_inside e c.cores_in-m.ensures c.loop-k-test.true)

pub retract-requires : goal.retract-requires
retract-requires c =
    let e = c.loop-k.invariant in
    (e.held.size, core_inside e c.cores_in-m.ensures c.loop-k-test.true, box_names e c.cores_in-m.ensures c.loop-k-test.true c.core_at-c.ensures)

pub loop-k-preserved : goal.loop-k-preserved
loop-k-preserved c =
    let e = c.loop-k.invariant in
    elim c.if-c.branch [
      | then-c w ↦
          emptying_by (emptying_filled e c.cores_in-m.ensures c.loop-k-test.true c.core_at-c.ensures w.if-c.true w.retract.ensures)
          w.state-is w.ranking-is w.cycles-is
      | else-c w ↦
          emptying_by (emptying_empty e c.cores_in-m.ensures c.loop-k-test.true c.core_at-c.ensures w.if-c.false)
          w.state-is w.ranking-is w.cycles-is
    ]

pub returns : goal.returns
returns c = emptying_all c.loop-k.invariant (omega (arith, c.loop-k-test.false, c.cores_in-m.ensures))
