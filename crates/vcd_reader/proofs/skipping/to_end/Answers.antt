-- `vcd_reader::skipping::to_end` meets its contract. The loop's invariant is `Reaches`. Assumes nothing.
use Rattle.vcd_reader.proofs.Passing.{reaches_more, ends_here}
use Rattle.vcd_reader.proofs.skipping.to_end.Goals as goal

pub returns-in-Some : goal.returns-in-Some
returns-in-Some c =
    let l = c.loop-i in
    ends_here _ _ l.i l.invariant c.loop-i-test.true c.in-Some.end c.in-Some.ensures

pub loop-i-preserved : goal.loop-i-preserved
loop-i-preserved c =
    let l = c.loop-i in
    reaches_more _ _ l.i l.invariant c.loop-i-test.true c.past.result _ c.in_default.ensures c.past.ensures
    c.skip-i-in-loop-i.ensures
