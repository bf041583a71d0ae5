-- `vcd_writer::text_length` meets its contract. The loop's invariant is `MeasuredTo`. Assumes nothing.
use Rattle.vcd_writer.proofs.Texts.{measured_none, measured_one}
use Rattle.vcd_writer.proofs.text_length.Goals as goal

pub loop-k-init : goal.loop-k-init
loop-k-init c = measured_none _

pub loop-k-preserved : goal.loop-k-preserved
loop-k-preserved c =
    let e = c.command_length-sum.ensures in
    measured_one _ c.loop-k.invariant (rw c.at.ensures at e.0) e.1
