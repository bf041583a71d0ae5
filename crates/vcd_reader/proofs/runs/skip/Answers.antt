-- `vcd_reader::runs::skip` meets its contract: a separator is passed. Assumes nothing.
use mathlib.Core.Path.{sym, ◌∙◌}
use Rattle.vcd_reader.proofs.Cuts.{cut_separator}
use Rattle.vcd_reader.proofs.runs.skip.Goals as goal

pub loop-i-preserved : goal.loop-i-preserved
loop-i-preserved c =
    c.loop-i.invariant
    ∙ cut_separator _ c.loop-i.i c.loop-i-test.true (sym c.is_separator.ensures ∙ c.if-not-is_separator.false)
