-- `vcd_writer::lines::put_time` meets its contract. Assumes nothing.
use Rattle.vcd_writer.proofs.Parts.{time_put}
use Rattle.vcd_writer.proofs.lines.put_time.Goals as goal

pub returns : goal.returns
returns c =
    time_put _ _ _ c.requires c.put_numeral.ensures
