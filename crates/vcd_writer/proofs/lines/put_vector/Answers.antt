-- `vcd_writer::lines::put_vector` meets its contract. Assumes nothing.
use Rattle.vcd_writer.proofs.Parts.{vector_put}
use Rattle.vcd_writer.proofs.lines.put_vector.Goals as goal

pub returns : goal.returns
returns c =
    vector_put _ _ _ _ c.requires c.put_ending-digits.ensures c.put_numeral.ensures
