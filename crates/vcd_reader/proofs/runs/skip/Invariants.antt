-- `vcd_reader::runs::skip` meets its contract. The loop's invariant: the same words are left from i on. Assumes nothing.
use mathlib.Core.Path.{◌≡◌}
use Rattle.vcd_reader.specs.Advances.{words_from}
use Rattle.vcd_reader.proofs.runs.skip.Given as goal

abbrev pub invariant-loop-i : goal.invariant-loop-i
invariant-loop-i l = words_from l.text l.from ≡ words_from l.text l.i
