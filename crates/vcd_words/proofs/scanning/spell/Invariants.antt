-- The invariant of the loop of `vcd_words::scanning::spell`: the run that is left makes of what is spelled so far what the whole run makes
-- of what was given. Assumes nothing.
use Prim.Native.Nat.{◌+◌}
use mathlib.Core.Path.{◌≡◌}
use lib.ListN.{length, drop}
use Rattle.vcd_words.specs.Partial.{run, spell_high, spell_low}
use Rattle.vcd_words.proofs.scanning.spell.Given as goal

abbrev pub invariant-loop-i : goal.invariant-loop-i
invariant-loop-i l = record {
  ends : l.i + length (run (drop l.i l.text)) ≡ length (run l.text);
  highs : spell_high l.high l.low (run (drop l.i l.text)) ≡ spell_high l.fn.high l.fn.low (run l.text);
  lows : spell_low l.low (run (drop l.i l.text)) ≡ spell_low l.fn.low (run l.text);
}
