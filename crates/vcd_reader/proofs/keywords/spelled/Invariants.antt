-- `vcd_reader::keywords::spelled` meets its contract. The loop's invariant is `SpelledTo`. Assumes nothing.
use Rattle.vcd_reader.proofs.Spelling.{SpelledTo}
use Rattle.vcd_reader.proofs.keywords.spelled.Given as goal

abbrev pub invariant-loop-letter : goal.invariant-loop-letter
invariant-loop-letter l = SpelledTo l.text l.at l.letters l.end l.letter-index
