-- A text read without a fault is derived by the grammar, and a derived text shows neither 11 nor 12 (`GrammarExact`). Assumes nothing.
use lib.ListN.{length}
use borrow.Author.Tests.{eq-eqb}
use Rattle.recording.specs.Words.{words}
use Rattle.recording.specs.Reading.{finished, answered, reading}
use Rattle.recording.specs.Statements.{up_to, GrammarExact}
use Rattle.readings.proofs.Steps.{Clear}
use Rattle.readings.proofs.Derived.{read_derived}
use Rattle.readings.proofs.Followed.{derived_clear}

pub grammar_exact : GrammarExact
unfolding reading answered
grammar_exact t = (
  (λ e. read_derived (length t) (words t) (eq-eqb (finished (length t) (up_to t)).reader.fault.number 0 e)),
  (λ d.
      let c : Clear (finished (length t) (up_to t)).reader.fault = derived_clear (length t) (words t) d in
      (c.not_grammar, c.not_variable)),
)
