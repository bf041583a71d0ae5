-- How a controller might answer its commands: any function from a state and a command to an answer, and lists of commands under it.
-- Definitions only. Assumes nothing.
-- What is claimed of lists and refusals is claimed of such a function, so that it can be held against a wrong one too.
-- Source: document 01, "The list and the book", and the dummies of "How tight each statement is".
--   Behaviour          any such function; document 01's is `execute`
--   run_by x s cs       the state after a list of commands, refused ones included
--   answers_by x s cs   what they answer
use Rattle.std.specs.Prelude.{List, [], ◌∷◌}
use Rattle.model.specs.declared.Controller.{Controller}
use Rattle.model.specs.declared.Answer.{Answer}
use Rattle.model.specs.declared.Command.{Command}

abbrev pub Behaviour : Type 0
Behaviour = Controller → Command → Answer

-- Each command gets the state that the one before handed back.
unfoldable pub run_by : Behaviour → Controller → List Command → Controller
run_by x s [] = s
run_by x s (c ∷ cs) = run_by x (x s c).state cs

unfoldable pub answers_by : Behaviour → Controller → List Command → List Answer
answers_by x s [] = []
answers_by x s (c ∷ cs) = x s c ∷ answers_by x (x s c).state cs
