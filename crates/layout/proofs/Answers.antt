-- The controller as a machine that takes a list of commands one at a time. Assumes nothing.
--   read_command         the command that a number and two words name, or none: the reader of `commands_in`
--   answers_from s cs    the answers' bytes, five each
--   answers_count       as many answers as commands
--   controller          the machine
--   same_bytes_lem          equal parts of an answer have equal bytes
use Prim.Native.Nat.{ℕ, suc}
use mathlib.Core.Path.{◌≡◌, refl, ap}
use mathlib.Core.List.{List, [], ◌∷◌, ◌++◌}
use lib.ListN.{length}
use Rattle.lists.specs.Rows.{joined}
use Rattle.model.specs.declared.Controller.{Controller}
use Rattle.model.specs.declared.Command.{Command}
use Rattle.model.specs.Behaviours.{run_by, answers_by}
use Rattle.model.specs.Commands.{execute, run}
use Rattle.model.specs.Ledger.{answers_to}
use Rattle.layout.specs.Commands.{command_of}
use Rattle.layout.specs.Bytes.{word, answer_bytes, one_command}
use Rattle.layout.proofs.Machines.{OneByOne, Machine}

abbrev pub read_command : ℕ → ℕ → ℕ → List Command
read_command number at p = one_command (command_of number at p)

abbrev pub answers_from : Controller → List Command → List ℕ
answers_from s cs = joined answer_bytes (answers_to s cs)

pub answers_count : (s : Controller) (cs : List Command) → length (answers_to s cs) ≡ length cs
unfolding answers_by
answers_count s [] = refl
answers_count s (c ∷ cs) = ap suc (answers_count (execute s c).state cs)

pub commands_one_by_one : OneByOne (λ s c. (execute s c).state) (λ s c. answer_bytes (execute s c)) run answers_from
unfolding run_by answers_by joined
commands_one_by_one =
    record {
      five = λ s c. refl;
      run_none = λ s. refl;
      run_more = λ s c cs. refl;
      answers_none = λ s. refl;
      answers_more = λ s c cs. refl;
    }

abbrev pub controller : Machine Controller Command
controller =
    record {
      next = λ s c. (execute s c).state;
      says = λ s c. answer_bytes (execute s c);
      run = run;
      answers = answers_from;
      one_by_one = commands_one_by_one;
    }

pub same_bytes_lem :
    {number id cycles number' id' cycles' : ℕ} → (number ≡ number') × (id ≡ id') × (cycles ≡ cycles') →
    number ∷ (word id ++ word cycles) ≡ number' ∷ (word id' ++ word cycles')
same_bytes_lem (e, f, g) = rw (e, f, g)
