-- The end of a stamp: the command that is taken there. Definitions only. Assumes nothing.
-- Source: document 01, "A command is taken when stb is 1 at the end of a stamp and wasn't 1 at the end of the one before (0 before the
-- first); the other values are those at that end", "Set core priority and claim use core, the others arg as the id; the two that set
-- a priority use prio"; request 1/14, numbers 13 and 19.
--   end_stamp at r        the end of the open stamp, shown at an offset: 13, then 19, then perhaps a command
--   end_open_stamp at r    the same if a time was read; a text without a time has no stamp
use Rattle.std.specs.Prelude.{ℕ, suc, Bool, true, not, ◌&&◌, ◌||◌, cond, List, [], leb, eqb, Option, Some, None}
use Rattle.model.specs.declared.Command.{Command}
use Rattle.layout.specs.Commands.{command_of}
use Rattle.layout.specs.Bytes.{one_command}
use Rattle.recording.specs.declared.Signal.TheVariants.{Stb, Cmd, Core, Arg, Prio}
use Rattle.recording.specs.declared.Value.{Value}
use Rattle.recording.specs.declared.Reader.{Reader}
use Rattle.recording.specs.declared.Strobe.{Strobe}
use Rattle.recording.specs.declared.Read.{Read}
use Rattle.recording.specs.Records.{variable, with_up, with_taken, refused, strobe_with, read_with, only}

-- ---- numbers for no

-- Text against the grammar.
abbrev pub not_grammar : ℕ
not_grammar = 11

-- A variable missing, repeated, of another name or width, or a code used twice.
abbrev pub bad_variable : ℕ
bad_variable = 12

-- An x or z where a value is needed.
abbrev pub not_known : ℕ
not_known = 13

-- Time not rising.
abbrev pub not_rising : ℕ
not_rising = 14

-- A command after the 65,535th.
abbrev pub too_many : ℕ
too_many = 19

abbrev pub max_commands : ℕ
max_commands = 65535

-- ---- what the variables say

abbrev pub level : Reader → Value
level r = (variable r Stb).value

abbrev pub is_high : Reader → Bool
is_high r = (level r).known && eqb (level r).number 1

-- stb is 1 and wasn't at the end of the stamp before.
abbrev pub rises : Reader → Bool
rises r = is_high r && not r.stamp.up

-- By cmd's number: set core priority and claim; set source priority and set core priority.
abbrev pub uses_core : ℕ → Bool
uses_core c = eqb c 3 || eqb c 5

abbrev pub uses_priority : ℕ → Bool
uses_priority c = eqb c 0 || eqb c 3

abbrev pub command_value : Reader → Value
command_value r = (variable r Cmd).value

abbrev pub target_value : Reader → Value
target_value r = cond (uses_core (command_value r).number) (variable r Core).value (variable r Arg).value

abbrev pub level_value : Reader → Value
level_value r = (variable r Prio).value

-- cmd and every value that this command uses are known.
unfoldable pub is_readable : Reader → Bool
is_readable r =
    (command_value r).known &&
    (target_value r).known && (not (uses_priority (command_value r).number) || (level_value r).known)

unfoldable pub strobe_of : Reader → Strobe
strobe_of r =
    strobe_with (command_value r).number (target_value r).number
    (cond (uses_priority (command_value r).number) (level_value r).number 0)

-- The command of a strobe, none if there is none. cmd has three bits, so a strobe's number is 0 to 7 and names one.
unfoldable pub commands_of : Option Strobe → List Command
commands_of None = []
commands_of (Some s) = one_command (command_of s.number s.target s.level)

-- ---- the end of a stamp

unfoldable pub end_stamp : ℕ → Reader → Read
end_stamp at r =
    cond (not (level r).known) (only (refused not_known at r))
    (cond (not (rises r)) (only (with_up (is_high r) r))
    (cond (not (is_readable r)) (only (refused not_known at r))
    (cond (leb max_commands r.taken) (only (refused too_many at r))
    (read_with (with_taken (suc r.taken) (with_up true r)) (Some (strobe_of r))))))

unfoldable pub end_open_stamp : ℕ → Reader → Read
end_open_stamp at r = cond r.stamp.opened (end_stamp at r) (only r)
