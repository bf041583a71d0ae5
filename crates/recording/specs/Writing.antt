-- The text that is written of a run of commands. Definitions only. Assumes nothing.
-- Source: request 6/14, "one command to two stamps, all four values each time, stb up and down, stamps counted from 0. Values that a
-- command doesn't use are 0; vectors are written without leading zeros"; document 01, "Trigger 4 alone, as the model writes it".
--   digits base x      the digits of x, highest first, without a leading zero; 0 has one digit
--   written f cs       the whole text of the commands cs, with the widths of the form f; of no command it ends after the definitions
--   writable f c       no value that the command c uses is too large for its variable
-- Every line is ended by one newline. Refused commands are commands of the run, and are written too.
use Rattle.std.specs.Prelude.{ℕ, zero, suc, ◌+◌, ◌*◌, ◌/◌, ◌%◌, ◌^◌, List, [], ◌∷◌, ◌++◌, map, Bool, ◌&&◌, cond, ltb}
use Prim.Native.String.{String}
use Rattle.lists.specs.Rows.{joined}
use Rattle.model.specs.declared.Command.{Command}
use Rattle.layout.specs.Commands.{number_of, target_of, level_of}
use Rattle.recording.specs.declared.Signal.{Signal}
use Rattle.recording.specs.declared.Signal.TheVariants.{Stb, Cmd, Core, Arg, Prio}
use Rattle.recording.specs.Words.{bytes_of}
use Rattle.recording.specs.Declarations.{signals, name_of, Form, width_in}
use Rattle.recording.specs.Stamps.{uses_core}

-- ---- numbers

-- As many digits as the bound allows; a bound of x is enough for x, whatever the base of two or more (`DigitsExact`).
abbrev pub digits_within : ℕ → ℕ → ℕ → List ℕ
digits_within zero base x = x ∷ []
digits_within (suc k) base x = cond (ltb x base) (x ∷ []) (digits_within k base (x / base) ++ (x % base ∷ []))

unfoldable pub digits : ℕ → ℕ → List ℕ
digits base x = digits_within x base x

-- A digit's byte: 0 is 48.
abbrev pub digit_byte : ℕ → ℕ
digit_byte d = 48 + d

abbrev pub numeral_bytes : ℕ → ℕ → List ℕ
numeral_bytes base x = map digit_byte (digits base x)

-- ---- lines

abbrev pub line : List ℕ → List ℕ
line l = l ++ (10 ∷ [])

abbrev pub text_line : String → List ℕ
text_line s = line (bytes_of s)

-- The codes ! " # $ %.
abbrev pub code_byte : Signal → ℕ
code_byte Stb = 33
code_byte Cmd = 34
code_byte Core = 35
code_byte Arg = 36
code_byte Prio = 37

abbrev pub space : ℕ
space = 32

-- `$var wire 8 $ arg $end`.
abbrev pub declaration_line : Form → Signal → List ℕ
declaration_line f s =
    line (bytes_of "$var wire " ++ (numeral_bytes 10 (width_in f s) ++ (space ∷ code_byte s ∷ space ∷ (name_of s ++ bytes_of " $end"))))

unfoldable pub definition_text : Form → List ℕ
definition_text f =
    text_line "$timescale 1 ns $end" ++
    (text_line "$scope module psic $end" ++
    (joined (declaration_line f) signals ++ (text_line "$upscope $end" ++ text_line "$enddefinitions $end")))

-- `#17`.
abbrev pub time_line : ℕ → List ℕ
time_line t = line (35 ∷ numeral_bytes 10 t)

-- `b100 $`.
abbrev pub vector_line : Signal → ℕ → List ℕ
vector_line s x = line (98 ∷ (numeral_bytes 2 x ++ (space ∷ code_byte s ∷ [])))

-- `1!` or `0!`.
abbrev pub strobe_line : ℕ → List ℕ
strobe_line bit = line (digit_byte bit ∷ code_byte Stb ∷ [])

-- ---- a command

-- Set core priority and claim use core, the others arg; what isn't used is 0, as is a priority that isn't (`level_of`).
abbrev pub core_value : Command → ℕ
core_value c = cond (uses_core (number_of c)) (target_of c) 0

abbrev pub arg_value : Command → ℕ
arg_value c = cond (uses_core (number_of c)) 0 (target_of c)

abbrev pub value_for : Command → Signal → ℕ
value_for c Stb = 1
value_for c Cmd = number_of c
value_for c Core = core_value c
value_for c Arg = arg_value c
value_for c Prio = level_of c

-- cmd, core, arg and prio, in this order.
abbrev pub vectors : List Signal
vectors = Cmd ∷ Core ∷ Arg ∷ Prio ∷ []

-- The i-th command, counted from 0: up in stamp 2 i, down in the next.
unfoldable pub command_text : ℕ → Command → List ℕ
command_text i c =
    time_line (2 * i) ++
    (joined (λ s. vector_line s (value_for c s)) vectors ++ (strobe_line 1 ++ (time_line (suc (2 * i)) ++ strobe_line 0)))

unfoldable pub text_from : ℕ → List Command → List ℕ
text_from i [] = []
text_from i (c ∷ cs) = command_text i c ++ text_from (suc i) cs

-- ---- the whole text

unfoldable pub written : Form → List Command → List ℕ
written f cs = definition_text f ++ text_from 0 cs

-- ---- what fits

-- A variable of so many bits holds the number.
abbrev pub holds : ℕ → ℕ → Bool
holds width x = ltb x (2 ^ width)

-- Values that aren't used are 0 and fit.
abbrev pub writable : Form → Command → Bool
writable f c = holds (width_in f Core) (core_value c) && holds (width_in f Arg) (arg_value c) && holds (width_in f Prio) (level_of c)
