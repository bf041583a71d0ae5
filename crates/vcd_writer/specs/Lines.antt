-- The text of a run by the numbers in its bytes, and bytes put before an offset. Nothing here needs to be believed. Assumes nothing.
--   vector_of code x                  a vector's line, by the byte of its code
--   core_of, arg_of, prio_of, value_of   what the variables hold, from a command's numbers
--   value_lines value                 a command's vectors
--   lines_of t value                  its lines: up in the stamp t, down in the next
--   numbers_at list k                 the numbers of the k-th command of a row of bytes
--   lines_at list k, fits_at list k    its lines, and whether the values that it uses fit
--   text_to list k                    the text of the first k commands
--   Room l end b                     the bytes l have room in b before an offset
--   Put b end l start b'             b with the bytes l from a start up to an end is b'
use Rattle.std.specs.Prelude.{ℕ, suc, ◌+◌, ◌*◌, ◌≤◌, ◌≡◌, List, [], ◌∷◌, ◌++◌, Bool, ◌&&◌, cond, length, get_or}
use Rattle.std.proofs.lemmas.List.Edits.{sets}
use Rattle.lists.specs.Rows.{gather, joined}
use Rattle.layout.specs.Bytes.{word_at, command_size}
use Rattle.recording.specs.declared.Signal.{Signal}
use Rattle.recording.specs.declared.Signal.TheVariants.{Stb, Cmd, Core, Arg, Prio}
use Rattle.vcd_writer.specs.declared.values.Numbers.{Numbers}
use Rattle.recording.specs.Declarations.{narrow, width_in}
use Rattle.recording.specs.Stamps.{uses_core, uses_priority}
use Rattle.recording.specs.Writing.{numeral_bytes, line, space, time_line, vector_line, strobe_line, vectors, definition_text, holds}

-- ---- by their numbers

abbrev pub vector_of : ℕ → ℕ → List ℕ
vector_of code x = line (98 ∷ (numeral_bytes 2 x ++ (space ∷ code ∷ [])))

abbrev pub core_of : Numbers → ℕ
core_of numbers = cond (uses_core numbers.number) numbers.target 0

abbrev pub arg_of : Numbers → ℕ
arg_of numbers = cond (uses_core numbers.number) 0 numbers.target

abbrev pub prio_of : Numbers → ℕ
prio_of numbers = cond (uses_priority numbers.number) numbers.level 0

abbrev pub value_of : Numbers → Signal → ℕ
value_of numbers Stb = 1
value_of numbers Cmd = numbers.number
value_of numbers Core = core_of numbers
value_of numbers Arg = arg_of numbers
value_of numbers Prio = prio_of numbers

unfoldable pub value_lines : (Signal → ℕ) → List ℕ
value_lines value = joined (λ s. vector_line s (value s)) vectors

unfoldable pub lines_of : ℕ → (Signal → ℕ) → List ℕ
lines_of t value = time_line t ++ (value_lines value ++ (strobe_line 1 ++ (time_line (suc t) ++ strobe_line 0)))

abbrev pub fits_of : Numbers → Bool
fits_of numbers =
    holds (width_in narrow Core) (core_of numbers) &&
    holds (width_in narrow Arg) (arg_of numbers) && holds (width_in narrow Prio) (prio_of numbers)

-- ---- in a row of bytes

-- The three numbers at the k-th place.
abbrev pub numbers_at : List ℕ → ℕ → Numbers
numbers_at list k =
    record {
      number = get_or list (command_size * k) 0;
      target = word_at list (command_size * k + 1);
      level = word_at list (command_size * k + 3);
    }

abbrev pub lines_at : List ℕ → ℕ → List ℕ
lines_at list k = lines_of (2 * k) (value_of (numbers_at list k))

abbrev pub fits_at : List ℕ → ℕ → Bool
fits_at list k = fits_of (numbers_at list k)

unfoldable pub text_to : List ℕ → ℕ → List ℕ
text_to list k = definition_text narrow ++ gather k (lines_at list)

-- ---- in a buffer

pub record Room (l : List ℕ) (end : ℕ) (b : List ℕ) : Type 0 where
  pub long : length l ≤ end
  pub inside : end ≤ length b

pub record Put (b : List ℕ) (end : ℕ) (l : List ℕ) (start : ℕ) (b' : List ℕ) : Type 0 where
  pub place : start + length l ≡ end
  pub stored : b' ≡ sets b start l
