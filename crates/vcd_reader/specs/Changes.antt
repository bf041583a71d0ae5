-- Changes and times that give no command, and the word that gives one. A helper of contracts; nothing here needs to be believed.
-- Assumes nothing.
--   Places            the variable of a code takes a vector
--   Takes r time      the word # with this time gives a command
use Rattle.std.specs.Prelude.{ℕ, suc, ◌+◌, ◌<◌, ◌≤◌, ◌≡◌, List, ◌∷◌, true, false, not, ◌&&◌, length, get_or, eqb, Some}
use Rattle.recording.specs.declared.Place.{Place}
use Rattle.recording.specs.declared.Signal.TheVariants.{Stb}
use Rattle.recording.specs.declared.Vector.{Vector}
use Rattle.recording.specs.declared.Variables.{Variables}
use Rattle.recording.specs.declared.Reader.{Reader}
use Rattle.recording.specs.Words.{separator, word_with}
use Rattle.recording.specs.Values.{vector_of, code_of}
use Rattle.recording.specs.Records.{variable_with, with_variable_of, reader_with, at, with_up, with_taken, with_time}
use Rattle.recording.specs.Records.{read_with}
use Rattle.recording.specs.Stamps.{strobe_of}
use Rattle.recording.specs.Reading.{is_vector, vector_signal, read_vector_code, is_time, time_of, read_time}
use Rattle.vcd_words.specs.Partial.{bit_value}
use Rattle.vcd_reader.specs.declared.Given.{Given}
use Rattle.vcd_reader.specs.declared.Timed.{Timed}
use Rattle.vcd_reader.specs.Advances.{words_from, Follows}
use Rattle.vcd_reader.specs.Runs.{word_from, TimeThere}
use Rattle.vcd_reader.specs.Skipping.{change_place, in_block}

-- ---- vectors

-- After b or B, from an offset on: a vector, and at a later offset its code.
pub record CodedVector (t : List ℕ) (from : ℕ) (g : Given) : Type 0 where
  pub at : ℕ
  pub bits : is_vector (98 ∷ word_from t from) ≡ true
  pub vector : g.vector ≡ vector_of (word_from t from)
  pub passes : words_from t (from + length (word_from t from)) ≡ words_from t at
  pub later : from + length (word_from t from) ≤ at
  pub inside : at < length t
  pub starts : separator (get_or t at 0) ≡ false
  pub some : 0 < g.code
  pub code : g.code ≡ code_of (word_from t at)
  pub rest : words_from t (at + length (word_from t at)) ≡ words_from t g.end
  pub moves : at + length (word_from t at) ≤ g.end
  pub within : g.end ≤ length t

abbrev pub with_variables : Variables → Reader → Reader
with_variables vs r = reader_with r.place r.pending vs r.stamp r.taken r.fault

-- The code that a word spells names a variable that takes the vector.
pub record Places (vs : Variables) (code : ℕ) (v : Vector) (next : Variables) : Type 0 where
  pub some : 0 < code
  pub takes :
      (to : Place) (r : Reader) (i : ℕ) (w : List ℕ) → r.variables ≡ vs → r.pending.vector ≡ v → code ≡ code_of w →
      read_vector_code to (vector_signal r w) r (word_with i w) ≡ with_variables next (at to r)

-- ---- stb

abbrev pub with_level : Variables → ℕ → Variables
with_level vs b = with_variable_of vs Stb (variable_with vs.stb.code vs.stb.width (bit_value b))

-- ---- times

pub record QuietTime (t : List ℕ) (from : ℕ) (r : Reader) (a : Timed) : Type 0 where
  pub there : TimeThere t from a
  pub outside : in_block r.place ≡ false
  pub is_open : r.stamp.opened ≡ true
  pub known : r.variables.stb.value.known ≡ true
  pub quiet : (eqb r.variables.stb.value.number 1 && not r.stamp.up) ≡ false
  pub later : r.stamp.time < a.time

-- ---- the reader

-- changes may stand here
pub record MayChange (r : Reader) : Type 0 where
  pub place : r.place ≡ change_place (in_block r.place)
  pub good : r.fault.number ≡ 0

pub record Quiet (t : List ℕ) (i : ℕ) (r : Reader) (j : ℕ) (r' : Reader) : Type 0 where
  pub follows : Follows t i r j r'
  pub changes : MayChange r'

-- a word of the text is read, at least
pub record QuietWord (t : List ℕ) (i : ℕ) (r : Reader) (j : ℕ) (r' : Reader) : Type 0 where
  pub inside : i < length t
  pub moves : i < j
  pub quiet : Quiet t i r j r'

-- ---- the word that gives a command

abbrev pub after_command : Reader → ℕ → Reader
after_command r time = with_time time (with_taken (suc r.taken) (with_up true r))

pub record Takes (r : Reader) (time : ℕ) : Type 0 where
  pub room : r.taken < 65535
  pub gives :
      r.fault.number ≡ 0 → (i : ℕ) (w : List ℕ) → is_time w ≡ true → time ≡ time_of w →
      read_time r (word_with i w) ≡ read_with (after_command r time) (Some (strobe_of r))
