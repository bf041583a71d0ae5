-- What a word is that begins at an offset. A helper of contracts; nothing here needs to be believed. Assumes nothing.
--   word_from t i      the bytes of the word from an offset on
--   Skips t i j       from i up to j there are only separators, and at j there is none
use Rattle.std.specs.Prelude.{ℕ, ◌+◌, ◌<◌, ◌≤◌, ◌≡◌, List, true, false, length, get_or, drop, leb, Some}
use Rattle.recording.specs.Words.{separator}
use Rattle.recording.specs.Values.{code_of, is_decimal, decimal}
use Rattle.recording.specs.Reading.{max_time}
use Rattle.vcd_words.specs.Partial.{run, more_bits}
use Rattle.vcd_words.specs.declared.Number.TheVariants.{Binary}
use Rattle.vcd_reader.specs.declared.Bits.{Bits}
use Rattle.vcd_reader.specs.declared.Coded.{Coded}
use Rattle.vcd_reader.specs.declared.Timed.{Timed}
use Rattle.vcd_reader.specs.Advances.{words_from}

abbrev pub word_from : List ℕ → ℕ → List ℕ
word_from t i = run (drop i t)

pub record Skips (t : List ℕ) (from end : ℕ) : Type 0 where
  pub moves : from ≤ end
  pub within : from ≤ length t → end ≤ length t
  pub passes : words_from t from ≡ words_from t end
  pub stops : end < length t → separator (get_or t end 0) ≡ false

-- ---- bits

-- Every byte of the word is a bit, and this is their number, if they are all known.
pub record BitsThere (t : List ℕ) (from : ℕ) (b : Bits) : Type 0 where
  pub some : from < b.end
  pub end : b.end ≡ from + length (word_from t from)
  pub number : more_bits (Some 0) (word_from t from) ≡ Some (Binary b.number)

-- ---- codes

pub record CodeThere (t : List ℕ) (from : ℕ) (c : Coded) : Type 0 where
  pub some : 0 < c.code
  pub end : c.end ≡ from + length (word_from t from)
  pub code : c.code ≡ code_of (word_from t from)

-- ---- times

pub record TimeThere (t : List ℕ) (from : ℕ) (a : Timed) : Type 0 where
  pub end : a.end ≡ from + length (word_from t from)
  pub digits : is_decimal (word_from t from) ≡ true
  pub fits : leb (decimal (word_from t from)) max_time ≡ true
  pub time : a.time ≡ decimal (word_from t from)
