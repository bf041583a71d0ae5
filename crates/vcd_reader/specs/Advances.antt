-- What a part of a reading answers. A helper of contracts; nothing here needs to be believed. Assumes nothing.
--   Follows t i r j r'     the words from i up to j are read, and give no command
--   Advances t from r a    from an offset on, the words of t up to a place between two of them are read: what is read from there on gives
--                          the same commands, times and reader as what is read from the offset on
use Rattle.std.specs.Prelude.{ℕ, ◌<◌, ◌≤◌, ◌≡◌, List, [], ◌++◌, map, length, drop, Option}
use Rattle.model.specs.declared.Command.{Command}
use Rattle.recording.specs.declared.Reader.{Reader}
use Rattle.recording.specs.declared.Strobe.{Strobe}
use Rattle.recording.specs.Words.{Word, cut}
use Rattle.recording.specs.Stamps.{commands_of}
use Rattle.recording.specs.Reading.{progress, read_words, times_from}
use Rattle.vcd_reader.specs.declared.Advanced.{Advanced}

-- the words of t from an offset on, at which no word is under way
abbrev pub words_from : List ℕ → ℕ → List Word
words_from t i = cut i [] (drop i t)

abbrev pub advanced_with : Reader → ℕ → Option Strobe → ℕ → Advanced
advanced_with r end s time = record { reader = r; end = end; strobe = s; time = time }

pub record Follows (t : List ℕ) (i : ℕ) (r : Reader) (j : ℕ) (r' : Reader) : Type 0 where
  pub moves : i ≤ j
  pub within : i ≤ length t → j ≤ length t
  pub reads : (cs : List Command) → read_words (progress r cs) (words_from t i) ≡ read_words (progress r' cs) (words_from t j)
  pub times : times_from r (words_from t i) ≡ times_from r' (words_from t j)

pub record Advances (t : List ℕ) (from : ℕ) (r : Reader) (a : Advanced) : Type 0 where
  pub within : from ≤ length t → a.end ≤ length t
  pub moves : from < length t → from < a.end
  pub reads :
      (cs : List Command) →
      read_words (progress r cs) (words_from t from) ≡ read_words (progress a.reader (cs ++ commands_of a.strobe)) (words_from t a.end)
  pub times :
      times_from r (words_from t from) ≡
      map (λ (c : Command). a.time) (commands_of a.strobe) ++ times_from a.reader (words_from t a.end)
