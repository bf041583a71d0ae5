-- What is yet to be read of a text. Helpers of contracts; nothing here needs to be believed. Assumes nothing.
--   remaining t at r       from an offset between two words on, to the text's end and with it
--   to_come t at r         the same from where the text is read next
--   Continues t at r a     a part of it is read, up to a command or the end
use Rattle.std.specs.Prelude.{ℕ, ◌<◌, ◌≤◌, ◌≡◌, List, [], ◌++◌, map, length, ltb, Option, Some, None}
use Rattle.std.specs.Bool.{then_some}
use Rattle.model.specs.declared.Command.{Command}
use Rattle.recording.specs.declared.Reader.{Reader}
use Rattle.recording.specs.declared.Strobe.{Strobe}
use Rattle.recording.specs.Stamps.{commands_of}
use Rattle.recording.specs.Reading.{finish, Progress, progress, read_words, times_at, times_from}
use Rattle.vcd_reader.specs.Advances.{words_from}
use Rattle.vcd_reader.specs.declared.Advanced.{Advanced}

-- Commands to come, their times, and the reader after the text's end.
pub record Remaining : Type 0 where
  pub commands : List Command
  pub times : List ℕ
  pub reader : Reader

abbrev pub remaining_with : List Command → List ℕ → Reader → Remaining
remaining_with commands times r = record { commands = commands; times = times; reader = r }

-- The end of a text of n bytes, after some words from the reader r on, whose times are given.
abbrev pub to_end : ℕ → Progress → List ℕ → Remaining
to_end n p times =
    let a = finish n p.reader in
    remaining_with (p.commands ++ commands_of a.strobe) (times ++ times_at p.reader a) a.reader

unfoldable pub remaining : List ℕ → ℕ → Reader → Remaining
remaining t at r = to_end (length t) (read_words (progress r []) (words_from t at)) (times_from r (words_from t at))

-- From where the text is read next; None: its end is read.
abbrev pub to_come : List ℕ → Option ℕ → Reader → Remaining
to_come t (Some at) r = remaining t at r
to_come t None r = remaining_with [] [] r

-- The command of a strobe, if it gives one, before others.
abbrev pub before : Option Strobe → ℕ → Remaining → Remaining
before s time q = remaining_with (commands_of s ++ q.commands) (map (λ (c : Command). time) (commands_of s) ++ q.times) q.reader

-- A part up to a command, or up to the end of the words, where the end of the text is read next.
pub record Continues (t : List ℕ) (at : ℕ) (r : Reader) (a : Advanced) : Type 0 where
  pub within : a.end ≤ length t
  pub forth : at ≤ a.end
  pub moves : at < length t → at < a.end
  pub reads : remaining t at r ≡ before a.strobe a.time (to_come t (then_some (ltb at (length t)) a.end) a.reader)
