-- No more commands than bytes (`NoMoreThanBytes`). Assumes nothing.
--   opens r             1 if a stamp is open, else 0
--   given-opened        a word, or the end of the text, gives a command only where a stamp is open
--   commands_words      the commands, and an open stamp, are together no more than the words read
--   length-words        the words of a text are no more than its bytes
use Prim.Native.Nat.{ℕ, suc, ◌+◌, ◌≤◌}
use mathlib.Core.List.{List, [], ◌∷◌, ◌++◌}
use mathlib.Core.Bool.{Bool, true, false, ◌&&◌, cond}
use native.Mathlib.Omega.{arith}
use lib.ListN.{length, length-append}
use Rattle.lists.proofs.Bools.{Flag, on, off, flag}
use Rattle.model.specs.declared.Command.{Command}
use Rattle.std.specs.Prelude.{Option, Some, None}
use Rattle.layout.specs.Bytes.{one_command}
use Rattle.layout.specs.Commands.{command_of}
use Rattle.recording.specs.declared.Reader.{Reader}
use Rattle.recording.specs.declared.Strobe.{Strobe}
use Rattle.recording.specs.Words.{separator, Word, closed, cut, words}
use Rattle.recording.specs.Records.{start}
use Rattle.recording.specs.Stamps.{commands_of}
use Rattle.recording.specs.Reading.{is_good, is_body, starts_time, read_word, finish, Progress, progress, advance, read_words, finished}
use Rattle.recording.specs.Reading.{answered, reading}
use Rattle.recording.specs.Faults.{taken_at}
use Rattle.recording.specs.Statements.{up_to, NoMoreThanBytes}
use Rattle.readings.proofs.Faults.{strobes_exact}
use Rattle.readings.proofs.Final.{bad_word, bad_finish}

-- ---- a command is given only where a stamp is open

abbrev pub opens : Reader → ℕ
opens r = cond r.stamp.opened 1 0

named_most : (d : Option Command) → length (one_command d) ≤ 1
named_most None = omega arith
named_most (Some c) = omega arith

pub strobe_most : (s : Option Strobe) → length (commands_of s) ≤ 1
unfolding commands_of
strobe_most None = omega arith
strobe_most (Some s) = named_most (command_of s.number s.target s.level)

taken_opened : (r : Reader) (b o : Bool) → length (commands_of (taken_at (b && o) r)) ≤ cond o 1 0
unfolding taken_at commands_of
taken_opened r b true = strobe_most (taken_at (b && true) r)
taken_opened r true false = omega arith
taken_opened r false false = omega arith

module _ (r : Reader) where
  pub word_opened : (w : Word) → length (commands_of (read_word r w).strobe) ≤ opens r
  unfolding commands_of
  word_opened w = go (flag (is_good r))
    where
      go : Flag (is_good r) → length (commands_of (read_word r w).strobe) ≤ opens r
      go (on e) = rw ((strobes_exact r e).0 w) (taken_opened r (is_body r.place && starts_time w.bytes) r.stamp.opened)
      go (off e) = rw (bad_word r w e) (omega arith)

  pub end_opened : (n : ℕ) → length (commands_of (finish n r).strobe) ≤ opens r
  unfolding commands_of
  end_opened n = go (flag (is_good r))
    where
      go : Flag (is_good r) → length (commands_of (finish n r).strobe) ≤ opens r
      go (on e) = rw ((strobes_exact r e).1 n) (taken_opened r true r.stamp.opened)
      go (off e) = rw (bad_finish n r e) (omega arith)

-- ---- commands and words

opens_most : (r : Reader) → opens r ≤ 1
opens_most r = go r.stamp.opened
  where
    go : (b : Bool) → cond b 1 0 ≤ 1
    go true = omega arith
    go false = omega arith

commands_words : (p : Progress) (ws : List Word) (n : ℕ) → length p.commands + opens p.reader ≤ n →
    length (read_words p ws).commands + opens (read_words p ws).reader ≤ n + length ws
unfolding read_words advance
commands_words p [] n h = omega arith
commands_words p (w ∷ ws) n h =
    let a = read_word p.reader w in
    let more : length (p.commands ++ commands_of a.strobe) + opens a.reader ≤ suc n
    = omega (arith, length-append p.commands (commands_of a.strobe), word_opened p.reader w, opens_most a.reader) in
    omega (arith, commands_words (advance p.commands a) ws (suc n) more)

closed_length : (end : ℕ) (w : List ℕ) (ws : List Word) → length (closed end w ws) ≤ length w + length ws
closed_length end [] ws = omega arith
closed_length end (b ∷ bs) ws = omega arith

length_cut : (at : ℕ) (w t : List ℕ) → length (cut at w t) ≤ length w + length t
unfolding cut
length_cut at w [] = closed_length at w []
length_cut at w (b ∷ bs) = go (separator b) (length_cut (suc at) [] bs) (length_cut (suc at) (w ++ (b ∷ [])) bs)
  where
    go : (s : Bool) → length (cut (suc at) [] bs) ≤ 0 + length bs →
        length (cut (suc at) (w ++ (b ∷ [])) bs) ≤ length (w ++ (b ∷ [])) + length bs →
        length (cond s (closed at w (cut (suc at) [] bs)) (cut (suc at) (w ++ (b ∷ [])) bs)) ≤ length w + length (b ∷ bs)
    go true h k = omega (arith, closed_length at w (cut (suc at) [] bs))
    go false h k = omega (arith, length-append w (b ∷ []))

pub no_more_than_bytes : NoMoreThanBytes
unfolding reading answered finished advance
no_more_than_bytes t =
    let p = up_to t in
    let a = finish (length t) p.reader in
    omega (
      arith,
      length-append p.commands (commands_of a.strobe),
      end_opened p.reader (length t),
      commands_words (progress start []) (words t) 0 (omega arith),
      length_cut 0 [] t,
    )
