-- Never more than 65,535 commands: a reader counts each that it gives, and gives none past that (`AtMost65535`). Assumes nothing.
use Rattle.std.specs.Prelude.{None, Some}
use Prim.Native.Nat.{ℕ, suc, ◌+◌, ◌≤◌}
use mathlib.Core.Path.{◌≡◌, refl, sym, ◌∙◌}
use mathlib.Core.List.{List, [], ◌∷◌}
use mathlib.Core.Bool.{Bool, true, false, not, cond}
use native.Mathlib.Omega.{arith}
use lib.ListN.{length, length-append}
use lib.Dec.{leb}
use borrow.Author.Tests.{leb-false}
use Rattle.lists.proofs.Bools.{Flag, on, off, flag}
use Rattle.recording.specs.declared.Signal.TheVariants.{Cmd}
use Rattle.recording.specs.declared.Reader.{Reader}
use Rattle.recording.specs.declared.Read.{Read}
use Rattle.recording.specs.Words.{Word, words}
use Rattle.recording.specs.Records.{start, with_up, with_taken, refused, read_with, only}
use Rattle.recording.specs.Stamps.{max_commands, level, is_high, rises, is_readable, strobe_of, commands_of, end_stamp, end_open_stamp}
use Rattle.recording.specs.Reading.{is_body, is_good, open_stamp, and_then, read_time, read_word, ending, finish, Progress, progress, advance}
use Rattle.recording.specs.Reading.{read_words, finished, answered, reading}
use Rattle.recording.specs.Statements.{CommandsTaken, up_to, AtMost65535}
use Rattle.readings.proofs.Final.{bad_word}
use Rattle.readings.proofs.Opening.{standing, Aside, word_aside, word_quiet, time_kept, read_time_lem}
use Rattle.readings.proofs.Commanded.{read_word-fit, named_one, start_fit, Fit}

-- ---- a word counts the command that it gives

pub record Counts (r : Reader) (a : Read) : Type 0 where
  pub given : r.taken + length (commands_of a.strobe) ≡ a.reader.taken
  pub bounded : r.taken ≤ 65535 → a.reader.taken ≤ 65535

only_counts : (r x : Reader) → x.taken ≡ r.taken → Counts r (only x)
unfolding commands_of
only_counts r x e = record { given = omega arith; bounded = λ h. omega arith }

strobe_counts : (r : Reader) → Fit r → leb max_commands r.taken ≡ false →
    Counts r (read_with (with_taken (suc r.taken) (with_up true r)) (Some (strobe_of r)))
unfolding commands_of strobe_of
strobe_counts r h e =
    let s = strobe_of r in
    record {
      given = omega (arith, named_one s.number s.target s.level (h.below Cmd));
      bounded = λ b. omega (arith, leb-false max_commands r.taken e);
    }

end_stamp-counts : (n : ℕ) (r : Reader) → Fit r → Counts r (end_stamp n r)
unfolding end_stamp
end_stamp-counts n r h = go (level r).known (rises r) (is_readable r) (leb max_commands r.taken) refl
  where
    taken : Read
    taken = read_with (with_taken (suc r.taken) (with_up true r)) (Some (strobe_of r))

    go : (k v d x : Bool) → leb max_commands r.taken ≡ x →
        Counts r
        (cond (not k) (only (refused 13 n r)) (cond (not v) (only (with_up (is_high r) r))
        (cond (not d) (only (refused 13 n r)) (cond x (only (refused 19 n r)) taken))))
    go false v d x e = only_counts r (refused 13 n r) refl
    go true false d x e = only_counts r (with_up (is_high r) r) refl
    go true true false x e = only_counts r (refused 13 n r) refl
    go true true true true e = only_counts r (refused 19 n r) refl
    go true true true false e = strobe_counts r h e

end_open_stamp-counts : (n : ℕ) (r : Reader) → Fit r → Counts r (end_open_stamp n r)
unfolding end_open_stamp
end_open_stamp-counts n r h = go r.stamp.opened
  where
    go : (b : Bool) → Counts r (cond b (end_stamp n r) (only r))
    go true = end_stamp-counts n r h
    go false = only_counts r r refl

then_counts : (r : Reader) (a : Read) (f : Reader → Reader) → (f a.reader).taken ≡ a.reader.taken → Counts r a →
    Counts r (and_then a f)
unfolding and_then
then_counts r a f e c = go (is_good a.reader)
  where
    go : (b : Bool) → Counts r (cond b (read_with (f a.reader) a.strobe) a)
    go true = record { given = c.given ∙ sym e; bounded = λ h. rw e (c.bounded h) }
    go false = c

module _ (r : Reader) (w : Word) (h : Fit r) where
  -- a word that stands as a time, and any other
  time_counts : Counts r (read_time r w)
  unfolding read_time
  time_counts =
      then_counts r (end_open_stamp w.at r) (λ r'. open_stamp r' w) (time_kept (end_open_stamp w.at r).reader w)
      (end_open_stamp-counts w.at r h)

  aside_counts : (a : Read) → Aside r a.reader → a.strobe ≡ None → Counts r a
  unfolding commands_of
  aside_counts a (stamp, taken) e =
      record { given = rw e (omega (arith, taken)); bounded = λ b. omega (arith, taken) }

  read_word-counts : Counts r (read_word r w)
  read_word-counts = go (flag (standing r w)) (flag (is_good r))
    where
      go : Flag (standing r w) → Flag (is_good r) → Counts r (read_word r w)
      go (on s) (on g) = rw (read_time_lem r w s g) time_counts
      go (on s) (off g) = rw (bad_word r w g) (only_counts r r refl)
      go (off s) g = aside_counts (read_word r w) (word_aside r w s) (word_quiet r w s)

finish_counts : (n : ℕ) (r : Reader) → Fit r → Counts r (finish n r)
unfolding finish
finish_counts n r h = go (is_good r)
  where
    a : Read
    a = end_open_stamp n r

    ending_keeps : (b : Bool) (x : Reader) → (cond b x (refused 11 n x)).taken ≡ x.taken
    ending_keeps true x = refl
    ending_keeps false x = refl

    go : (b : Bool) → Counts r (cond b (and_then a (ending n)) (only r))
    go true =
        then_counts r a (ending n) (ending_keeps (is_body a.reader.place) a.reader) (end_open_stamp-counts n r h)
    go false = only_counts r r refl

-- ---- the whole reading

-- as many commands as the reader counts, and not too many
pub record Counted (p : Progress) : Type 0 where
  pub given : length p.commands ≡ p.reader.taken
  pub bounded : p.reader.taken ≤ 65535

advance_counted : (p : Progress) (a : Read) → Counted p → Counts p.reader a → Counted (advance p.commands a)
unfolding advance
advance_counted p a c s =
    record {
      given = omega (arith, length-append p.commands (commands_of a.strobe), c.given, s.given);
      bounded = s.bounded c.bounded;
    }

words_counted : (p : Progress) (ws : List Word) → Fit p.reader → Counted p → Fit (read_words p ws).reader × Counted (read_words p ws)
unfolding read_words advance
words_counted p [] h c = (h, c)
words_counted p (w ∷ ws) h c =
    words_counted (advance p.commands (read_word p.reader w)) ws (read_word-fit p.reader w h)
    (advance_counted p (read_word p.reader w) c (read_word-counts p.reader w h))

-- the reading to its end
counted : (t : List ℕ) → Counted (finished (length t) (up_to t))
unfolding finished
counted t =
    let (h, c) = words_counted (progress start []) (words t) start_fit (record { given = refl; bounded = omega arith }) in
    advance_counted (up_to t) (finish (length t) (up_to t).reader) c (finish_counts (length t) (up_to t).reader h)

pub at_most_65535 : AtMost65535
unfolding reading answered
at_most_65535 t = omega (arith, (counted t).given, (counted t).bounded)

pub commands_taken : CommandsTaken
unfolding reading answered
commands_taken t = (counted t).given
