-- A written run is read back, each command in its stamp (`WrittenIsRead`, `WrittenTimes`). Assumes nothing.
--   opened        the definitions take the reader to the place before the first command
--   whole         the whole text as one passage
--   quiet_end     the text's end takes no command and shows no fault
use Prim.Native.Nat.{ℕ, zero, suc, ◌+◌, ◌*◌, ◌<◌}
use mathlib.Core.Path.{◌≡◌, refl, sym, ap, ◌∙◌, subst}
use mathlib.Core.List.Memᴰ
use mathlib.Core.List.Memᴰ.{head as here}
use mathlib.Core.List.Memᴰ.{tail as there}
use mathlib.Core.List.{List, [], ◌∷◌, ◌++◌, append-nil, Memᴰ}
use native.Mathlib.Omega.{arith}
use native.Mathlib.Nat.{not-suc-le-zero, le_of_suc-le-suc}
use lib.ListN.{length, get_or, take}
use Rattle.lists.specs.Rows.{joined}
use Rattle.lists.proofs.Rows.{tabulated_all}
use Rattle.model.specs.declared.Command.{Command}
use Rattle.recording.specs.declared.Reader.{Reader}
use Rattle.recording.specs.Words.{cut, words}
use Rattle.recording.specs.Values.{unknown, vector_with}
use Rattle.recording.specs.Records.{start}
use Rattle.recording.specs.Declarations.{Form, narrow, forms}
use Rattle.recording.specs.Stamps.{commands_of, end_stamp, end_open_stamp}
use Rattle.recording.specs.Reading.{and_then, finish, Progress, progress, advance, read_words, finished, reading_with, answered, reading}
use Rattle.recording.specs.Reading.{times_at}
use Rattle.recording.specs.Reading.{times_from, times_of}
use Rattle.recording.specs.Writing.{digits, definition_text, written}
use Rattle.recording.specs.WritingStatements.{Fits, WrittenIsRead, WrittenTimes}
use Rattle.recording.proofs.Examples.{computed}
use Rattle.writings.proofs.Passages.{Passage, text_passage, passage_then}
use Rattle.writings.proofs.Lines.{Held, held_with}
use Rattle.writings.proofs.Runs.{between, held_by, Sized, stamps_from, reader_after, run_passes}

-- ---- the definitions

-- before the first command nothing is known
abbrev pub unheld : Held
unheld = held_with (vector_with 0 unknown) unknown unknown unknown unknown

pub record Opened (f : Form) : Type 0 where
  pub sized : Sized f
  pub definitions : Passage 0 (definition_text f) start (between f 0 unheld) [] []

-- all but the last newline
narrow_lines : List ℕ
narrow_lines = take 196 (definition_text narrow)

narrow_opened : Opened narrow
unfolding computed times_from joined digits definition_text narrow_lines
narrow_opened =
    record {
      sized = record { arg = record { low = omega arith; high = omega arith }; prio = record { low = omega arith; high = omega arith } };
      definitions = text_passage narrow_lines 10 start (between narrow 0 unheld) [] [] refl refl refl;
    }

-- each form, by its own computation
pub opened : (f : Form) → Memᴰ f forms → Opened f
opened f (here e) = subst Opened (sym e) narrow_opened
opened f (there m) = absurd (Memᴰ.not-nil m)

-- ---- the end of the text

-- whatever was taken before
pub record Quiet (r : Reader) : Type 0 where
  pub read : (n : ℕ) (cs : List Command) → answered n (finished n (progress r cs)) ≡ reading_with cs 0 n
  pub untimed : (n : ℕ) → times_at r (finish n r) ≡ []

quiet_end : (f : Form) (i : ℕ) (h : Held) → Quiet (between f i h)
unfolding answered finished advance finish and_then end_open_stamp end_stamp commands_of
quiet_end f zero h = record { read = λ n cs. ap (λ (l : List Command). reading_with l 0 n) (append-nil cs); untimed = λ n. refl }
quiet_end f (suc i) h = record { read = λ n cs. ap (λ (l : List Command). reading_with l 0 n) (append-nil cs); untimed = λ n. refl }

quiet_after : (f : Form) (i : ℕ) (h : Held) (cs : List Command) → Quiet (reader_after f i h cs)
quiet_after f i h [] = quiet_end f i h
quiet_after f i h (c ∷ cs) = quiet_after f (suc i) (held_by c) cs

-- ---- the whole text

module _ {t : List ℕ} {r : Reader} {cs : List Command} {ts : List ℕ} (p : Passage 0 t start r cs ts) (quiet : Quiet r) where
  all_words : words t ≡ p.words
  unfolding cut
  all_words = ap words (sym (append-nil t)) ∙ p.parted [] ∙ append-nil p.words

  read_to_end : read_words (progress start []) (words t) ≡ progress r cs
  read_to_end = ap (read_words (progress start [])) all_words ∙ p.reached

  passage_read : reading t ≡ reading_with cs 0 (length t)
  unfolding reading
  passage_read = ap (λ (x : Progress). answered (length t) (finished (length t) x)) read_to_end ∙ quiet.read (length t) cs

  passage_times : times_of t ≡ ts
  unfolding times_of
  passage_times =
      ap (λ (x : Progress). times_from start (words t) ++ times_at x.reader (finish (length t) x.reader)) read_to_end ∙
      ap (λ (l : List ℕ). times_from start (words t) ++ l) (quiet.untimed (length t)) ∙ append-nil (times_from start (words t)) ∙
      ap (times_from start) all_words ∙ p.timed

module _ (f : Form) (cs : List Command) (fits : Fits f cs) where
  whole : Passage 0 (written f cs) start (reader_after f 0 unheld cs) cs (stamps_from 0 cs)
  unfolding written
  whole =
      let o : Opened f = opened f fits.listed in
      passage_then o.definitions (run_passes f o.sized 0 cs unheld (omega (arith, fits.count)) fits.values)

pub written_is_read : WrittenIsRead
written_is_read f cs fits = passage_read (whole f cs fits) (quiet_after f 0 unheld cs)

-- ---- the times

stamps_length : (i : ℕ) (cs : List Command) → length (stamps_from i cs) ≡ length cs
stamps_length i [] = refl
stamps_length i (c ∷ cs) = ap suc (stamps_length (suc i) cs)

stamp_at : (i : ℕ) (cs : List Command) (k : ℕ) → k < length cs → get_or (stamps_from i cs) k 0 ≡ 2 * (i + k)
stamp_at i [] k h = absurd (not-suc-le-zero h)
stamp_at i (c ∷ cs) zero h = omega arith
stamp_at i (c ∷ cs) (suc k) h = omega (arith, stamp_at (suc i) cs k (le_of_suc-le-suc h))

pub written_times : WrittenTimes
written_times f cs fits =
    passage_times (whole f cs fits) (quiet_after f 0 unheld cs) ∙
    sym (tabulated_all (length cs) (λ i. 2 * i) (stamps_from 0 cs) 0 (stamps_length 0 cs) (λ i h. omega (arith, stamp_at 0 cs i h)))
