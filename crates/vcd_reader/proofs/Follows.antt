-- A text read on. Assumes nothing.
--   follows_none, follows_then, follows_passes, follows_skips    nothing is read; one part after another; separators
--   follows_separator, follows_word               a separator; a word that gives no command
--   follows_bad                                   a reader with a fault stays as it is
--   advances_word, advances_after, advances_quiet a word; after words that give no command; these words alone
--   keeps_run                                     what is kept of the word at an offset
use Rattle.std.specs.Prelude.{None}
use Prim.Native.Nat.{ℕ, ◌+◌, ◌<◌, ◌≤◌}
use mathlib.Core.Path.{◌≡◌, refl, sym, ap, ◌∙◌}
use mathlib.Core.List.{List, [], ◌∷◌, ◌++◌, append-nil}
use mathlib.Core.Bool.{true, false}
use lib.ListN.{length, get_or, drop}
use native.Mathlib.Omega.{arith}
use Rattle.model.specs.declared.Command.{Command}
use Rattle.recording.specs.declared.Reader.{Reader}
use Rattle.recording.specs.declared.Read.{Read}
use Rattle.recording.specs.Words.{separator, Word, word_with}
use Rattle.recording.specs.Records.{only}
use Rattle.recording.specs.Stamps.{commands_of}
use Rattle.recording.specs.Reading.{is_good, read_word, progress, advance, read_words, times_at, times_from}
use Rattle.vcd_words.specs.declared.Partial.{Partial}
use Rattle.vcd_words.specs.Partial.{run, empty, extended_by, Keeps}
use Rattle.vcd_words.proofs.Numbers.{run_inside}
use Rattle.vcd_reader.specs.declared.Advanced.{Advanced}
use Rattle.vcd_reader.specs.Advances.{words_from, advanced_with, Follows, Advances}
use Rattle.vcd_reader.specs.Runs.{Skips}
use Rattle.vcd_reader.proofs.Cuts.{cut_separator, run_some, cut_word, run_small}

-- ---- lists of words

-- a word that gives no command, and the others
reads_quiet :
    (r r' : Reader) (w : Word) (ws : List Word) → read_word r w ≡ only r' → (cs : List Command) →
    read_words (progress r cs) (w ∷ ws) ≡ read_words (progress r' cs) ws
unfolding read_words advance commands_of
reads_quiet r r' w ws e cs =
    ap (λ (a : Read). read_words (advance cs a) ws) e ∙ ap (λ (l : List Command). read_words (progress r' l) ws) (append-nil cs)

times_quiet : (r r' : Reader) (w : Word) (ws : List Word) → read_word r w ≡ only r' → times_from r (w ∷ ws) ≡ times_from r' ws
unfolding times_from commands_of
times_quiet r r' w ws e = ap (λ (a : Read). times_at r a ++ times_from a.reader ws) e

module _ (r : Reader) (e : is_good r ≡ false) where
  reads_bad : (ws : List Word) (cs : List Command) → read_words (progress r cs) ws ≡ progress r cs
  unfolding read_words read_word
  reads_bad [] cs = refl
  reads_bad (w ∷ ws) cs = reads_quiet r r w ws (rw e) cs ∙ reads_bad ws cs

  times_bad : (ws : List Word) → times_from r ws ≡ []
  unfolding times_from read_word
  times_bad [] = refl
  times_bad (w ∷ ws) = times_quiet r r w ws (rw e) ∙ times_bad ws

-- ---- parts of a text

module _ (t : List ℕ) where
  pub follows_none : (i : ℕ) (r : Reader) → Follows t i r i r
  follows_none i r = record { moves = omega arith; within = λ h. h; reads = λ cs. refl; times = refl }

  pub follows_then : {i j k : ℕ} {r r' r'' : Reader} → Follows t i r j r' → Follows t j r' k r'' → Follows t i r k r''
  follows_then f g =
      record {
        moves = omega (arith, f.moves, g.moves);
        within = λ h. g.within (f.within h);
        reads = λ cs. f.reads cs ∙ g.reads cs;
        times = f.times ∙ g.times;
      }

  pub follows_passes : (i j : ℕ) (r : Reader) → i ≤ j → (i ≤ length t → j ≤ length t) → words_from t i ≡ words_from t j → Follows t i r j r
  follows_passes i j r h k e =
      record { moves = h; within = k; reads = λ cs. ap (read_words (progress r cs)) e; times = ap (times_from r) e }

  pub follows_skips : (i j : ℕ) (r : Reader) → Skips t i j → Follows t i r j r
  follows_skips i j r s = follows_passes i j r s.moves s.within s.passes

  module _ (i : ℕ) (h : i < length t) (e : separator (get_or t i 0) ≡ false) (end : ℕ) (f : end ≡ i + length (run (drop i t))) where
    pub word_moves : i < end
    word_moves = omega (arith, run_some t i h e)

    pub word_within : end ≤ length t
    word_within = run_inside t i end f word_moves

    pub keeps_run :
        (s n : Partial) → s ≡ extended_by n (run (drop i t)) → n ≡ empty → ((j : ℕ) → get_or t j 0 < 256) → Keeps s (run (drop i t))
    keeps_run s n es en bytes =
        record {
          kept = es ∙ ap (λ (x : Partial). extended_by x (run (drop i t))) en;
          small = run_small t i bytes;
          some = run_some t i h e;
        }

    pub follows_word : (r r' : Reader) → read_word r (word_with i (run (drop i t))) ≡ only r' → Follows t i r end r'
    follows_word r r' g =
        record {
          moves = omega (arith, word_moves);
          within = λ x. word_within;
          reads = λ cs. ap (read_words (progress r cs)) (cut_word t i h e end f) ∙ reads_quiet r r' _ _ g cs;
          times = ap (times_from r) (cut_word t i h e end f) ∙ times_quiet r r' _ _ g;
        }

    pub advances_word :
        (r : Reader) (a : Read) → a ≡ read_word r (word_with i (run (drop i t))) →
        Advances t i r (advanced_with a.reader end a.strobe r.stamp.time)
    unfolding read_words advance times_from
    advances_word r a g =
        record {
          within = λ x. word_within;
          moves = λ x. word_moves;
          reads =
              λ cs.
              ap (read_words (progress r cs)) (cut_word t i h e end f)
              ∙ ap (λ (x : Read). read_words (advance cs x) (words_from t end)) (sym g);
          times =
              ap (times_from r) (cut_word t i h e end f)
              ∙ ap (λ (x : Read). times_at r x ++ times_from x.reader (words_from t end)) (sym g);
        }

  -- words that give no command, and then something that moves
  pub advances_after :
      {i j : ℕ} {r r' : Reader} {a : Advanced} → Follows t i r j r' → j < length t → Advances t j r' a → Advances t i r a
  advances_after {i} {j} {r} {r'} {a} f h s =
      record {
        within = λ x. s.within (f.within x);
        moves = λ x. omega (arith, f.moves, s.moves h);
        reads = λ cs. f.reads cs ∙ s.reads cs;
        times = f.times ∙ s.times;
      }

  -- words that give no command, and nothing else
  pub advances_quiet :
      {i j : ℕ} {r r' : Reader} {a : Advanced} → a ≡ advanced_with r' j None 0 → Follows t i r j r' → (i < length t → i < j) →
      Advances t i r a
  unfolding commands_of
  advances_quiet {i} {j} {r} {r'} e f h =
      rw e
      (record {
        within = f.within;
        moves = h;
        reads = λ cs. f.reads cs ∙ ap (λ (l : List Command). read_words (progress r' l) (words_from t j)) (sym (append-nil cs));
        times = f.times;
      })

  pub follows_separator : (i : ℕ) (r : Reader) → i < length t → separator (get_or t i 0) ≡ true → Follows t i r (i + 1) r
  follows_separator i r h e = follows_passes i (i + 1) r (omega arith) (λ x. omega arith) (cut_separator t i h e)

  -- a reader with a fault stays as it is
  pub follows_bad : (i : ℕ) (r : Reader) → i ≤ length t → is_good r ≡ false → Follows t i r (length t) r
  follows_bad i r h e =
      record {
        moves = h;
        within = λ x. omega arith;
        reads = λ cs. reads_bad r e (words_from t i) cs ∙ sym (reads_bad r e (words_from t (length t)) cs);
        times = times_bad r e (words_from t i) ∙ sym (times_bad r e (words_from t (length t)));
      }
