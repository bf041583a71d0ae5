-- A part of a text that takes a reader from one place to the next. Assumes nothing.
--   Passage at t r r' cs ts    the bytes t, which stand at an offset and end with a separator, take the reader r to r'; on the way the
--                              commands cs are taken, at the times ts
--   Passes t r r' cs ts        the same at every offset
--   nothing_passes             no byte
--   word_passes, quiet_passes  one word and a separator
--   text_passage               a text and a separator
--   passage_then, passes_then  two parts, one after the other
use Rattle.std.specs.Prelude.{Option}
use Prim.Native.Nat.{ℕ, suc, ◌+◌, ◌<◌}
use mathlib.Core.Path.{◌≡◌, refl, sym, ap, ◌∙◌}
use mathlib.Core.List.{List, [], ◌∷◌, ◌++◌, append-nil, append_assoc, map}
use mathlib.Core.Bool.{Bool, true, not}
use native.Mathlib.Omega.{arith}
use native.Mathlib.Nat.{not-suc-le-zero}
use lib.ListN.{length, length-append}
use Rattle.lists.proofs.Bools.{and_l, and_r}
use borrow.Author.Tests.{not-true}
use Rattle.model.specs.declared.Command.{Command}
use Rattle.recording.specs.declared.Reader.{Reader}
use Rattle.recording.specs.declared.Read.{Read}
use Rattle.recording.specs.declared.Strobe.{Strobe}
use Rattle.recording.specs.Words.{all, separator, Word, word_with, closed, cut, words}
use Rattle.recording.specs.Records.{read_with, only}
use Rattle.recording.specs.Stamps.{commands_of}
use Rattle.recording.specs.Reading.{read_word, Progress, progress, advance, read_words, times_at, times_from}
use Rattle.readings.proofs.Cutting.{cut_joined, read_words-joined, read_words-commands}
use Rattle.readings.proofs.Times.{times_joined}

-- ---- one word

abbrev pub is_plain : ℕ → Bool
is_plain b = not (separator b)

-- bytes that are no separators go on with the word under way
cut_plain : (at : ℕ) (v w : List ℕ) → all is_plain w ≡ true → cut at v w ≡ closed (at + length w) (v ++ w) []
unfolding cut
cut_plain at v [] h = λ k. closed (zero_more k) (sym (append-nil v) k) []
  where
    zero_more : at ≡ at + 0
    zero_more = omega arith
cut_plain at v (b ∷ w) h =
    rw (not-true (separator b) (and_l (is_plain b) (all is_plain w) h))
    (cut_plain (suc at) (v ++ (b ∷ [])) w (and_r (is_plain b) (all is_plain w) h) ∙
    λ k. closed (shifted k) (append_assoc v (b ∷ []) w k) [])
  where
    shifted : suc at + length w ≡ at + suc (length w)
    shifted = omega arith

-- a word and the separator behind it
cut_word : (at : ℕ) (w u : List ℕ) (b : ℕ) → 0 < length w → all is_plain w ≡ true → separator b ≡ true →
    cut at [] (w ++ (b ∷ u)) ≡ word_with at w ∷ cut (suc (at + length w)) [] u
cut_word at [] u b some plain s = absurd (not-suc-le-zero some)
cut_word at (c ∷ w) u b some plain s =
    cut_joined at [] (c ∷ w) u b s ∙
    ap (λ (ws : List Word). ws ++ cut (suc (at + suc (length w))) [] u) (cut_plain at [] (c ∷ w) plain) ∙
    ap (λ (n : ℕ). word_with n (c ∷ w) ∷ cut (suc (at + suc (length w))) [] u) (omega arith)

-- ---- passages

pub record Passage (at : ℕ) (t : List ℕ) (r r' : Reader) (cs : List Command) (ts : List ℕ) : Type 0 where
  pub words : List Word
  -- what follows is cut afresh
  pub parted : (u : List ℕ) → cut at [] (t ++ u) ≡ words ++ cut (at + length t) [] u
  pub reached : read_words (progress r []) words ≡ progress r' cs
  pub timed : times_from r words ≡ ts

abbrev pub Passes : List ℕ → Reader → Reader → List Command → List ℕ → Type 0
Passes t r r' cs ts = (at : ℕ) → Passage at t r r' cs ts

pub nothing_passes : (r : Reader) → Passes [] r r [] []
unfolding read_words times_from
nothing_passes r at =
    record { words = []; parted = λ u. ap (λ (n : ℕ). cut n [] u) (omega arith); reached = refl; timed = refl }

module _ (w : List ℕ) (b : ℕ) (r r' : Reader) where
  pub word_passes : (s : Option Strobe) → 0 < length w → all is_plain w ≡ true → separator b ≡ true →
      ((at : ℕ) → read_word r (word_with at w) ≡ read_with r' s) →
      Passes (w ++ (b ∷ [])) r r' (commands_of s) (map (λ (c : Command). r.stamp.time) (commands_of s))
  unfolding read_words advance times_from
  word_passes s some plain sep read at =
      record {
        words = word_with at w ∷ [];
        parted =
            λ u.
            ap (cut at []) (append_assoc w (b ∷ []) u) ∙ cut_word at w u b some plain sep ∙
            ap (λ (n : ℕ). word_with at w ∷ cut n [] u) (omega (arith, length-append w (b ∷ [])));
        reached = ap (λ (a : Read). progress a.reader (commands_of a.strobe)) (read at);
        timed =
            append-nil (times_at r (read_word r (word_with at w))) ∙
            ap (λ (a : Read). map (λ (c : Command). r.stamp.time) (commands_of a.strobe)) (read at);
      }

  pub quiet_passes : 0 < length w → all is_plain w ≡ true → separator b ≡ true → ((at : ℕ) → read_word r (word_with at w) ≡ only r') →
      Passes (w ++ (b ∷ [])) r r' [] []
  unfolding commands_of
  quiet_passes = word_passes _

-- the words of a text that a separator ends
pub text_passage : (t : List ℕ) (b : ℕ) (r r' : Reader) (cs : List Command) (ts : List ℕ) → separator b ≡ true →
    read_words (progress r []) (words t) ≡ progress r' cs → times_from r (words t) ≡ ts → Passage 0 (t ++ (b ∷ [])) r r' cs ts
text_passage t b r r' cs ts sep reached timed =
    record {
      words = words t;
      parted =
          λ u.
          ap (cut 0 []) (append_assoc t (b ∷ []) u) ∙ cut_joined 0 [] t u b sep ∙
          ap (λ (n : ℕ). words t ++ cut n [] u) (omega (arith, length-append t (b ∷ [])));
      reached = reached;
      timed = timed;
    }

module _ {at : ℕ} {t t' : List ℕ} {r r' r'' : Reader} {cs cs' : List Command} {ts ts' : List ℕ} where
  pub passage_then : Passage at t r r' cs ts → Passes t' r' r'' cs' ts' → Passage at (t ++ t') r r'' (cs ++ cs') (ts ++ ts')
  passage_then p next =
      let q : Passage (at + length t) t' r' r'' cs' ts' = next (at + length t) in
      record {
        words = p.words ++ q.words;
        parted =
            λ u.
            ap (cut at []) (append_assoc t t' u) ∙ p.parted (t' ++ u) ∙ ap (λ (ws : List Word). p.words ++ ws) (q.parted u) ∙
            sym (append_assoc p.words q.words (cut (at + length t + length t') [] u)) ∙
            ap (λ (n : ℕ). (p.words ++ q.words) ++ cut n [] u) (omega (arith, length-append t t'));
        reached =
            read_words-joined (progress r []) p.words q.words ∙ ap (λ (x : Progress). read_words x q.words) p.reached ∙
            read_words-commands r' cs q.words ∙ ap (λ (x : Progress). progress x.reader (cs ++ x.commands)) q.reached;
        timed =
            times_joined r p.words q.words ∙ (λ k. p.timed k ++ times_from (p.reached k).reader q.words) ∙
            ap (λ (l : List ℕ). ts ++ l) q.timed;
      }

module _ {t t' : List ℕ} {r r' r'' : Reader} {cs cs' : List Command} {ts ts' : List ℕ} where
  pub passes_then : Passes t r r' cs ts → Passes t' r' r'' cs' ts' → Passes (t ++ t') r r'' (cs ++ cs') (ts ++ ts')
  passes_then p next at = passage_then (p at) next
