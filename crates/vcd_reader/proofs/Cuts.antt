-- The words of a text, from an offset on. Assumes nothing.
--   cut_separator    a separator is passed
--   cut_word         the run of bytes from an offset on is a word, and the others follow it
--   run_small        the bytes of a run are bytes
use Prim.Native.Nat.{ℕ, suc, ◌+◌, ◌-◌, ◌<◌}
use mathlib.Core.Path.{◌≡◌, refl, sym, ap, ap₂, ◌∙◌}
use mathlib.Core.List.{List, [], ◌∷◌, ◌++◌, append-nil, append_assoc}
use mathlib.Core.Bool.{true, false}
use lib.ListN.{length, get_or, drop}
use lib.Seq.{drop-cons, drop-drop, get_or-drop}
use native.Mathlib.Numerals.{add-one}
use native.Mathlib.Omega.{arith}
use borrow.Author.Tests.{lt-ltb}
use Rattle.lists.proofs.Bools.{and_in, Flag, on, off, flag}
use Rattle.recording.specs.Words.{separator, word_with, closed, cut}
use Rattle.vcd_words.specs.Partial.{run}
use Rattle.vcd_words.proofs.Spells.{small, head_small, tail_small}

-- ---- cutting

module _ (t : List ℕ) (i : ℕ) (h : i < length t) where
  pub cut_separator : separator (get_or t i 0) ≡ true → cut i [] (drop i t) ≡ cut (i + 1) [] (drop (i + 1) t)
  unfolding cut
  cut_separator e = ap (cut i []) (drop-cons t i 0 h) ∙ rw (e, add-one)

-- the bytes up to a separator close the word under way
cut_run :
    (at : ℕ) (w bs : List ℕ) →
    cut at w bs ≡ closed (at + length (run bs)) (w ++ run bs) (cut (at + length (run bs)) [] (drop (length (run bs)) bs))
unfolding cut
cut_run at w [] = ap₂ (λ (n : ℕ) (v : List ℕ). closed n v []) (omega arith) (sym (append-nil w))
cut_run at w (b ∷ bs) = go (flag (separator b)) (cut_run (suc at) (w ++ (b ∷ [])) bs)
  where
    go : Flag (separator b) →
        cut (suc at) (w ++ (b ∷ [])) bs ≡
        closed (suc at + length (run bs)) ((w ++ (b ∷ [])) ++ run bs)
        (cut (suc at + length (run bs)) [] (drop (length (run bs)) bs)) →
        cut at w (b ∷ bs) ≡
        closed (at + length (run (b ∷ bs))) (w ++ run (b ∷ bs))
        (cut (at + length (run (b ∷ bs))) [] (drop (length (run (b ∷ bs))) (b ∷ bs)))
    go (on e) rest =
        let here : at + 0 ≡ at = omega arith in
        rw (e, append-nil, here) (rw e)
    go (off e) rest =
        let next : suc at + length (run bs) ≡ at + suc (length (run bs)) = omega arith in
        rw e (rest ∙ rw (append_assoc, next))

-- a run from a byte that is no separator on
module _ (t : List ℕ) (i : ℕ) (h : i < length t) (e : separator (get_or t i 0) ≡ false) where
  pub run_some : 0 < length (run (drop i t))
  run_some = rw (drop-cons t i 0 h, e) (omega arith)

  pub cut_word :
      (end : ℕ) → end ≡ i + length (run (drop i t)) →
      cut i [] (drop i t) ≡ word_with i (run (drop i t)) ∷ cut end [] (drop end t)
  cut_word end f =
      cut_run i [] (drop i t)
      ∙ rw (← f, drop-drop, ← f) (go (run (drop i t)) run_some f)
    where
      go : (w : List ℕ) → 0 < length w → end ≡ i + length w →
          closed end w (cut end [] (drop end t)) ≡ word_with i w ∷ cut end [] (drop end t)
      go [] some g = absurd (omega arith)
      go (b ∷ w) some g =
          let from : end - length (b ∷ w) ≡ i = omega arith in
          rw from

-- ---- bytes

small_of : (bs : List ℕ) → ((j : ℕ) → get_or bs j 0 < 256) → small bs ≡ true
small_of [] h = refl
small_of (b ∷ bs) h = and_in (lt-ltb b 256 (h 0)) (small_of bs (λ j. h (suc j)))

small_run : (bs : List ℕ) → small bs ≡ true → small (run bs) ≡ true
small_run [] h = refl
small_run (b ∷ bs) h = go (flag (separator b)) (small_run bs (tail_small b bs h))
  where
    go : Flag (separator b) → small (run bs) ≡ true → small (run (b ∷ bs)) ≡ true
    go (on e) rest = rw e
    go (off e) rest = rw e (and_in (lt-ltb b 256 (head_small b bs h)) rest)

pub run_small : (t : List ℕ) (i : ℕ) → ((j : ℕ) → get_or t j 0 < 256) → small (run (drop i t)) ≡ true
run_small t i h = small_run (drop i t) (small_of (drop i t) (λ j. rw get_or-drop (h (i + j))))
