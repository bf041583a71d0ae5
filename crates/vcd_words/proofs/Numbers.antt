-- The number that a word spells, a byte at a time. Assumes nothing.
--   digit_range                  the bytes that are digits
--   between_more, between_end    the bytes from i on: the one at i and the rest; none
--   drop_more                    the bytes from i on: the one at i and the rest
--   digits_more, bits_more       a digit more, a bit more
--   run_prefix, run_short, run_inside    a run of bytes is the front of them
--   extended_none, extended_first, extended_more    no bytes; bytes that begin a word, or go on with one
use Prim.Native.Nat.{ℕ, suc, ◌+◌, ◌-◌, ◌<◌, ◌≤◌, min}
use mathlib.Core.Path.{◌≡◌, refl, sym, ap, ◌∙◌}
use mathlib.Core.List.{List, [], ◌∷◌}
use mathlib.Core.Bool.{true}
use lib.ListN.{length, get_or, take, drop, length-take, length-drop}
use lib.Seq.{drop-cons, take-length}
use lib.Dec.{leb}
use native.Mathlib.Numerals.{add-one}
use native.Mathlib.Omega.{arith}
use Rattle.std.specs.Prelude.{Option}
use borrow.Author.Tests.{leb-true, eq-eqb, ne_eqb}
use Rattle.lists.proofs.Bools.{and_l, and_r, Flag, on, off, flag}
use Rattle.recording.specs.Words.{separator}
use Rattle.recording.specs.Values.{is_digit, is_bit}
use Rattle.vcd_words.specs.declared.Partial.{Partial}
use Rattle.vcd_words.specs.Partial.{run, between, spell_high, spell_low, with_digit, more_digits, with_known_bit}
use Rattle.vcd_words.specs.Partial.{more_bits, begun_with, counted_of, partial_with, extended_by}

pub digit_range : (b : ℕ) → is_digit b ≡ true → (48 ≤ b) × (b ≤ 57)
digit_range b e = (leb-true 48 b (and_l (leb 48 b) (leb b 57) e), leb-true b 57 (and_r (leb 48 b) (leb b 57) e))

pub between_more :
    (t : List ℕ) (i end : ℕ) → i < end → end ≤ length t → between t i end ≡ get_or t i 0 ∷ between t (i + 1) end
between_more t i end h k =
    let e : end - i ≡ suc (end - (i + 1)) = omega arith in
    rw (e, drop-cons t i 0 (omega arith), add-one)

pub between_end : (t : List ℕ) (i end : ℕ) → end ≤ i → between t i end ≡ []
between_end t i end h = let e : end - i ≡ 0 = omega arith in rw e

pub drop_more : (t : List ℕ) (i : ℕ) → i < length t → drop i t ≡ get_or t i 0 ∷ drop (i + 1) t
drop_more t i h = rw (drop-cons t i 0 h, add-one)

module _ (t : List ℕ) (i : ℕ) (h : i < length t) (n : Option ℕ) where
  pub digits_more :
      is_digit (get_or t i 0) ≡ true → more_digits (with_digit n (get_or t i 0)) (drop (i + 1) t) ≡ more_digits n (drop i t)
  digits_more e = sym (ap (more_digits n) (drop_more t i h) ∙ rw e)

  pub bits_more : is_bit (get_or t i 0) ≡ true → more_bits (with_known_bit n (get_or t i 0)) (drop (i + 1) t) ≡ more_bits n (drop i t)
  bits_more e = sym (ap (more_bits n) (drop_more t i h) ∙ rw e)

-- ---- a run of bytes

pub run_prefix : (bs : List ℕ) → take (length (run bs)) bs ≡ run bs
run_prefix [] = refl
run_prefix (b ∷ bs) = go (flag (separator b)) (run_prefix bs)
  where
    go : Flag (separator b) → take (length (run bs)) bs ≡ run bs → take (length (run (b ∷ bs))) (b ∷ bs) ≡ run (b ∷ bs)
    go (on e) h = rw e
    go (off e) h = rw (e, h)

pub run_short : (bs : List ℕ) → length (run bs) ≤ length bs
run_short bs = omega (arith, ap length (run_prefix bs), length-take (length (run bs)) bs)

module _ (t : List ℕ) (from end : ℕ) (e : end ≡ from + length (run (drop from t))) (h : from < end) where
  pub run_inside : end ≤ length t
  run_inside = omega (arith, run_short (drop from t), length-drop from t)

-- ---- bytes added to a word

pub extended_none : (p : Partial) (bs : List ℕ) → length bs < 1 → p ≡ extended_by p bs
unfolding extended_by
extended_none p [] h = refl
extended_none p (b ∷ bs) h = absurd (omega arith)

module _ (p : Partial) (bs : List ℕ) (h : 1 ≤ length bs) where
  pub extended_first :
      p.length ≡ 0 →
      partial_with (min 256 (p.length + length bs)) (get_or bs 0 0) (spell_high p.high p.low bs) (spell_low p.low bs)
      (counted_of (begun_with (get_or bs 0 0)) (take (length bs - 1) (drop 1 bs))) ≡
      extended_by p bs
  unfolding extended_by
  extended_first e = go bs h
    where
      go : (w : List ℕ) → 1 ≤ length w →
          partial_with (min 256 (p.length + length w)) (get_or w 0 0) (spell_high p.high p.low w) (spell_low p.low w)
          (counted_of (begun_with (get_or w 0 0)) (take (length w - 1) (drop 1 w))) ≡
          extended_by p w
      go [] k = absurd (omega arith)
      go (b ∷ w) k =
          let n : length (b ∷ w) - 1 ≡ length w = omega arith in
          rw (n, take-length w, eq-eqb p.length 0 e)

  pub extended_more :
      (p.length ≡ 0 → ⊥) →
      partial_with (min 256 (p.length + length bs)) p.first (spell_high p.high p.low bs) (spell_low p.low bs)
      (counted_of p.number bs) ≡
      extended_by p bs
  unfolding extended_by
  extended_more e = go bs h
    where
      go : (w : List ℕ) → 1 ≤ length w →
          partial_with (min 256 (p.length + length w)) p.first (spell_high p.high p.low w) (spell_low p.low w)
          (counted_of p.number w) ≡
          extended_by p w
      go [] k = absurd (omega arith)
      go (b ∷ w) k = rw (ne_eqb p.length 0 e)
