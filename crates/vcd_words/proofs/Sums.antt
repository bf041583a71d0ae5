-- The number that is kept of a word is the one that the word spells. Assumes nothing.
--   digits_sum, bits_sum    what bytes make of a number that is kept
--   time_number             after #, the decimal number of the rest
--   width_number            after a digit, the decimal number of the word
--   vector_number           after b or B, the value of the bits
--   no_number               after another byte, none
use Prim.Native.Nat.{ℕ, ◌+◌, ◌*◌, ◌<◌, min}
use mathlib.Core.Path.{◌≡◌, refl, ap, ◌∙◌}
use mathlib.Core.List.{List, [], ◌∷◌, tail, map}
use mathlib.Core.Bool.{Bool, true, false, ◌&&◌, ◌||◌, cond, and_assoc}
use lib.ListN.{get_or}
use lib.Dec.{ltb, eqb}
use native.Mathlib.Omega.{arith}
use borrow.Author.Tests.{ltb-true, lt-ltb, le-ltb, ne_eqb}
use Rattle.std.specs.Prelude.{Option, Some, None}
use Rattle.lists.proofs.Bools.{Flag, on, off, flag}
use Rattle.recording.specs.Words.{all}
use Rattle.recording.specs.Values.{numeral, is_digit, digit_of, is_bit, bit_of, is_definite, bit_number}
use Rattle.recording.specs.Reading.{max_time}
use Rattle.vcd_words.specs.declared.Number.{Number}
use Rattle.vcd_words.specs.declared.Number.TheVariants.{Decimal, Binary}
use Rattle.vcd_words.specs.declared.Partial.{Partial}
use Rattle.vcd_words.specs.Partial.{in_64, with_digit, more_digits, in_16, with_known_bit, more_bits, begun_with, counted_of, Keeps}
use Rattle.vcd_words.proofs.Numbers.{digit_range}
use Rattle.vcd_words.proofs.Keeping.{kept_number}

-- ---- decimal

-- a number above the greatest stays so
digit_in : (v d b : ℕ) → d ≡ digit_of b → with_digit (in_64 v) b ≡ in_64 (10 * v + d)
unfolding with_digit
digit_in v d b e = go (flag (ltb max_time v))
  where
    go : Flag (ltb max_time v) → with_digit (in_64 v) b ≡ in_64 (10 * v + d)
    go (on f) =
        let above : max_time < v = ltb-true max_time v f in
        rw (f, lt-ltb max_time (10 * v + d) (omega arith))
    go (off f) = rw (f, e)

-- The decimal number that bytes make of a number, if they are digits.
abbrev pub digits_of : ℕ → List ℕ → Option Number
digits_of v bs = cond (all is_digit bs) (Some (Decimal (in_64 (numeral 10 v (map digit_of bs))))) None

digits_sum : (v : ℕ) (bs : List ℕ) → more_digits (in_64 v) bs ≡ digits_of v bs
digits_sum v [] = refl
digits_sum v (b ∷ bs) = go (flag (is_digit b)) (digits_sum (10 * v + digit_of b) bs)
  where
    go : Flag (is_digit b) → more_digits (in_64 (10 * v + digit_of b)) bs ≡ digits_of (10 * v + digit_of b) bs →
        more_digits (in_64 v) (b ∷ bs) ≡ digits_of v (b ∷ bs)
    go (on e) rest = rw (e, digit_in v (digit_of b) b refl) rest
    go (off e) rest = rw e

-- ---- bits

bit_in : (known : Bool) (v b : ℕ) → with_known_bit (in_16 known v) b ≡ in_16 (known && is_definite (bit_of b)) (2 * v + bit_number (bit_of b))
unfolding with_known_bit
bit_in true v b =
    let held : min 65535 (2 * min 65535 v + bit_number (bit_of b)) ≡ min 65535 (2 * v + bit_number (bit_of b)) = omega arith in
    rw held
bit_in false v b = refl

-- The binary number that bytes make of a number, if they are bits.
abbrev pub bits_of : Bool → ℕ → List ℕ → Option Number
bits_of known v bs =
    cond (all is_bit bs) (Some (Binary (in_16 (known && all is_definite (map bit_of bs)) (numeral 2 v (map bit_number (map bit_of bs)))))) None

bits_from : (known : Bool) (v : ℕ) (bs : List ℕ) → more_bits (in_16 known v) bs ≡ bits_of known v bs
bits_from true v [] = refl
bits_from false v [] = refl
bits_from known v (b ∷ bs) = go (flag (is_bit b)) (bits_from (known && is_definite (bit_of b)) (2 * v + bit_number (bit_of b)) bs)
  where
    go : Flag (is_bit b) →
        more_bits (in_16 (known && is_definite (bit_of b)) (2 * v + bit_number (bit_of b))) bs ≡
        bits_of (known && is_definite (bit_of b)) (2 * v + bit_number (bit_of b)) bs →
        more_bits (in_16 known v) (b ∷ bs) ≡ bits_of known v (b ∷ bs)
    go (on e) rest = rw (e, bit_in known v b, ← and_assoc) rest
    go (off e) rest = rw e

pub bits_sum : (bs : List ℕ) → more_bits (Some 0) bs ≡ bits_of true 0 bs
bits_sum bs = bits_from true 0 bs

-- ---- what is kept of a word

module _ {p : Partial} {w : List ℕ} (k : Keeps p w) where
  abbrev first : ℕ
  first = get_or w 0 0

  pub time_number : first ≡ 35 → p.number ≡ digits_of 0 (tail w)
  unfolding counted_of begun_with
  time_number e = kept_number k ∙ ap (λ (b : ℕ). counted_of (begun_with b) (tail w)) e ∙ digits_sum 0 (tail w)

  pub vector_number : (eqb first 98 || eqb first 66) ≡ true → p.number ≡ bits_of true 0 (tail w)
  unfolding counted_of begun_with
  vector_number e = kept_number k ∙ rw e (bits_sum (tail w))

  pub width_number : is_digit first ≡ true → p.number ≡ digits_of (digit_of first) (tail w)
  unfolding counted_of begun_with
  width_number e =
      let range = digit_range first e in
      let no_lower : eqb first 98 ≡ false = ne_eqb first 98 (λ x. omega arith) in
      let no_upper : eqb first 66 ≡ false = ne_eqb first 66 (λ x. omega arith) in
      let no_hash : eqb first 35 ≡ false = ne_eqb first 35 (λ x. omega arith) in
      let fits : ltb max_time (digit_of first) ≡ false = le-ltb max_time (digit_of first) (omega arith) in
      kept_number k ∙ rw (no_lower, no_upper, no_hash, e) (rw fits at (digits_sum (digit_of first) (tail w)))

  pub no_number :
      (eqb first 98 || eqb first 66) ≡ false → eqb first 35 ≡ false → is_digit first ≡ false → p.number ≡ None
  unfolding counted_of begun_with
  no_number e f g = kept_number k ∙ rw (e, f, g)
