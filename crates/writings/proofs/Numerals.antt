-- A written number as the bytes of a word: no separator is in it, and it is read as the number that it was. Assumes nothing.
--   decimal_read     a time
--   binary_read      a vector, where the number fits a width of at most 16 bits
use Prim.Native.Nat.{ℕ, zero, suc, ◌+◌, ◌-◌, ◌^◌, ◌<◌, ◌≤◌}
use mathlib.Core.Path.{◌≡◌, refl, ap, ◌∙◌}
use mathlib.Core.List.Memᴰ.{head as here}
use mathlib.Core.List.Memᴰ.{tail as there}
use mathlib.Core.List.{List, [], ◌∷◌, map, Memᴰ}
use mathlib.Core.Bool.{Bool, true, not}
use native.Mathlib.Omega.{arith}
use native.Mathlib.Nat.{not-suc-le-zero, min-eq_right, pow-le-pow_right}
use lib.ListN.{length, length-map}
use borrow.Author.Tests.{le-leb, ne_eqb}
use Rattle.lists.proofs.Bools.{and_in}
use Rattle.recording.specs.Words.{all, is_empty}
use Rattle.recording.specs.Values.{numeral, is_digit, is_decimal, digit_of, decimal, is_bit, bit_of, is_definite, bit_number, value, value_of}
use Rattle.recording.specs.Values.{vector_with, vector_of}
use Rattle.recording.specs.Writing.{digits, digit_byte, numeral_bytes}
use Rattle.recording.specs.WritingStatements.{Digits}
use Rattle.writings.proofs.Digits.{digits_are}
use Rattle.writings.proofs.Passages.{is_plain}

-- ---- the bytes of digits

-- what holds of the byte of each digit holds of all bytes
each_byte : (f : ℕ → Bool) (base : ℕ) (ds : List ℕ) → ((d : ℕ) → Memᴰ d ds → d < base) →
    ((d : ℕ) → d < base → f (digit_byte d) ≡ true) → all f (map digit_byte ds) ≡ true
each_byte f base [] below h = refl
each_byte f base (d ∷ ds) below h =
    and_in (h d (below d (here refl))) (each_byte f base ds (λ e m. below e (there m)) h)

digit_plain : (d : ℕ) → d < 10 → is_plain (digit_byte d) ≡ true
digit_plain d h =
    rw (
      ne_eqb (48 + d) 32 (λ e. omega arith),
      ne_eqb (48 + d) 9 (λ e. omega arith),
      ne_eqb (48 + d) 13 (λ e. omega arith),
      ne_eqb (48 + d) 10 (λ e. omega arith),
    )

digit_decimal : (d : ℕ) → d < 10 → is_digit (digit_byte d) ≡ true
digit_decimal d h = and_in (le-leb 48 (48 + d) (omega arith)) (le-leb (48 + d) 57 (omega arith))

digit_bit : (d : ℕ) → d < 2 → is_bit (digit_byte d) ≡ true
digit_bit zero h = refl
digit_bit (suc zero) h = refl
digit_bit (suc (suc d)) h = absurd (omega arith)

digits_back : (ds : List ℕ) → map digit_of (map digit_byte ds) ≡ ds
digits_back [] = refl
digits_back (d ∷ ds) = λ k. same k ∷ digits_back ds k
  where
    same : 48 + d - 48 ≡ d
    same = omega arith

not_empty : (ds : List ℕ) → 0 < length ds → not (is_empty (map digit_byte ds)) ≡ true
not_empty [] h = absurd (not-suc-le-zero h)
not_empty (d ∷ ds) h = refl

-- ---- decimal numbers

pub decimal_plain : (x : ℕ) → all is_plain (numeral_bytes 10 x) ≡ true
decimal_plain x = each_byte is_plain 10 (digits 10 x) (digits_are 10 (omega arith) x).below digit_plain

pub decimal_digits : (x : ℕ) → is_decimal (numeral_bytes 10 x) ≡ true
decimal_digits x =
    let d : Digits 10 x (digits 10 x) = digits_are 10 (omega arith) x in
    and_in (not_empty (digits 10 x) d.some_digit) (each_byte is_digit 10 (digits 10 x) d.below digit_decimal)

pub decimal_read : (x : ℕ) → decimal (numeral_bytes 10 x) ≡ x
unfolding decimal
decimal_read x = ap (numeral 10 0) (digits_back (digits 10 x)) ∙ (digits_are 10 (omega arith) x).spell

-- ---- binary numbers

bits_definite : (ds : List ℕ) → ((d : ℕ) → Memᴰ d ds → d < 2) → all is_definite (map bit_of (map digit_byte ds)) ≡ true
bits_definite [] h = refl
bits_definite (zero ∷ ds) h = bits_definite ds (λ e m. h e (there m))
bits_definite (suc zero ∷ ds) h = bits_definite ds (λ e m. h e (there m))
bits_definite (suc (suc d) ∷ ds) h = absurd (omega (arith, h (suc (suc d)) (here refl)))

bits_number : (ds : List ℕ) → ((d : ℕ) → Memᴰ d ds → d < 2) → map bit_number (map bit_of (map digit_byte ds)) ≡ ds
bits_number [] h = refl
bits_number (zero ∷ ds) h = ap (λ (l : List ℕ). 0 ∷ l) (bits_number ds (λ e m. h e (there m)))
bits_number (suc zero ∷ ds) h = ap (λ (l : List ℕ). 1 ∷ l) (bits_number ds (λ e m. h e (there m)))
bits_number (suc (suc d) ∷ ds) h = absurd (omega (arith, h (suc (suc d)) (here refl)))

module _ (x : ℕ) where
  spelled : Digits 2 x (digits 2 x)
  spelled = digits_are 2 (omega arith) x

  pub binary_plain : all is_plain (numeral_bytes 2 x) ≡ true
  binary_plain = each_byte is_plain 2 (digits 2 x) spelled.below (λ d h. digit_plain d (omega arith))

  pub binary_some : not (is_empty (numeral_bytes 2 x)) ≡ true
  binary_some = not_empty (digits 2 x) spelled.some_digit

  pub binary_bits : all is_bit (numeral_bytes 2 x) ≡ true
  binary_bits = each_byte is_bit 2 (digits 2 x) spelled.below digit_bit

  module _ (width : ℕ) (low : 0 < width) (high : width ≤ 16) (fits : x < 2 ^ width) where
    pub binary_within : length (digits 2 x) ≤ width
    binary_within = spelled.within width low fits

    pub binary_read : vector_of (numeral_bytes 2 x) ≡ vector_with (length (digits 2 x)) (value true x)
    unfolding vector_of value_of
    binary_read =
        let top : 2 ^ width ≤ 2 ^ 16 = pow-le-pow_right {n = 2} (omega arith) high in
        let number : numeral 2 0 (map bit_number (map bit_of (numeral_bytes 2 x))) ≡ x
        = ap (numeral 2 0) (bits_number (digits 2 x) spelled.below) ∙ spelled.spell in
        rw (
          bits_definite (digits 2 x) spelled.below,
          number,
          length-map (digits 2 x) digit_byte,
          min-eq_right {n = x} {m = 65535} (omega arith),
          min-eq_right {n = length (digits 2 x)} {m = 255} (omega (arith, binary_within)),
        )
