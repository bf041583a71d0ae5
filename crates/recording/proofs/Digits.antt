-- The digits of a number, one at a time from the lowest, in any base. Assumes nothing.
--   digits_bound, below_digits      a bound that is enough says nothing more
--   digits_small, digits_more       a number below the base has one digit; any other has its last digit behind those of the quotient
--   digits_some, digits_length_le   at least one digit; no more than the number and one
--   numeral_small, numeral_more     the same of their bytes
--   numeral_length                  a byte for each digit
use Prim.Native.Nat.{ℕ, zero, suc, ◌/◌, ◌%◌, ◌<◌, ◌≤◌}
use mathlib.Core.Path.{◌≡◌, refl, ap, ◌∙◌}
use mathlib.Core.List.{[], ◌∷◌, ◌++◌, map, map-append}
use lib.ListN.{length, length-append, length-map}
use lib.Dec.{ltb}
use native.Mathlib.Nat.{div-lt_self}
use native.Mathlib.Omega.{arith}
use borrow.Author.Tests.{lt-ltb, le-ltb, ltb-false}
use Rattle.lists.proofs.Bools.{Flag, on, off, flag}
use Rattle.recording.specs.Writing.{digits_within, digits, digit_byte, numeral_bytes}

module _ (base : ℕ) (two : 2 ≤ base) where
  pub digits_bound : (k k' x : ℕ) → x ≤ k → x ≤ k' → digits_within k base x ≡ digits_within k' base x
  digits_bound zero zero x h g = refl
  digits_bound zero (suc k') x h g = rw (lt-ltb x base (omega arith))
  digits_bound (suc k) zero x h g = rw (lt-ltb x base (omega arith))
  digits_bound (suc k) (suc k') x h g = go (flag (ltb x base)) (digits_bound k k' (x / base))
    where
      go :
          Flag (ltb x base) → (x / base ≤ k → x / base ≤ k' → digits_within k base (x / base) ≡ digits_within k' base (x / base)) →
          digits_within (suc k) base x ≡ digits_within (suc k') base x
      go (on e) rest = rw e
      go (off e) rest =
          let some : base ≤ x = ltb-false x base e in
          let less : x / base < x = div-lt_self (omega arith) (omega arith) in
          rw (e, rest (omega arith) (omega arith))

  pub below_digits : (k x : ℕ) → x < base → digits_within k base x ≡ x ∷ []
  below_digits zero x h = refl
  below_digits (suc k) x h = rw (lt-ltb x base h)

  pub digits_small : (x : ℕ) → x < base → digits base x ≡ x ∷ []
  unfolding digits
  digits_small x h = below_digits x x h

  pub digits_more : (x : ℕ) → base ≤ x → digits base x ≡ digits base (x / base) ++ (x % base ∷ [])
  unfolding digits
  digits_more zero h = absurd (omega arith)
  digits_more (suc x) h =
      let less : suc x / base < suc x = div-lt_self (omega arith) (omega arith) in
      rw (le-ltb (suc x) base h, digits_bound x (suc x / base) (suc x / base) (omega arith) (omega arith))

  pub numeral_small : (x : ℕ) → x < base → numeral_bytes base x ≡ digit_byte x ∷ []
  numeral_small x h = ap (map digit_byte) (digits_small x h)

  pub numeral_more : (x : ℕ) → base ≤ x → numeral_bytes base x ≡ numeral_bytes base (x / base) ++ (digit_byte (x % base) ∷ [])
  numeral_more x h = ap (map digit_byte) (digits_more x h) ∙ map-append digit_byte (digits base (x / base)) (x % base ∷ [])

pub numeral_length : (base x : ℕ) → length (numeral_bytes base x) ≡ length (digits base x)
numeral_length base x = length-map (digits base x) digit_byte

within_length_le : (k base x : ℕ) → length (digits_within k base x) ≤ suc k
within_length_le zero base x = omega arith
within_length_le (suc k) base x = go (flag (ltb x base)) (within_length_le k base (x / base))
  where
    go :
        Flag (ltb x base) → length (digits_within k base (x / base)) ≤ suc k → length (digits_within (suc k) base x) ≤ suc (suc k)
    go (on e) h = rw e (omega arith)
    go (off e) h = rw e (simp length-append (omega arith))

within_some : (k base x : ℕ) → 0 < length (digits_within k base x)
within_some zero base x = omega arith
within_some (suc k) base x = go (flag (ltb x base))
  where
    go : Flag (ltb x base) → 0 < length (digits_within (suc k) base x)
    go (on e) = rw e (omega arith)
    go (off e) = rw e (simp length-append (omega arith))

pub digits_some : (base x : ℕ) → 0 < length (digits base x)
unfolding digits
digits_some base x = within_some x base x

pub digits_length_le : (base x : ℕ) → length (digits base x) ≤ suc x
unfolding digits
digits_length_le base x = within_length_le x base x
