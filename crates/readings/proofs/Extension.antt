-- A vector extended to its variable's width has the value of the bits given, and isn't known exactly if they hold an x or z
-- (`ExtensionValue`). Assumes nothing.
use Prim.Native.Nat.{ℕ, zero, suc, ◌+◌, ◌*◌, ◌-◌, ◌^◌, ◌<◌, ◌≤◌, min}
use mathlib.Core.Path.{◌≡◌, refl, sym, ap, ◌∙◌}
use mathlib.Core.Logic.{◌≢◌}
use mathlib.Core.List.{List, [], ◌∷◌, ◌++◌, map}
use mathlib.Core.Bool.{Bool, true, false, cond, true≢false}
use native.Mathlib.Omega.{arith}
use native.Mathlib.Nat.{not-suc-le-zero, min-eq_right, mul-le-mul_right, mul_assoc, pow-succ', pow-le-pow_right, le_trans}
use lib.ListN.{length, replicate, length-append, length-replicate}
use Rattle.recording.specs.Words.{all}
use Rattle.recording.specs.Values.{Bit, b0, b1, bx, bz, is_definite, bit_number, numeral, extended, value, unknown, value_of}
use Rattle.readings.proofs.Lists.{all_in, all_out}
use Rattle.recording.specs.Statements.{ExtensionValue}

-- ---- the fill changes nothing of the value

zeros_definite : (k : ℕ) (bs : List Bit) → all is_definite (replicate k b0 ++ bs) ≡ all is_definite bs
zeros_definite zero bs = refl
zeros_definite (suc k) bs = zeros_definite k bs

zeros_number : (k : ℕ) (bs : List Bit) → numeral 2 0 (map bit_number (replicate k b0 ++ bs)) ≡ numeral 2 0 (map bit_number bs)
zeros_number zero bs = refl
zeros_number (suc k) bs = zeros_number k bs

zeros_value : (k : ℕ) (bs : List Bit) → value_of (replicate k b0 ++ bs) ≡ value_of bs
unfolding value_of
zeros_value k bs = rw (zeros_definite k bs, zeros_number k bs)

-- an indefinite bit in front of indefinite ones
fill_unknown : (k : ℕ) (b : Bit) (bs : List Bit) → is_definite b ≡ false → all is_definite (replicate k b ++ (b ∷ bs)) ≡ false
fill_unknown zero b bs e = rw e
fill_unknown (suc k) b bs e = rw e

unknown_value : (bs cs : List Bit) → all is_definite bs ≡ false → all is_definite cs ≡ false → value_of bs ≡ value_of cs
unfolding value_of
unknown_value bs cs e e' = rw (e, e')

extended_value : (width : ℕ) (b : Bit) (bs : List Bit) → value_of (extended width (b ∷ bs)) ≡ value_of (b ∷ bs)
unfolding extended
extended_value width b0 bs = zeros_value (width - suc (length bs)) (b0 ∷ bs)
extended_value width b1 bs = zeros_value (width - suc (length bs)) (b1 ∷ bs)
extended_value width bx bs =
    unknown_value (replicate (width - suc (length bs)) bx ++ (bx ∷ bs)) (bx ∷ bs) (fill_unknown (width - suc (length bs)) bx bs refl) refl
extended_value width bz bs =
    unknown_value (replicate (width - suc (length bs)) bz ++ (bz ∷ bs)) (bz ∷ bs) (fill_unknown (width - suc (length bs)) bz bs refl) refl

extended_long : (width : ℕ) (b : Bit) (bs : List Bit) → length (b ∷ bs) ≤ width → length (extended width (b ∷ bs)) ≡ width
unfolding extended
extended_long width b bs h = simp (length-append, length-replicate) (omega arith)

-- ---- which bits are known

known_definite : (bs : List Bit) → (value_of bs).known ≡ all is_definite bs
unfolding value_of
known_definite bs = go (all is_definite bs) (min 65535 (numeral 2 0 (map bit_number bs)))
  where
    go : (b : Bool) (n : ℕ) → (cond b (value true n) unknown).known ≡ b
    go true n = refl
    go false n = refl

no_xz : (b : Bit) → is_definite b ≡ true → (b ≢ bx) × (b ≢ bz)
no_xz b e = ((λ p. true≢false (sym e ∙ ap is_definite p)), (λ p. true≢false (sym e ∙ ap is_definite p)))

definite : (b : Bit) → (b ≢ bx) × (b ≢ bz) → is_definite b ≡ true
definite b0 h = refl
definite b1 h = refl
definite bx h = absurd (h.0 refl)
definite bz h = absurd (h.1 refl)

-- ---- numbers of at most 16 bits are below 65,536

bit_le : (b : Bit) → bit_number b ≤ 1
bit_le b0 = omega arith
bit_le b1 = omega arith
bit_le bx = omega arith
bit_le bz = omega arith

-- one more digit at most doubles what is above the number so far
doubled : (v d p : ℕ) → d ≤ 1 → suc (2 * v + d) * p ≤ suc v * (2 * p)
doubled v d p h =
    le_trans (mul-le-mul_right {m = suc (2 * v + d)} {n = suc v * 2} p (omega arith)) (omega (arith, mul_assoc (suc v) 2 p))

pub numeral_below : (v : ℕ) (bs : List Bit) → numeral 2 v (map bit_number bs) < suc v * 2 ^ length bs
numeral_below v [] = omega arith
numeral_below v (b ∷ bs) =
    le_trans (numeral_below (2 * v + bit_number b) bs)
    (rw (pow-succ' 2 (length bs)) (doubled v (bit_number b) (2 ^ length bs) (bit_le b)))

held_number : (bs : List Bit) → length bs ≤ 16 → (value_of bs).known ≡ true → (value_of bs).number ≡ numeral 2 0 (map bit_number bs)
unfolding value_of
held_number bs h e =
    let below : numeral 2 0 (map bit_number bs) < 1 * 2 ^ length bs = numeral_below 0 bs in
    let top : 2 ^ length bs ≤ 2 ^ 16 = pow-le-pow_right {n = 2} (omega arith) h in
    rw (sym (known_definite bs) ∙ e) (min-eq_right (omega arith))

pub extension_value : ExtensionValue
extension_value width [] some-bit fits = absurd (not-suc-le-zero some-bit)
extension_value width (b ∷ bs) some-bit fits =
    record {
      long = extended_long width b bs fits;
      same = extended_value width b bs;
      known = (
        (λ e c m. no_xz c (all_out is_definite (b ∷ bs) (sym (known_definite (b ∷ bs)) ∙ e) c m)),
        (λ h. known_definite (b ∷ bs) ∙ all_in is_definite (b ∷ bs) (λ c m. definite c (h c m))),
      );
      number = held_number (b ∷ bs);
    }
