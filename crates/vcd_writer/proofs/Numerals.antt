-- The digits of a number, put one at a time from the lowest. Assumes nothing.
--   DigitsTo                        some are put up to an offset; those of the rest, put before them, give the whole
--   digits_none, digits_one         none is put; one more is
--   digits_above                    there is a byte before each
--   digits_end                      one is left: with it and a mark before it all is put
--   CountedTo, counted_none, ..     the same of their count
use Prim.Native.Nat.{ℕ, suc, ◌+◌, ◌-◌, ◌/◌, ◌%◌, ◌<◌, ◌≤◌}
use mathlib.Core.Path.{◌≡◌, refl, sym, ap, ◌∙◌}
use mathlib.Core.List.{List, [], ◌∷◌}
use lib.ListN.{length, set, length-set, length-append}
use lib.Seq.{sets}
use native.Mathlib.Omega.{arith}
use Rattle.lists.proofs.Writes.{sets_before}
use Rattle.recording.specs.Writing.{digits, digit_byte, numeral_bytes}
use Rattle.recording.proofs.Digits.{digits_small, digits_more, numeral_small, numeral_more, digits_some, digits_length_le, numeral_length}
use Rattle.vcd_writer.specs.Lines.{Room, Put}
use Rattle.vcd_writer.proofs.Putting.{put_one}

module _ (base x mark : ℕ) (b₀ : List ℕ) (end : ℕ) where
  abbrev all : List ℕ
  all = numeral_bytes base x

  -- where the first digit goes
  abbrev start : ℕ
  start = end - length all

  pub record DigitsTo (b : List ℕ) (at rest : ℕ) : Type 0 where
    pub size : length b ≡ length b₀
    pub within : at < length b₀
    pub first : 0 < start
    pub whole : start + length all ≡ end
    pub place : start + length (numeral_bytes base rest) ≡ at + 1
    pub stored : sets b start (numeral_bytes base rest) ≡ sets b₀ start all

  pub digits_none : Room (mark ∷ all) end b₀ → DigitsTo b₀ (end - 1) x
  digits_none h =
      record {
        size = refl;
        within = omega arith;
        first = omega arith;
        whole = omega arith;
        place = omega arith;
        stored = refl;
      }

  -- the first digit has a byte before it
  pub digits_above : (b : List ℕ) (at rest : ℕ) → DigitsTo b at rest → 0 < at
  digits_above b at rest h = omega (arith, h.first, h.place, numeral_length base rest, digits_some base rest)

  module _ (two : 2 ≤ base) (b b₁ : List ℕ) (at rest : ℕ) (h : DigitsTo b at rest) where
    pub digits_one : base ≤ rest → b₁ ≡ set b at (digit_byte (rest % base)) → DigitsTo b₁ (at - 1) (rest / base)
    digits_one more e =
        let parts = numeral_more base two rest more in
        let front = numeral_bytes base (rest / base) in
        let last = digit_byte (rest % base) ∷ [] in
        let there : at ≡ start + length front = omega (arith, ap length parts ∙ length-append front last, h.place) in
        record {
          size = ap length e ∙ length-set b at (digit_byte (rest % base)) ∙ h.size;
          within = omega (arith, h.within);
          first = h.first;
          whole = h.whole;
          place = omega (arith, h.first);
          stored =
              ap (λ (l : List ℕ). sets l start front) e ∙ sets_before b start at front last there
              ∙ ap (sets b start) (sym parts) ∙ h.stored;
        }

    pub digits_end :
        {b₂ : List ℕ} → rest < base → b₁ ≡ set b at (digit_byte rest) → b₂ ≡ set b₁ (at - 1) mark → Put b₀ end (mark ∷ all) (at - 1) b₂
    digits_end few e₁ e₂ =
        let one = numeral_small base two rest few in
        let there : at ≡ start = omega (arith, ap length one, h.place) in
        let digits-put : b₁ ≡ sets b₀ at all
        = e₁ ∙ sym (ap (sets b at) one) ∙ ap (λ (i : ℕ). sets b i (numeral_bytes base rest)) there ∙ h.stored
        ∙ ap (λ (i : ℕ). sets b₀ i all) (sym there) in
        put_one (record { place = omega (arith, h.whole); stored = digits-put }) (omega (arith, h.first)) e₂

-- ---- their count

-- n - 1 digits are counted, and those of the rest are left
module _ (base x : ℕ) where
  pub record CountedTo (n rest : ℕ) : Type 0 where
    pub count : n + length (digits base rest) ≡ suc (length (digits base x))

  pub counted_none : CountedTo 1 x
  counted_none = record { count = omega arith }

  module _ (two : 2 ≤ base) (n rest : ℕ) (h : CountedTo n rest) where
    pub counted_le : n ≤ suc (suc x)
    counted_le = omega (arith, h.count, digits_length_le base x)

    pub counted_one : base ≤ rest → CountedTo (n + 1) (rest / base)
    counted_one more =
        let parts = ap length (digits_more base two rest more) ∙ length-append (digits base (rest / base)) (rest % base ∷ []) in
        record { count = omega (arith, parts, h.count) }

    pub counted_end : rest < base → n ≡ length (digits base x)
    counted_end few = omega (arith, ap length (digits_small base two rest few), h.count)
