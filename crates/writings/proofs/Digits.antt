-- The digits of a number, in any base of two or more (`DigitsExact`). Assumes nothing.
--   one_digit, more_digits    a number below the base; one more digit behind the digits of the quotient
--   digits_are                the digits of a number are digits of it
--   digits_only               and no other list is
use Prim.Native.Nat.{ℕ, zero, suc, ◌+◌, ◌*◌, ◌/◌, ◌%◌, ◌^◌, ◌<◌, ◌≤◌}
use mathlib.Core.Path.{◌≡◌, refl, sym, ap, ◌∙◌, subst}
use mathlib.Core.Logic.{◌↔◌, ◌⊎◌, inl, inr}
use mathlib.Core.List.{List, [], ◌∷◌, ◌++◌, append-nil, append_assoc}
use mathlib.Core.List.Memᴰ
use mathlib.Core.List.Memᴰ.{head as here}
use mathlib.Core.List.Memᴰ.{tail as there}
use mathlib.Core.List.{Memᴰ}
use mathlib.Core.Bool.{cond}
use native.Mathlib.Omega.{arith}
use native.Mathlib.Decide.{dec_lt}
use native.Mathlib.Nat.{not-suc-le-zero, div-add-mod, mod-lt, div-lt_self, le-div_iff_mul-le, div-lt_iff_lt-mul, pow-zero, pow-suc}
use native.Mathlib.Nat.{mul-add-div, div-eq_of_lt, mul-add-mod_self_left, mod-eq_of_lt, mul-le-mul_right}
use lib.ListN.{length, length-append, get_or-append}
use lib.Dec.{ltb}
use borrow.Author.Tests.{ltb-true, ltb-false, le-ltb}
use Rattle.lists.proofs.Bools.{Flag, on, off, flag}
use Rattle.recording.proofs.Digits.{digits_bound, below_digits}
use Rattle.recording.specs.Values.{numeral}
use Rattle.recording.specs.Writing.{digits_within, digits}
use Rattle.recording.specs.WritingStatements.{Digits, DigitsExact}

-- one more digit
pub numeral_more : (base v : ℕ) (ds : List ℕ) (d : ℕ) → numeral base v (ds ++ (d ∷ [])) ≡ base * numeral base v ds + d
numeral_more base v [] d = refl
numeral_more base v (x ∷ ds) d = numeral_more base (base * v + x) ds d

module _ (base : ℕ) (two : 2 ≤ base) where
  -- ---- the digits of a number are digits of it

  one_digit : (x : ℕ) → x < base → Digits base x (x ∷ [])
  one_digit x h =
      record {
        some_digit = omega arith;
        below = λ d m. subst (λ (k : ℕ). k < base) (sym (Memᴰ.eq_of_singleton m)) h;
        spell = omega arith;
        no_leading_zero = λ e. ap (λ (k : ℕ). k ∷ []) e;
        within = λ width w l. omega arith;
      }

  -- a quotient that isn't 0
  quotient_some : (x : ℕ) → base ≤ x → 1 ≤ x / base
  quotient_some x h = (le-div_iff_mul-le {k = base} {x = 1} {y = x} (omega arith)).1 (omega arith)

  more_within : (x : ℕ) (ds : List ℕ) → base ≤ x → Digits base (x / base) ds → (width : ℕ) → 0 < width → x < base ^ width →
      length (ds ++ (x % base ∷ [])) ≤ width
  more_within x ds h q zero w l = absurd (not-suc-le-zero w)
  more_within x ds h q (suc zero) w l = absurd (omega (arith, pow-suc base 0 ∙ ap (λ (k : ℕ). k * base) (pow-zero base)))
  more_within x ds h q (suc (suc n)) w l =
      let less : x / base < base ^ suc n
      = (div-lt_iff_lt-mul {k = base} {x = x} {y = base ^ suc n} (omega arith)).1 (subst (λ (k : ℕ). x < k) (pow-suc base (suc n)) l) in
      omega (arith, length-append ds (x % base ∷ []), q.within (suc n) (omega arith) less)

  more_digits : (x : ℕ) (ds : List ℕ) → base ≤ x → Digits base (x / base) ds → Digits base x (ds ++ (x % base ∷ []))
  more_digits x ds h q =
      record {
        some_digit = omega (arith, length-append ds (x % base ∷ []));
        below = λ d m. in_both d (Memᴰ.append_cases ds m);
        spell = numeral_more base 0 ds (x % base) ∙ ap (λ (k : ℕ). base * k + x % base) q.spell ∙ div-add-mod x base;
        no_leading_zero =
            λ e.
            let zeros : ds ≡ 0 ∷ [] = q.no_leading_zero (sym (get_or-append ds (x % base ∷ []) 0 0 q.some_digit) ∙ e) in
            absurd (omega (arith, quotient_some x h, q.spell, ap (numeral base 0) zeros));
        within = more_within x ds h q;
      }
    where
      in_both : (d : ℕ) → Memᴰ d ds ⊎ Memᴰ d (x % base ∷ []) → d < base
      in_both d (inl m) = q.below d m
      in_both d (inr m) = subst (λ (k : ℕ). k < base) (sym (Memᴰ.eq_of_singleton m)) (mod-lt x (omega arith))

  digits_within_lem : (k x : ℕ) → x ≤ k → Digits base x (digits_within k base x)
  digits_within_lem zero x h = one_digit x (omega arith)
  digits_within_lem (suc k) x h = go (flag (ltb x base)) (digits_within_lem k (x / base))
    where
      go : Flag (ltb x base) → (x / base ≤ k → Digits base (x / base) (digits_within k base (x / base))) →
          Digits base x (cond (ltb x base) (x ∷ []) (digits_within k base (x / base) ++ (x % base ∷ [])))
      go (on e) rest = rw e (one_digit x (ltb-true x base e))
      go (off e) rest =
          let large : base ≤ x = ltb-false x base e in
          rw e (more_digits x (digits_within k base (x / base)) large
          (rest (omega (arith, div-lt_self {n = x} {k = base} (omega arith) (omega arith)))))

  pub digits_are : (x : ℕ) → Digits base x (digits base x)
  unfolding digits
  digits_are x = digits_within_lem x x (omega arith)

  -- ---- and no other list is

  -- what a digit behind v makes
  digits_more : (k v d : ℕ) → 0 < v → d < base → base * v + d ≤ k → digits_within k base (base * v + d) ≡ digits_within v base v ++ (d ∷ [])
  digits_more zero v d h l b = absurd (omega (arith, mul-le-mul_right {m = 2} {n = base} v two))
  digits_more (suc k) v d h l b =
      let twice : 2 * v ≤ base * v = mul-le-mul_right {m = 2} {n = base} v two in
      let one : 1 * base ≤ v * base = mul-le-mul_right {m = 1} {n = v} base h in
      let quotient : (base * v + d) / base ≡ v
      = mul-add-div {m = base} (omega arith) v d ∙ omega (arith, div-eq_of_lt l) in
      let rest : (base * v + d) % base ≡ d = mul-add-mod_self_left base v d ∙ mod-eq_of_lt l in
      rw (le-ltb (base * v + d) base (omega arith), quotient, rest)
      (ap (λ (ds : List ℕ). ds ++ (d ∷ [])) (digits_bound base two k v v (omega arith) (omega arith)))

  numeral_digits : (k v : ℕ) (ds : List ℕ) → 0 < v → ((d : ℕ) → Memᴰ d ds → d < base) → numeral base v ds ≤ k →
      digits_within k base (numeral base v ds) ≡ digits_within v base v ++ ds
  numeral_digits k v [] h l b = digits_bound base two k v v b (omega arith) ∙ sym (append-nil (digits_within v base v))
  numeral_digits k v (d ∷ ds) h l b =
      let x : ℕ = base * v + d in
      let some : 2 * v ≤ base * v = mul-le-mul_right {m = 2} {n = base} v two in
      numeral_digits k x ds (omega arith) (λ e m. l e (there m)) b ∙
      ap (λ (es : List ℕ). es ++ ds) (digits_more x v d h (l d (here refl)) (omega arith)) ∙
      append_assoc (digits_within v base v) (d ∷ []) ds

  digits_only : (x : ℕ) (ds : List ℕ) → Digits base x ds → ds ≡ digits base x
  unfolding digits
  digits_only x [] h = absurd (not-suc-le-zero h.some_digit)
  digits_only x (d ∷ []) h =
      let same : d ≡ x = omega (arith, h.spell) in
      ap (λ (k : ℕ). k ∷ []) same ∙ sym (below_digits base two x x (subst (λ (k : ℕ). k < base) same (h.below d (here refl))))
  digits_only x (d ∷ e ∷ ds) h =
      let spelled : numeral base d (e ∷ ds) ≡ x = ap (λ (k : ℕ). numeral base k (e ∷ ds)) (omega arith) ∙ h.spell in
      let some : 0 < d = first_some (dec_lt 0 d) in
      sym
      (ap (digits_within x base) (sym spelled) ∙
      numeral_digits x d (e ∷ ds) some (λ c m. h.below c (there m)) (omega (arith, spelled)) ∙
      ap (λ (es : List ℕ). es ++ (e ∷ ds)) (below_digits base two d d (h.below d (here refl))))
    where
      first_some : Dec (0 < d) → 0 < d
      first_some (yes p) = p
      first_some (no q) = absurd (omega (arith, ap length (h.no_leading_zero (omega arith))))

  pub digits_exact_in : (x : ℕ) (ds : List ℕ) → Digits base x ds ↔ (ds ≡ digits base x)
  digits_exact_in x ds = (digits_only x ds, (λ e. subst (Digits base x) (sym e) (digits_are x)))

pub digits_exact : DigitsExact
digits_exact base x ds two = digits_exact_in base two x ds
