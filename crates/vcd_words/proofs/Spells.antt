-- A word is told by its length and the numbers that its last sixteen bytes spell, if it has no more. Assumes nothing.
--   same_spelling    two words of bytes, one of at most sixteen, are the same exactly if these are
--   keyword_fits     every keyword is such a word
use Prim.Native.Nat.{ℕ, suc, ◌+◌, ◌*◌, ◌/◌, ◌%◌, ◌^◌, ◌<◌, ◌≤◌, min}
use mathlib.Core.Path.{◌≡◌, refl, sym, ap, ap₂, ◌∙◌}
use mathlib.Core.List.{List, [], ◌∷◌}
use mathlib.Core.Bool.{Bool, true, ◌&&◌, true≢false}
use lib.ListN.{length}
use lib.Dec.{ltb, eqb}
use native.Mathlib.Nat.{pow-succ', mul-le-mul_right, pow-le-pow_right, le_trans, mul_assoc, mod-eq_of_lt, div-lt_iff_lt-mul, div-add-mod}
use native.Mathlib.Omega.{arith}
use borrow.Author.Tests.{ltb-true, eqb-true, eq-eqb}
use Rattle.lists.proofs.Bools.{and_l, and_r, and_in, Flag, on, off, flag, refuted}
use Rattle.recording.specs.Words.{bytes_of, same_bytes, all}
use Rattle.recording.specs.Values.{numeral}
use Rattle.vcd_words.specs.declared.Keyword.{Keyword}
use Rattle.vcd_words.specs.declared.Keyword.TheVariants.{Date, Version, Comment, Timescale, Scope, Upscope, Var, EndDefinitions, End}
use Rattle.vcd_words.specs.declared.Keyword.TheVariants.{DumpVars, DumpAll, DumpOn, DumpOff, Wire, Stb, Cmd, Core, Arg, Prio}
use Rattle.vcd_words.proofs.Bytes.{top_byte}
use Rattle.vcd_words.specs.Partial.{seven, low_after, high_after, spell_high, spell_low, text_of}

-- 2^64
abbrev pub eight : ℕ
eight = 18446744073709551616

abbrev pub small : List ℕ → Bool
small w = all (λ b. ltb b 256) w

pub head_small : (b : ℕ) (w : List ℕ) → small (b ∷ w) ≡ true → b < 256
head_small b w h = ltb-true b 256 (and_l (ltb b 256) (small w) h)

pub tail_small : (b : ℕ) (w : List ℕ) → small (b ∷ w) ≡ true → small w ≡ true
tail_small b w h = and_r (ltb b 256) (small w) h

-- ---- a byte more

low_more : (v b : ℕ) → b < 256 → low_after (v % eight) b ≡ (256 * v + b) % eight
low_more v b h = omega arith

-- the bytes above the lowest eight
over_more : (v b : ℕ) → b < 256 → 256 * (v / eight) + v % eight / seven ≡ (256 * v + b) / eight
over_more v b h = omega arith

high_more : (v b : ℕ) → b < 256 → high_after (v / eight % eight) (v % eight) ≡ (256 * v + b) / eight % eight
high_more v b h =
    low_more (v / eight) (v % eight / seven) (top_byte (v % eight) (omega arith)) ∙ ap (λ (x : ℕ). x % eight) (over_more v b h)

pub low_numeral : (v : ℕ) (w : List ℕ) → small w ≡ true → spell_low (v % eight) w ≡ numeral 256 v w % eight
low_numeral v [] h = refl
low_numeral v (b ∷ w) h =
    ap (λ (l : ℕ). spell_low l w) (low_more v b (head_small b w h)) ∙ low_numeral (256 * v + b) w (tail_small b w h)

high_numeral :
    (v : ℕ) (w : List ℕ) → small w ≡ true → spell_high (v / eight % eight) (v % eight) w ≡ numeral 256 v w / eight % eight
high_numeral v [] h = refl
high_numeral v (b ∷ w) h =
    ap₂ (λ (x l : ℕ). spell_high x l w) (high_more v b (head_small b w h)) (low_more v b (head_small b w h))
    ∙ high_numeral (256 * v + b) w (tail_small b w h)

-- two numbers below 2^128 with the same halves are the same
halves_unique : (m n : ℕ) → m < eight * eight → n < eight * eight → m % eight ≡ n % eight → m / eight % eight ≡ n / eight % eight → m ≡ n
halves_unique m n hm hn low high =
    let top_m : m / eight % eight ≡ m / eight = mod-eq_of_lt ((div-lt_iff_lt-mul {k = eight} {x = m} {y = eight} (omega arith)).1 hm) in
    let top-n : n / eight % eight ≡ n / eight = mod-eq_of_lt ((div-lt_iff_lt-mul {k = eight} {x = n} {y = eight} (omega arith)).1 hn) in
    sym (div-add-mod m eight) ∙ ap₂ (λ (x y : ℕ). eight * x + y) (sym top_m ∙ high ∙ top-n) low ∙ div-add-mod n eight

-- ---- numerals of bytes

pub numeral_below : (v : ℕ) (w : List ℕ) → small w ≡ true → numeral 256 v w < suc v * 256 ^ length w
numeral_below v [] h = omega arith
numeral_below v (b ∷ w) h =
    let first : b < 256 = head_small b w h in
    le_trans (numeral_below (256 * v + b) w (tail_small b w h))
    (rw (pow-succ' 256 (length w), ← mul_assoc (suc v) 256 (256 ^ length w)) (mul-le-mul_right (256 ^ length w) (omega arith)))

numeral_fits : (w : List ℕ) → small w ≡ true → length w ≤ 16 → numeral 256 0 w < eight * eight
numeral_fits w h k =
    let below : numeral 256 0 w < 256 ^ length w = omega (arith, numeral_below 0 w h) in
    le_trans below (pow-le-pow_right {n = 256} (omega arith) k)

numeral_unique :
    (u v : ℕ) (x y : List ℕ) → length x ≡ length y → small x ≡ true → small y ≡ true → numeral 256 u x ≡ numeral 256 v y →
    (u ≡ v) × (x ≡ y)
numeral_unique u v [] [] l h k e = (e, refl)
numeral_unique u v [] (b ∷ y) l h k e = absurd (omega arith)
numeral_unique u v (a ∷ x) [] l h k e = absurd (omega arith)
numeral_unique u v (a ∷ x) (b ∷ y) l h k e =
    let rest = numeral_unique (256 * u + a) (256 * v + b) x y (omega arith) (tail_small a x h) (tail_small b y k) e in
    let below-a : a < 256 = head_small a x h in
    let below-b : b < 256 = head_small b y k in
    let heads : 256 * u + a ≡ 256 * v + b = rest.0 in
    let same : a ≡ b = omega arith in
    (omega arith, ap₂ ◌∷◌ same rest.1)

-- ---- words

spelling_unique :
    (w k : List ℕ) → small w ≡ true → small k ≡ true → length k ≤ 16 → length w ≡ length k →
    spell_low 0 w ≡ spell_low 0 k → spell_high 0 0 w ≡ spell_high 0 0 k → w ≡ k
spelling_unique w k sw sk short same_length lows highs =
    let below-w : numeral 256 0 w < eight * eight = numeral_fits w sw (omega arith) in
    let below-k : numeral 256 0 k < eight * eight = numeral_fits k sk short in
    let low : numeral 256 0 w % eight ≡ numeral 256 0 k % eight = sym (low_numeral 0 w sw) ∙ lows ∙ low_numeral 0 k sk in
    let high : numeral 256 0 w / eight % eight ≡ numeral 256 0 k / eight % eight
    = sym (high_numeral 0 w sw) ∙ highs ∙ high_numeral 0 k sk in
    (numeral_unique 0 0 w k same_length sw sk (halves_unique (numeral 256 0 w) (numeral 256 0 k) below-w below-k low high)).1

same_refl : (w : List ℕ) → same_bytes w w ≡ true
same_refl [] = refl
same_refl (b ∷ w) = and_in (eq-eqb b b refl) (same_refl w)

pub same_eq : (w k : List ℕ) → same_bytes w k ≡ true → w ≡ k
same_eq [] [] e = refl
same_eq [] (b ∷ k) e = absurd (true≢false (sym e))
same_eq (a ∷ w) [] e = absurd (true≢false (sym e))
same_eq (a ∷ w) (b ∷ k) e = ap₂ ◌∷◌ (eqb-true a b (and_l (eqb a b) (same_bytes w k) e)) (same_eq w k (and_r (eqb a b) (same_bytes w k) e))

-- what tells a word from another shows in the length or a number
pub same_spelling :
    (w k : List ℕ) → small w ≡ true → small k ≡ true → length k ≤ 16 →
    same_bytes w k ≡
    (eqb (min 256 (length w)) (length k) && (eqb (spell_high 0 0 w) (spell_high 0 0 k) && eqb (spell_low 0 w) (spell_low 0 k)))
same_spelling w k sw sk short = go (flag (told w))
  where
    told : List ℕ → Bool
    told v = eqb (min 256 (length v)) (length k) && (eqb (spell_high 0 0 v) (spell_high 0 0 k) && eqb (spell_low 0 v) (spell_low 0 k))

    itself : told k ≡ true
    itself =
        and_in (eq-eqb (min 256 (length k)) (length k) (omega arith))
        (and_in (eq-eqb (spell_high 0 0 k) (spell_high 0 0 k) refl) (eq-eqb (spell_low 0 k) (spell_low 0 k) refl))

    go : Flag (told w) → same_bytes w k ≡ told w
    go (on e) =
        let rest = and_r (eqb (min 256 (length w)) (length k)) _ e in
        let lengths : min 256 (length w) ≡ length k = eqb-true _ _ (and_l _ (eqb (spell_high 0 0 w) (spell_high 0 0 k) && eqb (spell_low 0 w) (spell_low 0 k)) e) in
        let highs = eqb-true _ _ (and_l (eqb (spell_high 0 0 w) (spell_high 0 0 k)) _ rest) in
        let lows = eqb-true _ _ (and_r (eqb (spell_high 0 0 w) (spell_high 0 0 k)) _ rest) in
        ap (λ (x : List ℕ). same_bytes x k) (spelling_unique w k sw sk short (omega arith) lows highs) ∙ same_refl k ∙ sym e
    go (off e) = refuted (same_bytes w k) (λ f. true≢false (sym itself ∙ ap told (sym (same_eq w k f)) ∙ e)) ∙ sym e

-- ---- keywords

pub keyword_fits : (k : Keyword) → (small (bytes_of (text_of k)) ≡ true) × (length (bytes_of (text_of k)) ≤ 16)
keyword_fits Date = (refl, omega arith)
keyword_fits Version = (refl, omega arith)
keyword_fits Comment = (refl, omega arith)
keyword_fits Timescale = (refl, omega arith)
keyword_fits Scope = (refl, omega arith)
keyword_fits Upscope = (refl, omega arith)
keyword_fits Var = (refl, omega arith)
keyword_fits EndDefinitions = (refl, omega arith)
keyword_fits End = (refl, omega arith)
keyword_fits DumpVars = (refl, omega arith)
keyword_fits DumpAll = (refl, omega arith)
keyword_fits DumpOn = (refl, omega arith)
keyword_fits DumpOff = (refl, omega arith)
keyword_fits Wire = (refl, omega arith)
keyword_fits Stb = (refl, omega arith)
keyword_fits Cmd = (refl, omega arith)
keyword_fits Core = (refl, omega arith)
keyword_fits Arg = (refl, omega arith)
keyword_fits Prio = (refl, omega arith)
