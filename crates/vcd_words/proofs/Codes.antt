-- The code that a word's last bytes spell, length by length. Assumes nothing.
--   all_told                 every byte passes a test
--   code_one .. code_four    a code of one to four bytes
--   code_other               no byte, or more than four: no code
--   code_zero, code_some     a word that is no code, and one that is
use Prim.Native.Nat.{ℕ, zero, suc, ◌+◌, ◌*◌, ◌/◌, ◌%◌, ◌<◌, ◌≤◌}
use mathlib.Core.Path.{◌≡◌, refl, sym, ap, ◌∙◌}
use mathlib.Core.List.{List, [], ◌∷◌}
use mathlib.Core.Bool.{Bool, true, false, ◌&&◌, cond, and-false, true≢false}
use lib.ListN.{length}
use lib.Dec.{ltb, leb}
use native.Mathlib.Omega.{arith}
use borrow.Author.Tests.{lt-leb, ltb-true, ltb-false, leb-true}
use Rattle.std.specs.Bool.{MatchBool}
use Rattle.std.specs.List.{AllWithin, HoldsAt}
use Rattle.lists.proofs.Bools.{and_l, and_r, and_in, Flag, on, off, flag}
use Rattle.lists.specs.Numbers.{between}
use Rattle.recording.specs.Words.{all}
use Rattle.recording.specs.Values.{numeral, is_code, code_of}
use Rattle.vcd_words.specs.Partial.{Ends}
use Rattle.vcd_words.proofs.Spells.{small, head_small, tail_small}

-- ---- every byte passes a test

all_in : (f : ℕ → Bool) (bs : List ℕ) → AllWithin (λ b. f b ≡ true) bs 0 (length bs) → all f bs ≡ true
all_in f [] h = refl
all_in f (b ∷ bs) h =
    and_in (h 0 b (omega arith) (omega arith)) (all_in f bs (λ k d low high. h (suc k) d (omega arith) (omega arith)))

all_out : (f : ℕ → Bool) (bs : List ℕ) (k : ℕ) → k < length bs → HoldsAt (λ b. f b ≡ false) bs k → all f bs ≡ false
all_out f [] k h e = absurd (omega arith)
all_out f (b ∷ bs) zero h e = rw (e b)
all_out f (b ∷ bs) (suc k) h e = rw (all_out f bs k (omega arith) (λ d. e d), and-false)

pub all_told :
    (f : ℕ → Bool) (r : Bool) (bs : List ℕ) →
    MatchBool r (AllWithin (λ b. f b ≡ true) bs 0 (length bs)) ((k : ℕ) × (k < length bs) × HoldsAt (λ b. f b ≡ false) bs k) →
    r ≡ all f bs
all_told f true bs h = sym (all_in f bs h)
all_told f false bs h = sym (all_out f bs h.0 h.1 h.2)

-- ---- the code, length by length

module _ (low before : ℕ) where
  pub code_one :
      (u : List ℕ) → length u ≡ 1 → small u ≡ true → low ≡ numeral 256 before u →
      cond (between 33 126 (low % 256) && true) (low % 256) 0 ≡ code_of u
  unfolding code_of
  code_one [] n s e = absurd (omega arith)
  code_one (a ∷ []) n s e =
      let ha : a < 256 = head_small a [] s in
      let ea : low % 256 ≡ a = omega arith in
      let en : a ≡ 256 * 0 + a = omega arith in
      rw ea (ap (λ (x : ℕ). cond (between 33 126 a && true) x 0) en)
  code_one (a ∷ b ∷ u) n s e = absurd (omega arith)

  pub code_two :
      (u : List ℕ) → length u ≡ 2 → small u ≡ true → low ≡ numeral 256 before u →
      cond (between 33 126 (low / 256 % 256) && (between 33 126 (low % 256) && true)) (low % 65536) 0 ≡ code_of u
  unfolding code_of
  code_two [] n s e = absurd (omega arith)
  code_two (a ∷ []) n s e = absurd (omega arith)
  code_two (a ∷ b ∷ []) n s e =
      let ha : a < 256 = head_small a (b ∷ []) s in
      let hb : b < 256 = head_small b [] (tail_small a (b ∷ []) s) in
      let ea : low / 256 % 256 ≡ a = omega arith in
      let eb : low % 256 ≡ b = omega arith in
      let en : low % 65536 ≡ 256 * (256 * 0 + a) + b = omega arith in
      rw (ea, eb, en)
  code_two (a ∷ b ∷ c ∷ u) n s e = absurd (omega arith)

  pub code_three :
      (u : List ℕ) → length u ≡ 3 → small u ≡ true → low ≡ numeral 256 before u →
      cond (between 33 126 (low / 65536 % 256) && (between 33 126 (low / 256 % 256) && (between 33 126 (low % 256) && true)))
      (low % 16777216) 0 ≡ code_of u
  unfolding code_of
  code_three [] k s e = absurd (omega arith)
  code_three (a ∷ []) k s e = absurd (omega arith)
  code_three (a ∷ b ∷ []) k s e = absurd (omega arith)
  code_three (a ∷ b ∷ c ∷ []) k s e =
      let ha : a < 256 = head_small a (b ∷ c ∷ []) s in
      let hb : b < 256 = head_small b (c ∷ []) (tail_small a (b ∷ c ∷ []) s) in
      let hc : c < 256 = head_small c [] (tail_small b (c ∷ []) (tail_small a (b ∷ c ∷ []) s)) in
      let ea : low / 65536 % 256 ≡ a = omega arith in
      let eb : low / 256 % 256 ≡ b = omega arith in
      let ec : low % 256 ≡ c = omega arith in
      let en : low % 16777216 ≡ 256 * (256 * (256 * 0 + a) + b) + c = omega arith in
      rw (ea, eb, ec, en)
  code_three (a ∷ b ∷ c ∷ d ∷ u) k s e = absurd (omega arith)

  pub code_four :
      (u : List ℕ) → length u ≡ 4 → small u ≡ true → low ≡ numeral 256 before u →
      cond
      (between 33 126 (low / 16777216 % 256)
      && (between 33 126 (low / 65536 % 256) && (between 33 126 (low / 256 % 256) && (between 33 126 (low % 256) && true))))
      (low % 4294967296) 0 ≡ code_of u
  unfolding code_of
  code_four [] k s e = absurd (omega arith)
  code_four (a ∷ []) k s e = absurd (omega arith)
  code_four (a ∷ b ∷ []) k s e = absurd (omega arith)
  code_four (a ∷ b ∷ c ∷ []) k s e = absurd (omega arith)
  code_four (a ∷ b ∷ c ∷ d ∷ []) k s e =
      let ha : a < 256 = head_small a (b ∷ c ∷ d ∷ []) s in
      let hb : b < 256 = head_small b (c ∷ d ∷ []) (tail_small a (b ∷ c ∷ d ∷ []) s) in
      let hc : c < 256 = head_small c (d ∷ []) (tail_small b (c ∷ d ∷ []) (tail_small a (b ∷ c ∷ d ∷ []) s)) in
      let hd : d < 256 = head_small d [] (tail_small c (d ∷ []) (tail_small b (c ∷ d ∷ []) (tail_small a (b ∷ c ∷ d ∷ []) s))) in
      let ea : low / 16777216 % 256 ≡ a = omega arith in
      let eb : low / 65536 % 256 ≡ b = omega arith in
      let ec : low / 256 % 256 ≡ c = omega arith in
      let ed : low % 256 ≡ d = omega arith in
      let en : low % 4294967296 ≡ 256 * (256 * (256 * (256 * 0 + a) + b) + c) + d = omega arith in
      rw (ea, eb, ec, ed, en)
  code_four (a ∷ b ∷ c ∷ d ∷ e ∷ u) k s f = absurd (omega arith)

code_none : (u : List ℕ) → length u ≡ 0 → 0 ≡ code_of u
unfolding code_of
code_none [] k = refl
code_none (a ∷ u) k = absurd (omega arith)

code_long : (u : List ℕ) → 4 < length u → 0 ≡ code_of u
unfolding code_of
code_long u h = rw (lt-leb (length u) 4 h, and-false)

pub code_other :
    (n low : ℕ) (u : List ℕ) → Ends n low u → (n ≡ 1 → ⊥) → (n ≡ 2 → ⊥) → (n ≡ 3 → ⊥) → (n ≡ 4 → ⊥) → 0 ≡ code_of u
code_other n low u e h₁ h₂ h₃ h₄ = go (flag (ltb 4 n))
  where
    go : Flag (ltb 4 n) → 0 ≡ code_of u
    go (on f) = code_long u (e.more (ltb-true 4 n f))
    go (off f) =
        let few : n ≤ 4 = ltb-false 4 n f in
        let none : n ≡ 0 = omega arith in
        code_none u (e.same few ∙ none)

-- ---- 0 is no code

numeral_grows : (v : ℕ) (u : List ℕ) → v ≤ numeral 256 v u
numeral_grows v [] = omega arith
numeral_grows v (b ∷ u) = omega (arith, numeral_grows (256 * v + b) u)

code_positive : (u : List ℕ) → is_code u ≡ true → 0 < numeral 256 0 u
code_positive [] e = absurd (true≢false (sym e))
code_positive (b ∷ u) e =
    let bytes = and_r (between 1 4 (length (b ∷ u))) (all (between 33 126) (b ∷ u)) e in
    let low = leb-true 33 b (and_l (leb 33 b) (leb b 126) (and_l (between 33 126 b) (all (between 33 126) u) bytes)) in
    omega (arith, numeral_grows (256 * 0 + b) u)

pub code_zero : (u : List ℕ) → code_of u ≡ 0 → is_code u ≡ false
unfolding code_of
code_zero u e = go (flag (is_code u))
  where
    go : Flag (is_code u) → is_code u ≡ false
    go (on f) = let zero : numeral 256 0 u ≡ 0 = rw f at e in absurd (omega (arith, code_positive u f))
    go (off f) = f

pub code_some : (u : List ℕ) → (code_of u ≡ 0 → ⊥) → is_code u ≡ true
unfolding code_of
code_some u h = go (flag (is_code u))
  where
    go : Flag (is_code u) → is_code u ≡ true
    go (on f) = f
    go (off f) = absurd (h (rw f))
