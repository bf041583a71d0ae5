-- Codes and names are told apart by what they spell. Assumes nothing.
--   same_bytes_lem       the test of two words says that they are equal
--   code_injective   different codes spell different numbers, none of them 0
--   name_injective   different variables have different names
use Prim.Native.Nat.{ℕ, suc, ◌+◌, ◌*◌, ◌<◌, ◌≤◌}
use mathlib.Core.Path.{◌≡◌, refl, sym, ap, ◌∙◌}
use Rattle.std.specs.Prelude.{Some}
use mathlib.Core.List.{List, [], ◌∷◌}
use mathlib.Core.Bool.{Bool, true, false, cond, true≢false}
use native.Mathlib.Omega.{arith}
use native.Mathlib.Nat.{not-suc-le-zero}
use lib.ListN.{length}
use lib.Dec.{leb, ltb, eqb}
use borrow.Author.Tests.{eqb-true, leb-true, ltb-true, ltb-false}
use Rattle.lists.specs.Numbers.{between}
use Rattle.lists.proofs.Bools.{and_l, and_r, Flag, on, off, flag}
use Rattle.recording.specs.declared.Signal.{Signal}
use Rattle.recording.specs.declared.Signal.TheVariants.{Stb, Cmd, Core, Arg, Prio}
use Rattle.recording.specs.Words.{same_bytes, all}
use Rattle.recording.specs.Values.{numeral, is_code, code_of}
use Rattle.recording.specs.Declarations.{name_of, signal_of}

-- ---- bytes

pub same_bytes_lem : (xs ys : List ℕ) → same_bytes xs ys ≡ true → xs ≡ ys
same_bytes_lem [] [] e = refl
same_bytes_lem [] (y ∷ ys) e = absurd (true≢false (sym e))
same_bytes_lem (x ∷ xs) [] e = absurd (true≢false (sym e))
same_bytes_lem (x ∷ xs) (y ∷ ys) e =
    let p : x ≡ y = eqb-true x y (and_l (eqb x y) (same_bytes xs ys) e) in
    let q : xs ≡ ys = same_bytes_lem xs ys (and_r (eqb x y) (same_bytes xs ys) e) in
    λ k. p k ∷ q k

-- ---- names

pub signal_of_name : (s : Signal) → signal_of (name_of s) ≡ Some s
signal_of_name Stb = refl
signal_of_name Cmd = refl
signal_of_name Core = refl
signal_of_name Arg = refl
signal_of_name Prio = refl

pub name_injective : (s s' : Signal) → name_of s ≡ name_of s' → s ≡ s'
name_injective s s' e =
    let p : Some s ≡ Some s' = sym (signal_of_name s) ∙ ap signal_of e ∙ signal_of_name s' in
    cc

-- ---- codes

-- digits of a code
abbrev Digits : List ℕ → Type 0
Digits xs = all (between 33 126) xs ≡ true

digit_range : (x : ℕ) (xs : List ℕ) → Digits (x ∷ xs) → (33 ≤ x) × (x ≤ 126)
digit_range x xs h =
    let d : between 33 126 x ≡ true = and_l (between 33 126 x) (all (between 33 126) xs) h in
    (leb-true 33 x (and_l (leb 33 x) (leb x 126) d), leb-true x 126 (and_r (leb 33 x) (leb x 126) d))

digits_rest : (x : ℕ) (xs : List ℕ) → Digits (x ∷ xs) → Digits xs
digits_rest x xs h = and_r (between 33 126 x) (all (between 33 126) xs) h

-- numerals of one length
same_numeral : (xs ys : List ℕ) (u v : ℕ) → length xs ≡ length ys → Digits xs → Digits ys → numeral 256 u xs ≡ numeral 256 v ys →
    (u ≡ v) × (xs ≡ ys)
same_numeral [] [] u v l h k e = (e, refl)
same_numeral [] (y ∷ ys) u v l h k e = absurd (omega (arith, l))
same_numeral (x ∷ xs) [] u v l h k e = absurd (omega (arith, l))
same_numeral (x ∷ xs) (y ∷ ys) u v l h k e =
    let p : (256 * u + x ≡ 256 * v + y) × (xs ≡ ys) =
    same_numeral xs ys (256 * u + x) (256 * v + y) (omega (arith, l)) (digits_rest x xs h) (digits_rest y ys k) e in
    let q : x ≡ y = omega (arith, p.0, digit_range x xs h, digit_range y ys k) in
    (omega (arith, p.0, digit_range x xs h, digit_range y ys k), λ i. q i ∷ p.1 i)

-- what is longer spells more
longer_numeral : (xs ys : List ℕ) (v : ℕ) → length xs ≤ length ys → 0 < v → Digits xs → Digits ys →
    numeral 256 0 xs ≡ numeral 256 v ys → ⊥
longer_numeral xs [] v l p h k e = omega (arith, (same_numeral xs [] 0 v (omega (arith, l)) h k e).0)
longer_numeral xs (y ∷ ys) v l p h k e = go (flag (ltb (length xs) (suc (length ys)))) (longer_numeral xs ys (256 * v + y))
  where
    go : Flag (ltb (length xs) (suc (length ys))) →
        (length xs ≤ length ys → 0 < 256 * v + y → Digits xs → Digits ys → numeral 256 0 xs ≡ numeral 256 (256 * v + y) ys → ⊥) → ⊥
    go (on f) next = next (omega (arith, ltb-true (length xs) (suc (length ys)) f)) (omega arith) h (digits_rest y ys k) e
    go (off f) next =
        omega (arith, (same_numeral xs (y ∷ ys) 0 v (omega (arith, ltb-false (length xs) (suc (length ys)) f)) h k e).0)

code_digits : (w : List ℕ) → is_code w ≡ true → Digits w
code_digits w h = and_r (between 1 4 (length w)) (all (between 33 126) w) h

code_numeral : (w : List ℕ) → is_code w ≡ true → code_of w ≡ numeral 256 0 w
unfolding code_of
code_numeral w h = rw h

-- the shorter of two codes does not spell what the longer one does
not_longer : (xs ys : List ℕ) → length xs < length ys → Digits xs → Digits ys → numeral 256 0 xs ≡ numeral 256 0 ys → ⊥
not_longer xs [] l h k e = not-suc-le-zero l
not_longer xs (y ∷ ys) l h k e =
    longer_numeral xs ys (256 * 0 + y) (omega (arith, l)) (omega (arith, digit_range y ys k)) h (digits_rest y ys k) e

pub code_injective : (a b : List ℕ) → is_code a ≡ true → is_code b ≡ true → code_of a ≡ code_of b → a ≡ b
code_injective a b h k e = go (flag (ltb (length a) (length b))) (flag (ltb (length b) (length a)))
  where
    n : numeral 256 0 a ≡ numeral 256 0 b
    n = sym (code_numeral a h) ∙ e ∙ code_numeral b k

    go : Flag (ltb (length a) (length b)) → Flag (ltb (length b) (length a)) → a ≡ b
    go (on f) g = absurd (not_longer a b (ltb-true (length a) (length b) f) (code_digits a h) (code_digits b k) n)
    go (off f) (on g) = absurd (not_longer b a (ltb-true (length b) (length a) g) (code_digits b k) (code_digits a h) (sym n))
    go (off f) (off g) =
        (same_numeral a b 0 0 (omega (arith, ltb-false (length a) (length b) f, ltb-false (length b) (length a) g)) (code_digits a h)
        (code_digits b k) n).1

-- digits only raise a numeral
numeral_le : (v : ℕ) (xs : List ℕ) → v ≤ numeral 256 v xs
numeral_le v [] = omega arith
numeral_le v (x ∷ xs) = omega (arith, numeral_le (256 * v + x) xs)

code_number : (w : List ℕ) → is_code w ≡ true → 0 < numeral 256 0 w
code_number [] h = absurd (true≢false (sym h))
code_number (x ∷ xs) h = omega (arith, numeral_le (256 * 0 + x) xs, digit_range x xs (code_digits (x ∷ xs) h))

pub code_positive : (w : List ℕ) → is_code w ≡ true → 0 < code_of w
code_positive w h = omega (arith, code_numeral w h, code_number w h)

pub positive_code : (w : List ℕ) → 0 < code_of w → is_code w ≡ true
unfolding code_of
positive_code w h = go (is_code w) h
  where
    go : (b : Bool) → 0 < cond b (numeral 256 0 w) 0 → b ≡ true
    go true p = refl
    go false p = absurd (not-suc-le-zero p)
