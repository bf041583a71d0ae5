-- Items of five bytes in a row, read at a place i: one item and those behind it, or none. Over any reader. Assumes nothing.
--   read_at, fives_read    what the five bytes at i give, and the same from its words
--   fives_there           the items from i on: what the bytes there give before the rest, or none
--   fives_end             no byte is left
--   fives_length          an item takes five bytes
use Prim.Native.Nat.{ℕ, suc, ◌+◌, ◌*◌, ◌<◌, ◌≤◌}
use mathlib.Core.Path.{◌≡◌, ap, ◌∙◌}
use mathlib.Core.List.{List, [], ◌∷◌}
use lib.ListN.{length, get_or, drop, drop_of_length-le}
use lib.Seq.{drop-cons}
use native.Mathlib.Numerals.{towards_suc}
use native.Mathlib.Omega.{arith}
use Rattle.layout.specs.Bytes.{word_at, command_size, or_end, in_fives}

or_end-length : {A : Type 0} (xs rest : List A) → length (or_end xs rest) ≤ suc (length rest)
or_end-length [] rest = omega arith
or_end-length (x ∷ none) rest = omega arith

five :
    (l : List ℕ) (i : ℕ) → i + command_size ≤ length l →
    drop i l ≡ get_or l i 0 ∷ get_or l (i + 1) 0 ∷ get_or l (i + 1 + 1) 0 ∷ get_or l (i + 3) 0 ∷ get_or l (i + 3 + 1) 0 ∷ drop (i + command_size) l
five l i h =
    let h₀ : i < length l = omega arith in
    let h₁ : suc i < length l = omega arith in
    let h₂ : suc (suc i) < length l = omega arith in
    let h₃ : suc (suc (suc i)) < length l = omega arith in
    let h₄ : suc (suc (suc (suc i))) < length l = omega arith in
    simp towards_suc
    (rw (
      drop-cons l i 0,
      drop-cons l (suc i) 0,
      drop-cons l (suc (suc i)) 0,
      drop-cons l (suc (suc (suc i))) 0,
      drop-cons l (suc (suc (suc (suc i)))) 0,
    ))

module _ {A : Type 0} (read : ℕ → ℕ → ℕ → List A) where
  pub fives_length : (l : List ℕ) → command_size * length (in_fives read l) ≤ length l
  unfolding in_fives
  fives_length [] = omega arith
  fives_length (a ∷ []) = omega arith
  fives_length (a ∷ b ∷ []) = omega arith
  fives_length (a ∷ b ∷ c ∷ []) = omega arith
  fives_length (a ∷ b ∷ c ∷ d ∷ []) = omega arith
  fives_length (a ∷ b ∷ c ∷ d ∷ e ∷ rest) =
      omega (arith, or_end-length (read a (b + 256 * c) (d + 256 * e)) (in_fives read rest), fives_length rest)

  abbrev pub read_at : List ℕ → ℕ → List A
  read_at l i = read (get_or l i 0) (word_at l (i + 1)) (word_at l (i + 3))

  module _ (l : List ℕ) (i : ℕ) where
    pub fives_read :
        {x y : ℕ} {xs : List A} → x ≡ word_at l (i + 1) → y ≡ word_at l (i + 3) → read (get_or l i 0) x y ≡ xs → read_at l i ≡ xs
    fives_read ex ey e = rw (← ex, ← ey) e

    pub fives_there :
        {xs : List A} → i + command_size ≤ length l → read_at l i ≡ xs →
        in_fives read (drop i l) ≡ or_end xs (in_fives read (drop (i + command_size) l))
    unfolding in_fives
    fives_there h e =
        ap (in_fives read) (five l i h) ∙ ap (λ (xs : List A). or_end xs (in_fives read (drop (i + command_size) l))) e

    pub fives_end : length l ≤ i → in_fives read (drop i l) ≡ []
    unfolding in_fives
    fives_end h = ap (in_fives read) (drop_of_length-le l h)
