-- Boolean tests taken apart and put together. Assumes nothing.
--   and_in, and_l, and_r      a conjunction from its parts, and its parts
--   or_in_l, or_in_r, or_off  a disjunction from a part; the second part where the first fails
--   not_in                    a negation; taken apart it is `not-true` and `not-false` of borrow.Author.Tests
--   failing, passing          what `!w` says of the test b that w is the answer of
--   clash                     a flag has one value: from both anything follows
--   refuted, confirmed        a flag that can't be true is false, one that can't be false is true
--   flag                      a flag is true or false, for a proof by cases with the equation kept
use mathlib.Core.Path.{◌≡◌, refl, sym, ◌∙◌}
use borrow.Author.Tests.{not-true, not-false}
use mathlib.Core.Bool.{Bool, true, false, not, ◌&&◌, ◌||◌, true≢false}

pub and_in : {a b : Bool} → a ≡ true → b ≡ true → a && b ≡ true
and_in {a} {b} p q = rw (p, q)

pub and_l : (a b : Bool) → a && b ≡ true → a ≡ true
and_l true b e = refl
and_l false b e = e

pub and_r : (a b : Bool) → a && b ≡ true → b ≡ true
and_r true b e = e
and_r false b e = absurd (true≢false (sym e))

pub or_in_l : {a : Bool} (b : Bool) → a ≡ true → a || b ≡ true
or_in_l {a} b p = rw p

pub or_in_r : (a : Bool) {b : Bool} → b ≡ true → a || b ≡ true
or_in_r true p = refl
or_in_r false p = p

pub or_off : (a b : Bool) → a || b ≡ true → a ≡ false → b ≡ true
or_off true b e f = absurd (true≢false f)
or_off false b e f = e

pub not_in : {a : Bool} → a ≡ false → not a ≡ true
not_in {a} p = rw p

module _ {w b : Bool} (is : w ≡ b) where
  pub failing : not w ≡ true → b ≡ false
  failing e = sym is ∙ not-true w e

  pub passing : not w ≡ false → b ≡ true
  passing e = sym is ∙ not-false w e

pub clash {ℓ} : {A : Type ℓ} {a : Bool} → a ≡ true → a ≡ false → A
clash p q = absurd (true≢false (sym p ∙ q))

pub refuted : (a : Bool) → (a ≡ true → ⊥) → a ≡ false
refuted true h = absurd (h refl)
refuted false h = refl

pub confirmed : (a : Bool) → (a ≡ false → ⊥) → a ≡ true
confirmed true h = refl
confirmed false h = absurd (h refl)

pub data Flag (a : Bool) : Type 0 where
  on : a ≡ true → Flag a
  off : a ≡ false → Flag a

pub flag : (a : Bool) → Flag a
flag true = on refl
flag false = off refl
