-- Runs of digits, of any kind and base, that spell the same number or none, whatever follows them. Assumes nothing.
--   all_more        a test of all bytes, with one more
--   numeral_over    many digits behind a first one that isn't 0 reach any bound
--   Spells          neither is a run of digits, or both are and their numbers, held at a bound, are the same
--   spells_none, spells_zero, spells_over    no runs of digits; a leading 0; a digit behind a number that is held
--   spells_more     another byte behind both
use Prim.Native.Nat.{ℕ, ◌+◌, ◌*◌, ◌^◌, ◌≤◌, ◌<◌, min}
use mathlib.Core.Path.{◌≡◌, refl, sym, ap, ◌∙◌}
use mathlib.Core.List.{List, [], ◌∷◌, ◌++◌, map}
use mathlib.Core.Bool.{Bool, true, false, ◌&&◌, and-true}
use native.Mathlib.Omega.{arith}
use native.Mathlib.Nat.{mul-le-mul_right, mul_assoc, pow-succ', le_trans}
use lib.ListN.{length}
use lib.Dec.{leb}
use lib.Pow.{pow_mono}
use borrow.Author.Tests.{leb-true, leb-false}
use Rattle.lists.proofs.Bools.{and_l, clash, Flag, on, off, flag}
use Rattle.recording.specs.Words.{all}
use Rattle.recording.specs.Values.{numeral}

-- ---- one more digit

pub all_more : (f : ℕ → Bool) (t : List ℕ) (b : ℕ) → all f (t ++ (b ∷ [])) ≡ all f t && f b
all_more f [] b = and-true (f b)
all_more f (x ∷ t) b = go (f x) (all_more f t b)
  where
    go : (y : Bool) → all f (t ++ (b ∷ [])) ≡ all f t && f b → y && all f (t ++ (b ∷ [])) ≡ y && all f t && f b
    go true e = e
    go false e = refl

numeral_more : (base v : ℕ) (digit : ℕ → ℕ) (t : List ℕ) (b : ℕ) →
    numeral base v (map digit (t ++ (b ∷ []))) ≡ base * numeral base v (map digit t) + digit b
numeral_more base v digit [] b = refl
numeral_more base v digit (x ∷ t) b = numeral_more base (base * v + digit x) digit t b

-- a number from the bound on only grows
over_more : (base m x d : ℕ) → 1 ≤ base → m ≤ x → m ≤ base * x + d
over_more base m x d h p = omega (arith, mul-le-mul_right {m = 1} {n = base} x h)

held_more : (base m x y d : ℕ) → 1 ≤ base → min m x ≡ min m y → min m (base * x + d) ≡ min m (base * y + d)
held_more base m x y d h e = go (flag (leb m x))
  where
    go : Flag (leb m x) → min m (base * x + d) ≡ min m (base * y + d)
    go (on f) =
        let over : m ≤ x = leb-true m x f in
        omega (arith, over_more base m x d h over, over_more base m y d h (omega arith))
    go (off f) =
        let below : x < m = leb-false m x f in
        let same : x ≡ y = omega arith in
        rw same

-- each digit at least doubles
doubles : (base v d p : ℕ) → 2 ≤ base → v * (2 * p) ≤ (base * v + d) * p
doubles base v d p h =
    let more : v * 2 * p ≤ (base * v + d) * p =
    mul-le-mul_right {m = v * 2} {n = base * v + d} p (omega (arith, mul-le-mul_right {m = 2} {n = base} v h)) in
    omega (arith, more, mul_assoc v 2 p)

numeral_grows : (base v : ℕ) (ds : List ℕ) → 2 ≤ base → v * 2 ^ length ds ≤ numeral base v ds
numeral_grows base v [] h = omega arith
numeral_grows base v (d ∷ ds) h =
    le_trans (rw (pow-succ' 2 (length ds)) (doubles base v d (2 ^ length ds) h)) (numeral_grows base (base * v + d) ds h)

-- v stands for the digits before, not all of them 0
pub numeral_over : (base k v : ℕ) (ds : List ℕ) → 2 ≤ base → k ≤ length ds → 1 ≤ v → 2 ^ k ≤ numeral base v ds
numeral_over base k v ds two h p =
    let wide : 2 ^ k ≤ 2 ^ length ds = pow_mono h in
    omega (arith, wide, mul-le-mul_right {m = 1} {n = v} (2 ^ length ds) p, numeral_grows base v ds two)

-- ---- runs of digits

-- Digits of a base, each with a test and a number, after those that made v; numbers are held at m.
pub record Spells (base m v : ℕ) (ok : ℕ → Bool) (digit : ℕ → ℕ) (t u : List ℕ) : Type 0 where
  pub digits : all ok t ≡ all ok u
  pub number : all ok t ≡ true → min m (numeral base v (map digit t)) ≡ min m (numeral base v (map digit u))

module _ {base m v : ℕ} {ok : ℕ → Bool} {digit : ℕ → ℕ} where
  pub spells_same : (t : List ℕ) → Spells base m v ok digit t t
  spells_same t = record { digits = refl; number = λ e. refl }

  pub spells_then : {t u w : List ℕ} → Spells base m v ok digit t u → Spells base m v ok digit u w → Spells base m v ok digit t w
  spells_then p q =
      record { digits = p.digits ∙ q.digits; number = λ e. p.number e ∙ q.number (sym p.digits ∙ e) }

  -- neither is a run of digits
  pub spells_none : {t u : List ℕ} → all ok t ≡ false → all ok u ≡ false → Spells base m v ok digit t u
  spells_none e f = record { digits = e ∙ sym f; number = λ g. clash g e }

  -- a leading 0
  pub spells_zero : (z : ℕ) (t : List ℕ) → ok z ≡ true → base * v + digit z ≡ v → Spells base m v ok digit t (z ∷ t)
  spells_zero z t e f = record { digits = rw e; number = λ g. ap (λ (x : ℕ). min m (numeral base x (map digit t))) (sym f) }

  module _ (one : 1 ≤ base) where
    -- a digit behind a number that is held
    pub spells_over : (t : List ℕ) (b : ℕ) → ok b ≡ true → (all ok t ≡ true → m ≤ numeral base v (map digit t)) →
        Spells base m v ok digit t (t ++ (b ∷ []))
    spells_over t b e over =
        record {
          digits = sym (rw (all_more ok t b, e) (and-true (all ok t)));
          number = λ f.
              rw (numeral_more base v digit t b)
              (omega (arith, over f, over_more base m (numeral base v (map digit t)) (digit b) one (over f)));
        }

    pub spells_more : {t u : List ℕ} (b : ℕ) → Spells base m v ok digit t u → Spells base m v ok digit (t ++ (b ∷ [])) (u ++ (b ∷ []))
    spells_more {t} {u} b p =
        record {
          digits = rw (all_more ok t b, all_more ok u b, p.digits);
          number = λ e.
              rw (numeral_more base v digit t b, numeral_more base v digit u b)
              (held_more base m (numeral base v (map digit t)) (numeral base v (map digit u)) (digit b) one
              (p.number (and_l (all ok t) (ok b) (sym (all_more ok t b) ∙ e))));
        }
