-- What is kept of a word tells whether it is a time, a width or a vector, and its number. Assumes nothing.
--   starts, time_told     a word that begins with #
--   width_told            a decimal word
--   vector_told           a vector
--   none_told             no answer under a condition
--   ends_word, ends_tail  the bytes of a code, after none or one byte
use Prim.Native.Nat.{ℕ, ◌+◌, ◌*◌, ◌-◌, ◌^◌, ◌<◌, ◌≤◌, min}
use mathlib.Core.Path.{◌≡◌, refl, ap, ◌∙◌}
use mathlib.Core.List.{List, [], ◌∷◌, tail, map}
use mathlib.Core.Bool.{Bool, true, false, not, ◌&&◌, ◌||◌, cond}
use lib.ListN.{length, get_or}
use lib.Dec.{ltb, leb, eqb}
use native.Mathlib.Nat.{le_trans, pow-le-pow_right, mod-eq_of_lt}
use native.Mathlib.Omega.{arith}
use borrow.Author.Tests.{ltb-true, ltb-false, le-leb, lt-leb, eqb-true}
use Rattle.lists.proofs.Bools.{clash, Flag, on, off, flag}
use Rattle.recording.specs.Words.{all, is_empty}
use Rattle.recording.specs.Values.{numeral, is_digit, digit_of, is_decimal, decimal, is_bit, bit_of, is_definite, value_of, vector_of}
use Rattle.recording.specs.Reading.{max_time, starts_time, is_time, time_of, is_vector}
use Rattle.vcd_words.specs.declared.Number.{Number}
use Rattle.vcd_words.specs.declared.Number.TheVariants.{Decimal, Binary}
use Rattle.recording.specs.declared.Vector.{Vector}
use Rattle.std.specs.Prelude.{Option, Some, None}
use Rattle.vcd_words.specs.declared.Partial.{Partial}
use Rattle.vcd_words.specs.Partial.{in_64, kept_value, vector_with, Keeps, Ends}
use Rattle.vcd_words.proofs.Spells.{small, tail_small, low_numeral, numeral_below}
use Rattle.vcd_words.proofs.Keeping.{kept_length, kept_first, kept_low}
use Rattle.vcd_words.proofs.Sums.{digits_of, bits_of, time_number, vector_number, width_number, no_number}

-- no answer under a condition
pub none_told : {A : Type 0} (b : Bool) (x : A) → None ≡ cond b (Some x) None → b ≡ false
none_told true x e = absurd cc
none_told false x e = refl

-- ---- what a number that is kept gives, where a test of the word holds

abbrev pub time_in : Bool → Option Number → Option ℕ
time_in test (Some (Decimal n)) = cond test n None
time_in test (Some (Binary n)) = None
time_in test None = None

-- A number of 64 bits, or the greatest.
abbrev pub held : Option ℕ → ℕ
held None = max_time
held (Some v) = v

abbrev pub width_in : Bool → Option Number → Option ℕ
width_in test (Some (Decimal n)) = cond test (Some (min (held n) 255)) None
width_in test (Some (Binary n)) = None
width_in test None = None

abbrev pub vector_in : Bool → ℕ → Option Number → Option Vector
vector_in test length (Some (Decimal n)) = None
vector_in test length (Some (Binary n)) = cond test (Some (vector_with length (kept_value n))) None
vector_in test length None = None

held_64 : (v : ℕ) → min (held (in_64 v)) 255 ≡ min 255 v
held_64 v = go (flag (ltb max_time v))
  where
    go : Flag (ltb max_time v) → min (held (in_64 v)) 255 ≡ min 255 v
    go (on e) = let above : max_time < v = ltb-true max_time v e in rw e (omega arith)
    go (off e) = rw e (omega arith)

time_rest : (u : List ℕ) → time_in (not (is_empty u)) (digits_of 0 u) ≡ cond (is_decimal u && leb (decimal u) max_time) (Some (decimal u)) None
unfolding decimal
time_rest [] = refl
time_rest (b ∷ u) = go (flag (all is_digit (b ∷ u))) (flag (ltb max_time (numeral 10 0 (map digit_of (b ∷ u)))))
  where
    go : Flag (all is_digit (b ∷ u)) → Flag (ltb max_time (numeral 10 0 (map digit_of (b ∷ u)))) →
        time_in true (digits_of 0 (b ∷ u)) ≡
        cond (all is_digit (b ∷ u) && leb (numeral 10 0 (map digit_of (b ∷ u))) max_time)
        (Some (numeral 10 0 (map digit_of (b ∷ u)))) None
    go (off e) f = rw e
    go (on e) (on f) = rw (e, f, lt-leb _ max_time (ltb-true max_time _ f))
    go (on e) (off f) = rw (e, f, le-leb _ max_time (ltb-false max_time _ f))

width_rest :
    (v : List ℕ) → is_digit (get_or v 0 0) ≡ true →
    width_in true (digits_of (digit_of (get_or v 0 0)) (tail v)) ≡ cond (is_decimal v) (Some (min 255 (decimal v))) None
unfolding decimal
width_rest [] f = clash f refl
width_rest (b ∷ u) f = go (flag (all is_digit u))
  where
    first : 10 * 0 + digit_of b ≡ digit_of b
    first = omega arith

    go : Flag (all is_digit u) →
        width_in true (digits_of (digit_of b) u) ≡
        cond (is_digit b && all is_digit u) (Some (min 255 (numeral 10 (10 * 0 + digit_of b) (map digit_of u)))) None
    go (on e) = rw (e, f, first, held_64 (numeral 10 (digit_of b) (map digit_of u)))
    go (off e) = rw (e, f)

width_off : (n : Option Number) → width_in false n ≡ None
width_off (Some (Decimal n)) = refl
width_off (Some (Binary n)) = refl
width_off None = refl

not_decimal : (v : List ℕ) → is_digit (get_or v 0 0) ≡ false → is_decimal v ≡ false
not_decimal [] f = refl
not_decimal (b ∷ u) f = rw f

vector_rest :
    (u : List ℕ) →
    vector_in (not (is_empty u)) (min 255 (length u)) (bits_of true 0 u) ≡ cond (not (is_empty u) && all is_bit u) (Some (vector_of u)) None
unfolding vector_of value_of
vector_rest [] = refl
vector_rest (b ∷ u) = go (flag (all is_bit (b ∷ u))) (flag (all is_definite (map bit_of (b ∷ u))))
  where
    go : Flag (all is_bit (b ∷ u)) → Flag (all is_definite (map bit_of (b ∷ u))) →
        vector_in true (min 255 (length (b ∷ u))) (bits_of true 0 (b ∷ u)) ≡ cond (all is_bit (b ∷ u)) (Some (vector_of (b ∷ u))) None
    go (off e) f = rw e
    go (on e) (on f) = rw (e, f)
    go (on e) (off f) = rw (e, f)

vector_none : (test : Bool) (n v : ℕ) (u : List ℕ) → vector_in test n (digits_of v u) ≡ None
vector_none test n v u = go (flag (all is_digit u))
  where
    go : Flag (all is_digit u) → vector_in test n (digits_of v u) ≡ None
    go (on e) = rw e
    go (off e) = rw e

module _ {p : Partial} {w : List ℕ} (k : Keeps p w) where
  -- ---- the rest of the word

  rest_some : leb 2 p.length ≡ not (is_empty (tail w))
  rest_some = go w k.some (kept_length k)
    where
      go : (v : List ℕ) → 0 < length v → p.length ≡ min 256 (length v) → leb 2 p.length ≡ not (is_empty (tail v))
      go [] h e = absurd (omega arith)
      go (b ∷ []) h e = lt-leb 2 p.length (omega arith)
      go (b ∷ c ∷ v) h e = le-leb 2 p.length (omega arith)

  -- the length of the rest
  rest_length : min (p.length - 1) 255 ≡ min 255 (length (tail w))
  rest_length = go w k.some (kept_length k)
    where
      go : (v : List ℕ) → 0 < length v → p.length ≡ min 256 (length v) → min (p.length - 1) 255 ≡ min 255 (length (tail v))
      go [] h e = absurd (omega arith)
      go (b ∷ v) h e = omega arith

  -- ---- times

  pub starts : eqb p.first 35 ≡ starts_time w
  starts = ap (λ (b : ℕ). eqb b 35) (kept_first k)

  pub time_told : starts_time w ≡ true → time_in (leb 2 p.length) p.number ≡ cond (is_time w) (Some (time_of w)) None
  time_told s = rw (time_number k (eqb-true (get_or w 0 0) 35 s), rest_some, s) (time_rest (tail w))

  -- ---- decimal words

  pub width_told : width_in (is_digit p.first) p.number ≡ cond (is_decimal w) (Some (min 255 (decimal w))) None
  width_told = rw (kept_first k) (go (flag (is_digit (get_or w 0 0))))
    where
      go : Flag (is_digit (get_or w 0 0)) →
          width_in (is_digit (get_or w 0 0)) p.number ≡ cond (is_decimal w) (Some (min 255 (decimal w))) None
      go (on e) = rw (e, width_number k e) (width_rest w e)
      go (off e) = rw (e, width_off p.number, not_decimal w e)

  -- ---- vectors

  no_vector :
      (test : Bool) (n : ℕ) → (eqb (get_or w 0 0) 98 || eqb (get_or w 0 0) 66) ≡ false → Flag (eqb (get_or w 0 0) 35) →
      Flag (is_digit (get_or w 0 0)) → vector_in test n p.number ≡ None
  no_vector test n e (on f) g = rw (time_number k (eqb-true (get_or w 0 0) 35 f)) (vector_none test n 0 (tail w))
  no_vector test n e (off f) (on g) = rw (width_number k g) (vector_none test n (digit_of (get_or w 0 0)) (tail w))
  no_vector test n e (off f) (off g) = rw (no_number k e f g)

  pub vector_told :
      vector_in (leb 2 p.length) (min (p.length - 1) 255) p.number ≡ cond (is_vector w) (Some (vector_of (tail w))) None
  vector_told = rw (rest_some, rest_length) (go (flag (eqb (get_or w 0 0) 98 || eqb (get_or w 0 0) 66)))
    where
      go : Flag (eqb (get_or w 0 0) 98 || eqb (get_or w 0 0) 66) →
          vector_in (not (is_empty (tail w))) (min 255 (length (tail w))) p.number ≡ cond (is_vector w) (Some (vector_of (tail w))) None
      go (on e) = rw (vector_number k e, e) (vector_rest (tail w))
      go (off e) = rw (no_vector _ _ e (flag (eqb (get_or w 0 0) 35)) (flag (is_digit (get_or w 0 0))), e)

  -- ---- codes

  low_exact : length w ≤ 8 → p.low ≡ numeral 256 0 w
  low_exact h =
      let below : numeral 256 0 w < 256 ^ length w = omega (arith, numeral_below 0 w k.small) in
      kept_low k ∙ low_numeral 0 w k.small ∙ mod-eq_of_lt (le_trans below (pow-le-pow_right {n = 256} (omega arith) h))

  pub ends_word : Ends p.length p.low w
  ends_word =
      record {
        small = k.small;
        same = λ h. omega (arith, kept_length k);
        more = λ h. omega (arith, kept_length k);
        before = 0;
        exact = λ h. low_exact (omega arith);
      }

  pub ends_tail : Ends (p.length - 1) p.low (tail w)
  ends_tail = go w k.some k.small (kept_length k) low_exact
    where
      go : (v : List ℕ) → 0 < length v → small v ≡ true → p.length ≡ min 256 (length v) →
          (length v ≤ 8 → p.low ≡ numeral 256 0 v) → Ends (p.length - 1) p.low (tail v)
      go [] some s e exact = absurd (omega arith)
      go (b ∷ v) some s e exact =
          record {
            small = tail_small b v s;
            same = λ h. omega arith;
            more = λ h. omega arith;
            before = 256 * 0 + b;
            exact = λ h. exact (omega arith);
          }
