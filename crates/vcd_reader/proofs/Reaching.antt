-- Words that begin at an offset, a byte at a time. Assumes nothing.
--   some_if                                     an answer under a condition
--   Within, within_none, within_more, within_all    the bytes of a word up to i
--   over                                        a word that has no byte
--   word_inside, word_starts                    a word that has one begins at its offset
--   walked, at_last                             a walk through such a word
--   BitsTo, bits_more, bits_there               bits up to i, and their number
--   CodeTo, code_none, code_more, code_there    the bytes of a code up to i, and what they spell
--   TimeTo, time_there                          decimal digits up to i, and their number
use Prim.Native.Nat.{ℕ, ◌+◌, ◌*◌, ◌-◌, ◌<◌, ◌≤◌}
use mathlib.Core.Path.{◌≡◌, refl, sym, ap, subst, ◌∙◌}
use mathlib.Core.List.{List, [], ◌∷◌, map}
use mathlib.Core.Bool.{Bool, true, false, not, cond}
use lib.ListN.{length, get_or}
use lib.Dec.{ltb, leb, eqb}
use native.Mathlib.Omega.{arith}
use borrow.Author.Tests.{ltb-true, ltb-false, leb-true, le-leb, ne_eqb}
use Rattle.std.specs.Prelude.{Option, Some, IfSome}
use Rattle.std.specs.Bool.{then_some}
use Rattle.lists.specs.Numbers.{between}
use Rattle.lists.proofs.Bools.{and_in, and_l, and_r, clash, refuted, Flag, on, off, flag}
use Rattle.recording.specs.Words.{separator, all, is_empty}
use Rattle.recording.specs.Values.{numeral, is_bit, is_digit, digit_of, is_decimal, decimal, code_of}
use Rattle.recording.specs.Reading.{max_time}
use Rattle.vcd_words.specs.Partial.{with_known_bit, more_bits}
use Rattle.vcd_words.proofs.Bytes.{above_separators, run_more, run_separator, run_end}
use Rattle.vcd_reader.specs.Runs.{word_from, BitsThere, CodeThere, TimeThere}

pub some_if : {A : Type 0} {r : Option A} {x : A} (P : A → Type 0) (b : Bool) → r ≡ then_some b x → (b ≡ true → P x) → IfSome r P
some_if P true e h = rw e (h refl)
some_if P false e h = rw e tt

-- the length of the word is what is passed and what is left
pub record Within (t : List ℕ) (from i : ℕ) : Type 0 where
  pub start : from ≤ i
  pub end : i + length (word_from t i) ≡ from + length (word_from t from)

pub within_none : (t : List ℕ) (from : ℕ) → Within t from from
within_none t from = record { start = omega arith; end = refl }

-- a byte that is no separator is one of a word
pub within_more :
    (t : List ℕ) (from i : ℕ) → Within t from i → i < length t → separator (get_or t i 0) ≡ false → Within t from (i + 1)
within_more t from i w h k =
    record { start = omega (arith, w.start); end = omega (arith, ap length (run_more t i h k), w.end) }

pub within_all : (t : List ℕ) (from i : ℕ) → Within t from i → word_from t i ≡ [] → i ≡ from + length (word_from t from)
within_all t from i w e = omega (arith, ap length e, w.end)

-- a byte above the space
module _ (t : List ℕ) (i : ℕ) (h : i < length t) (k : 32 < get_or t i 0) where
  above_starts : separator (get_or t i 0) ≡ false
  above_starts = above_separators (get_or t i 0) k

  word_more : word_from t i ≡ get_or t i 0 ∷ word_from t (i + 1)
  word_more = run_more t i h above_starts

pub over : (w : List ℕ) {b : Bool} → b ≡ is_empty w → b ≡ true → w ≡ []
over [] e f = refl
over (x ∷ w) e f = clash f e

-- a word that has one begins at its offset
module _ (t : List ℕ) (i : ℕ) (some : word_from t i ≡ [] → ⊥) where
  pub word_inside : i < length t
  word_inside = go (flag (ltb i (length t)))
    where
      go : Flag (ltb i (length t)) → i < length t
      go (on f) = ltb-true i (length t) f
      go (off f) = absurd (some (run_end t i (ltb-false i (length t) f)))

  pub word_starts : separator (get_or t i 0) ≡ false
  word_starts = refuted (separator (get_or t i 0)) (λ f. some (run_separator t i word_inside f))

-- a word that has a byte has a length
some_byte : (w : List ℕ) → is_empty w ≡ false → 0 < length w
some_byte [] h = clash refl h
some_byte (b ∷ w) h = omega arith

-- a walk through a word that has a byte
module _ (t : List ℕ) (from i : ℕ) (inside : Within t from i) (some : is_empty (word_from t from) ≡ false) where
  pub has_byte : word_from t from ≡ [] → ⊥
  has_byte e = clash (ap is_empty e) some

  pub walked : word_from t i ≡ [] → from < i
  walked e = omega (arith, within_all t from i inside e, some_byte (word_from t from) some)

  -- it comes to the text's end
  pub at_last : length t ≤ i → (from ≤ length t → i ≤ length t) → length t ≡ i
  at_last h k = let start = word_inside t from has_byte in omega (arith, k (omega arith))

-- ---- bits

-- a byte that passes a test is none that doesn't
pub other_byte : (test : ℕ → Bool) (b c : ℕ) → test b ≡ true → test c ≡ false → eqb b c ≡ false
other_byte test b c e f = ne_eqb b c (λ g. clash e (ap test g ∙ f))

pub bit_range : (b : ℕ) → is_bit b ≡ true → 32 < b
bit_range b e = go (flag (ltb 32 b))
  where
    go : Flag (ltb 32 b) → 32 < b
    go (on f) = ltb-true 32 b f
    go (off f) =
        let low : b ≤ 32 = ltb-false 32 b f in
        let none : is_bit b ≡ false
        = rw (
          ne_eqb b 48 (λ g. omega arith),
          ne_eqb b 49 (λ g. omega arith),
          ne_eqb b 120 (λ g. omega arith),
          ne_eqb b 88 (λ g. omega arith),
          ne_eqb b 122 (λ g. omega arith),
          ne_eqb b 90 (λ g. omega arith),
        ) in
        clash e none

module _ (t : List ℕ) (from : ℕ) where
  pub record BitsTo (number : Option ℕ) (i : ℕ) : Type 0 where
    pub inside : Within t from i
    pub bits : more_bits number (word_from t i) ≡ more_bits (Some 0) (word_from t from)

  pub bits_more :
      (number : Option ℕ) (i : ℕ) → BitsTo number i → i < length t → is_bit (get_or t i 0) ≡ true →
      BitsTo (with_known_bit number (get_or t i 0)) (i + 1)
  bits_more number i o h k =
      let above = bit_range (get_or t i 0) k in
      record {
        inside = within_more t from i o.inside h (above_starts t i h above);
        bits = sym (ap (more_bits number) (word_more t i h above) ∙ rw k) ∙ o.bits;
      }

  pub bits_there :
      (number : Option ℕ) (i end : ℕ) → BitsTo number i → is_empty (word_from t from) ≡ false → word_from t i ≡ [] → end ≡ i →
      BitsThere t from (record { end = end; number = number })
  bits_there number i end o some e f =
      record {
        some = omega (arith, walked t from i o.inside some e);
        end = f ∙ within_all t from i o.inside e;
        number = sym o.bits ∙ ap (more_bits number) e;
      }

-- ---- codes

printable_range : (b : ℕ) → between 33 126 b ≡ true → (33 ≤ b) × (b ≤ 126)
printable_range b e = (leb-true 33 b (and_l (leb 33 b) (leb b 126) e), leb-true b 126 (and_r (leb 33 b) (leb b 126) e))

-- how many bytes a code has, by its size
pub data Sized (code : ℕ) : ℕ → Type 0 where
  none : code ≡ 0 → Sized code 0
  one : 0 < code → code < 256 → Sized code 1
  two : 256 ≤ code → code < 65536 → Sized code 2
  three : 65536 ≤ code → code < 16777216 → Sized code 3
  four : 16777216 ≤ code → code < 4294967296 → Sized code 4

sized_more : (code n b : ℕ) → Sized code n → code < 16777216 → 33 ≤ b → b ≤ 126 → Sized (code * 256 + b) (n + 1)
sized_more code n b (none e) h k l = one (omega arith) (omega arith)
sized_more code n b (one e f) h k l = two (omega arith) (omega arith)
sized_more code n b (two e f) h k l = three (omega arith) (omega arith)
sized_more code n b (three e f) h k l = four (omega arith) (omega arith)
sized_more code n b (four e f) h k l = absurd (omega arith)

sized_some : (code n : ℕ) → Sized code n → 0 < code → between 1 4 n ≡ true
sized_some code n (none e) h = absurd (omega arith)
sized_some code n (one e f) h = refl
sized_some code n (two e f) h = refl
sized_some code n (three e f) h = refl
sized_some code n (four e f) h = refl

sized_above : (code n : ℕ) → Sized code n → 0 < n → 0 < code
sized_above code n (none e) h = absurd (omega arith)
sized_above code n (one e f) h = e
sized_above code n (two e f) h = omega arith
sized_above code n (three e f) h = omega arith
sized_above code n (four e f) h = omega arith

module _ (t : List ℕ) (from : ℕ) where
  pub record CodeTo (code i : ℕ) : Type 0 where
    pub inside : Within t from i
    pub size : Sized code (i - from)
    pub bytes : all (between 33 126) (word_from t i) ≡ all (between 33 126) (word_from t from)
    pub spells : numeral 256 code (word_from t i) ≡ numeral 256 0 (word_from t from)

  pub code_none : CodeTo 0 from
  code_none =
      record { inside = within_none t from; size = rw zero (none refl); bytes = refl; spells = refl }
    where
      zero : from - from ≡ 0
      zero = omega arith

  pub code_more :
      (code i : ℕ) → CodeTo code i → i < length t → between 33 126 (get_or t i 0) ≡ true → code < 16777216 →
      CodeTo (code * 256 + get_or t i 0) (i + 1)
  code_more code i o h k l =
      let range = printable_range (get_or t i 0) k in
      let above : 32 < get_or t i 0 = omega (arith, range.0) in
      let more = word_more t i h above in
      let next : i + 1 - from ≡ i - from + 1 = omega (arith, o.inside.start) in
      let value : code * 256 + get_or t i 0 ≡ 256 * code + get_or t i 0 = omega arith in
      record {
        inside = within_more t from i o.inside h (above_starts t i h above);
        size = rw next (sized_more code (i - from) (get_or t i 0) o.size l range.0 range.1);
        bytes = sym (ap (all (between 33 126)) more ∙ rw k) ∙ o.bytes;
        spells = ap (λ (v : ℕ). numeral 256 v (word_from t (i + 1))) value ∙ sym (ap (numeral 256 code) more) ∙ o.spells;
      }

  pub code_all :
      (code i : ℕ) → CodeTo code i → word_from t i ≡ [] → 0 < code →
      (i ≡ from + length (word_from t from)) × (code ≡ code_of (word_from t from))
  unfolding code_of
  code_all code i o e h =
      let all_passed : i ≡ from + length (word_from t from) = within_all t from i o.inside e in
      let count : i - from ≡ length (word_from t from) = omega arith in
      let some : between 1 4 (length (word_from t from)) ≡ true = rw (← count) (sized_some code (i - from) o.size h) in
      let bytes : all (between 33 126) (word_from t from) ≡ true = sym o.bytes ∙ ap (all (between 33 126)) e in
      let spells : code ≡ numeral 256 0 (word_from t from) = sym (ap (numeral 256 code) e) ∙ o.spells in
      (all_passed, spells ∙ sym (ap (λ (x : Bool). cond x (numeral 256 0 (word_from t from)) 0) (and_in some bytes)))

  pub code_there :
      (code i end : ℕ) → CodeTo code i → is_empty (word_from t from) ≡ false → word_from t i ≡ [] → end ≡ i →
      CodeThere t from (record { end = end; code = code })
  code_there code i end o some e f =
      let above : 0 < code = sized_above code (i - from) o.size (omega (arith, walked t from i o.inside some e)) in
      record { some = above; end = f ∙ (code_all code i o e above).0; code = (code_all code i o e above).1 }

  -- a code of one byte
  pub one_code :
      (code : ℕ) → code ≡ get_or t from 0 → from < length t → between 33 126 (get_or t from 0) ≡ true →
      word_from t (from + 1) ≡ [] → CodeThere t from (record { end = from + 1; code = code })
  one_code code e h k over =
      let range = printable_range (get_or t from 0) k in
      let above : 32 < get_or t from 0 = omega (arith, range.0) in
      let same : 0 * 256 + get_or t from 0 ≡ code = omega (arith, e) in
      subst (λ (x : ℕ). CodeThere t from (record { end = from + 1; code = x })) same
      (code_there (0 * 256 + get_or t from 0) (from + 1) (from + 1)
      (code_more 0 from code_none h k (omega arith)) (ap is_empty (word_more t from h above)) over refl)

-- ---- times

module _ (t : List ℕ) (from : ℕ) where
  pub record TimeTo (time i : ℕ) : Type 0 where
    pub inside : Within t from i
    pub small : time < 18446744073709551616
    pub digits : all is_digit (word_from t i) ≡ all is_digit (word_from t from)
    pub spells : numeral 10 time (map digit_of (word_from t i)) ≡ numeral 10 0 (map digit_of (word_from t from))

  module _ (time i : ℕ) (o : TimeTo time i) (e : word_from t i ≡ []) where
    pub time_end : i ≡ from + length (word_from t from)
    time_end = within_all t from i o.inside e

    pub time_digits : is_empty (word_from t from) ≡ false → is_decimal (word_from t from) ≡ true
    time_digits some = and_in (ap not some) (sym o.digits ∙ ap (all is_digit) e)

    pub time_same : time ≡ decimal (word_from t from)
    unfolding decimal
    time_same = sym (ap (λ (w : List ℕ). numeral 10 time (map digit_of w)) e) ∙ o.spells

    pub time_fits : leb (decimal (word_from t from)) max_time ≡ true
    time_fits = rw (← time_same) (le-leb time max_time (omega (arith, o.small)))

  pub time_there :
      (time i end : ℕ) → TimeTo time i → is_empty (word_from t from) ≡ false → word_from t i ≡ [] → end ≡ i →
      TimeThere t from (record { end = end; time = time })
  time_there time i end o some e f =
      record {
        end = f ∙ time_end time i o e;
        digits = time_digits time i o e some;
        fits = time_fits time i o e;
        time = time_same time i o e;
      }
