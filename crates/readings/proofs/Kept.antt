-- A word of which at most 256 bytes are carried means the same as the whole word (`KeptBounded`, `KeptMeansSame`). Assumes nothing.
--   next          one more byte of a word of which 256 are carried: 256 again, alike to the bytes with the new one
--   next_zero     a leading 0 goes
--   next_digits   digits behind a first one that isn't 0 spell more than any number asked for
--   next_bits     so do bits
use Prim.Native.Nat.{ℕ, zero, suc, ◌+◌, ◌*◌, ◌^◌, ◌≤◌, ◌<◌}
use mathlib.Core.Path.{◌≡◌, refl, sym, ap, ◌∙◌}
use mathlib.Core.List.{List, [], ◌∷◌, ◌++◌, map, append-nil, append_assoc}
use mathlib.Core.Bool.{Bool, true, false, not, ◌&&◌, ◌||◌, cond, and-true, and-false, or_comm, true≢false}
use native.Mathlib.Omega.{arith}
use lib.ListN.{length, take, drop, length-append, length-take, length-drop, length-map}
use lib.Dec.{ltb, eqb}
use borrow.Author.Tests.{ltb-true, ltb-false, lt-ltb, le-ltb, eqb-true, eqb-false, not-true}
use Rattle.lists.proofs.Bools.{and_in, and_l, and_r, or_in_l, or_in_r, or_off, not_in, clash, refuted, confirmed, Flag, on, off, flag}
use Rattle.lists.proofs.Exact.{between_exact}
use Rattle.recording.specs.declared.Reader.{Reader}
use Rattle.recording.specs.declared.Read.{Read}
use Rattle.recording.specs.Words.{all, word_with}
use Rattle.recording.specs.Values.{numeral, is_digit, digit_of, is_bit, bit_of, b0, b1, bx, bz, is_definite}
use Rattle.recording.specs.Reading.{is_vector, read_word}
use Rattle.recording.specs.Chunks.{most_kept, is_binary, leads_zero, held_digits, held_bits, kept_with, kept_after}
use Rattle.recording.specs.ChunkStatements.{KeptBounded, KeptMeansSame}
use Rattle.readings.proofs.Spells.{all_more, numeral_over, spells_none, spells_zero, spells_over}
use Rattle.readings.proofs.Alike.{not_empty, is_numeric, is_definite_byte, number_of_byte, SameBits}
use Rattle.readings.proofs.Alike.{Alike, alike_same, alike_then, alike_more, alike_read}

-- ---- bytes

binary_no_number : (f : ℕ) → is_binary f ≡ true → is_numeric f ≡ false
binary_no_number f e = go (flag (eqb f 98))
  where
    go : Flag (eqb f 98) → is_numeric f ≡ false
    go (on g) = ap is_numeric (eqb-true f 98 g)
    go (off g) = ap is_numeric (eqb-true f 66 (or_off (eqb f 98) (eqb f 66) e g))

-- a definite bit is 0, or else 1
definite_byte : (b : ℕ) → is_definite_byte b ≡ true → eqb b 48 ≡ false → b ≡ 49
definite_byte b e f = go (flag (eqb b 49))
  where
    other : (y : Bool) → is_definite (cond (eqb b 48) b0 (cond (eqb b 49) b1 (cond y bx bz))) ≡ true → eqb b 49 ≡ false → ⊥
    other true h g = true≢false (sym h ∙ rw (f, g))
    other false h g = true≢false (sym h ∙ rw (f, g))

    go : Flag (eqb b 49) → b ≡ 49
    go (on g) = eqb-true b 49 g
    go (off g) = absurd (other (eqb b 120 || eqb b 88) e g)

definite_bit : (b : ℕ) → is_definite_byte b ≡ true → is_bit b ≡ true
definite_bit b e = go (flag (eqb b 48))
  where
    go : Flag (eqb b 48) → is_bit b ≡ true
    go (on g) = ap is_bit (eqb-true b 48 g)
    go (off g) = ap is_bit (definite_byte b e g)

definite_bits : (t : List ℕ) → all is_definite_byte t ≡ true → all is_bit t ≡ true
definite_bits [] e = refl
definite_bits (b ∷ t) e =
    and_in (definite_bit b (and_l (is_definite_byte b) (all is_definite_byte t) e))
    (definite_bits t (and_r (is_definite_byte b) (all is_definite_byte t) e))

all_take : (f : ℕ → Bool) (n : ℕ) (t : List ℕ) → all f t ≡ true → all f (take n t) ≡ true
all_take f zero t e = refl
all_take f (suc n) [] e = refl
all_take f (suc n) (b ∷ t) e = and_in (and_l (f b) (all f t) e) (all_take f n t (and_r (f b) (all f t) e))

not_all : (f : ℕ → Bool) (t : List ℕ) (b : ℕ) → f b ≡ false → all f (t ++ (b ∷ [])) ≡ false
not_all f t b e = all_more f t b ∙ rw e (and-false (all f t))

-- ---- one more byte of a word that is full

record Next (f : ℕ) (x : List ℕ) (b : ℕ) : Type 0 where
  rest : List ℕ
  long : length rest ≡ 255
  is : kept_with (f ∷ x) b ≡ f ∷ rest
  alike : Alike f rest (x ++ (b ∷ []))

module _ (f : ℕ) (x : List ℕ) (b : ℕ) (lx : length x ≡ 255) where
  full : kept_with (f ∷ x) b ≡
      cond (leads_zero (f ∷ x)) (f ∷ (drop 1 x ++ (b ∷ []))) (cond (is_binary f) (held_bits (f ∷ x) b) (held_digits (f ∷ x) b))
  unfolding kept_with
  full = rw (le-ltb (suc (length x)) 256 (omega arith))

  ended_long : length (take 254 x ++ (b ∷ [])) ≡ 255
  ended_long = omega (arith, lx, length-append (take 254 x) (b ∷ []), length-take 254 x)

-- ---- a leading 0

-- # and 0 count nothing themselves
zero_digit : (f : ℕ) → (eqb f 35 || eqb f 48 || is_binary f) ≡ true → is_numeric f ≡ true → digit_of f ≡ 0
zero_digit f e n =
    let front : (eqb f 35 || eqb f 48) ≡ true =
    or_off (is_binary f) (eqb f 35 || eqb f 48) (or_comm (is_binary f) (eqb f 35 || eqb f 48) ∙ e)
    (refuted (is_binary f) (λ g. true≢false (sym n ∙ binary_no_number f g))) in
    go (flag (eqb f 35)) front
  where
    go : Flag (eqb f 35) → (eqb f 35 || eqb f 48) ≡ true → digit_of f ≡ 0
    go (on g) h = omega (arith, eqb-true f 35 g)
    go (off g) h = omega (arith, eqb-true f 48 (or_off (eqb f 35) (eqb f 48) h g))

zero_alike : (f : ℕ) (x : List ℕ) → leads_zero (f ∷ x) ≡ true → Alike f (drop 1 x) x
zero_alike f [] e = absurd (true≢false (sym e))
zero_alike f (s ∷ t) e =
    let front : (eqb f 35 || eqb f 48 || is_binary f) ≡ true =
    and_r (eqb s 48) (eqb f 35 || eqb f 48 || is_binary f) e in
    rw (eqb-true s 48 (and_l (eqb s 48) (eqb f 35 || eqb f 48 || is_binary f) e))
    (record {
      number = λ n. spells_zero 48 t refl (omega (arith, zero_digit f front n));
      bits = λ g. refl;
      value = λ g. spells_zero 48 t refl (omega arith);
    })

next_zero : (f : ℕ) (x : List ℕ) (b : ℕ) → length x ≡ 255 → leads_zero (f ∷ x) ≡ true → Next f x b
next_zero f x b lx e =
    record {
      rest = drop 1 x ++ (b ∷ []);
      long = omega (arith, lx, length-append (drop 1 x) (b ∷ []), length-drop 1 x);
      is = full f x b lx ∙ rw e;
      alike = alike_more f b (zero_alike f x e);
    }

-- ---- digits

digits_over : (f : ℕ) (x : List ℕ) → length x ≡ 255 → leads_zero (f ∷ x) ≡ false → is_numeric f ≡ true → all is_digit x ≡ true →
    2 ^ 64 ≤ numeral 10 (digit_of f) (map digit_of x)
digits_over f [] lx e n d = absurd (omega arith)
digits_over f (s ∷ t) lx e n d =
    numeral_over 10 64 (10 * digit_of f + digit_of s) (map digit_of t) (omega arith) (omega (arith, lx, length-map t digit_of))
    (go (flag (eqb s 48)))
  where
    range : (48 ≤ s) × (s ≤ 57)
    range = (between_exact 48 57 s).0 (and_l (is_digit s) (all is_digit t) d)

    go : Flag (eqb s 48) → 1 ≤ 10 * digit_of f + digit_of s
    go (off g) = let other : s ≡ 48 → ⊥ = eqb-false s 48 g in omega (arith, range)
    go (on g) =
        let front : (eqb f 35 || eqb f 48 || is_binary f) ≡ false = rw g at e in
        let no_hash : eqb f 35 ≡ false = refuted (eqb f 35) (λ p. clash (or_in_l (is_binary f) (or_in_l (eqb f 48) p)) front) in
        let no_zero : eqb f 48 ≡ false = refuted (eqb f 48) (λ p. clash (or_in_l (is_binary f) (or_in_r (eqb f 35) p)) front) in
        let other : f ≡ 48 → ⊥ = eqb-false f 48 no_zero in
        omega (arith, (between_exact 48 57 f).0 (or_off (eqb f 35) (is_digit f) n no_hash))

next_digits : (f : ℕ) (x : List ℕ) (b : ℕ) → length x ≡ 255 → leads_zero (f ∷ x) ≡ false → is_binary f ≡ false → Next f x b
next_digits f x b lx e bin = go (flag (is_digit b))
  where
    go : Flag (is_digit b) → Next f x b
    go (on d) =
        record {
          rest = x;
          long = lx;
          is = full f x b lx ∙ rw (e, bin, d);
          alike = record {
            number = λ n. spells_over (omega arith) x b d (digits_over f x lx e n);
            bits = λ g. clash g bin;
            value = λ g. clash g bin;
          };
        }
    go (off d) =
        record {
          rest = take 254 x ++ (b ∷ []);
          long = ended_long f x b lx;
          is = full f x b lx ∙ rw (e, bin, d);
          alike = record {
            number = λ n. spells_none (not_all is_digit (take 254 x) b d) (not_all is_digit x b d);
            bits = λ g. clash g bin;
            value = λ g. clash g bin;
          };
        }

-- ---- bits

-- the first bit is 1, where all are definite
bits_over : (f : ℕ) (x : List ℕ) → length x ≡ 255 → leads_zero (f ∷ x) ≡ false → is_binary f ≡ true → all is_definite_byte x ≡ true →
    65535 ≤ numeral 2 0 (map number_of_byte x)
bits_over f [] lx e bin d = absurd (omega arith)
bits_over f (s ∷ t) lx e bin d =
    let front : (eqb f 35 || eqb f 48 || is_binary f) ≡ true = or_in_r (eqb f 35 || eqb f 48) bin in
    let no_zero : eqb s 48 ≡ false = refuted (eqb s 48) (λ p. clash (and_in p front) e) in
    let first : s ≡ 49 = definite_byte s (and_l (is_definite_byte s) (all is_definite_byte t) d) no_zero in
    omega (
      arith,
      numeral_over 2 16 (2 * 0 + number_of_byte s) (map number_of_byte t) (omega arith)
          (omega (arith, lx, length-map t number_of_byte)) (rw first (omega arith)),
    )

module _ (f : ℕ) (x : List ℕ) (b : ℕ) (lx : length x ≡ 255) (e : leads_zero (f ∷ x) ≡ false) (bin : is_binary f ≡ true) where
  vector_bits : is_vector (f ∷ x) ≡ all is_bit x
  vector_bits = rw (not_empty x (omega arith), bin)

  -- the new byte may be left out
  abbrev leaves : Bool
  leaves = is_bit b && (is_definite (bit_of b) || not (is_vector (f ∷ x)))

  left_bits : leaves ≡ true → SameBits x (x ++ (b ∷ []))
  left_bits g = go (flag (is_definite_byte b))
    where
      go : Flag (is_definite_byte b) → SameBits x (x ++ (b ∷ []))
      go (on d) = spells_over (omega arith) x b d (bits_over f x lx e bin)
      go (off d) =
          let no_vector : is_vector (f ∷ x) ≡ false =
          not-true (is_vector (f ∷ x)) (or_off (is_definite_byte b) (not (is_vector (f ∷ x))) (and_r (is_bit b) _ g) d) in
          spells_none
          (refuted (all is_definite_byte x) (λ p. clash (vector_bits ∙ definite_bits x p) no_vector))
          (not_all is_definite_byte x b d)

  ends_bits : leaves ≡ false →
      (all is_bit (take 254 x ++ (b ∷ [])) ≡ all is_bit (x ++ (b ∷ []))) × (is_definite_byte b ≡ false)
  ends_bits g = go (flag (is_bit b))
    where
      go : Flag (is_bit b) → (all is_bit (take 254 x ++ (b ∷ [])) ≡ all is_bit (x ++ (b ∷ []))) × (is_definite_byte b ≡ false)
      go (off d) = (
        not_all is_bit (take 254 x) b d ∙ sym (not_all is_bit x b d),
        refuted (is_definite_byte b) (λ p. clash (definite_bit b p) d),
      )
      go (on d) =
          let both : (is_definite_byte b || not (is_vector (f ∷ x))) ≡ false = rw d at g in
          let vector : is_vector (f ∷ x) ≡ true =
          confirmed (is_vector (f ∷ x)) (λ p. clash (or_in_r (is_definite_byte b) (not_in p)) both) in
          let whole : all is_bit x ≡ true = sym vector_bits ∙ vector in (
            rw (all_more is_bit (take 254 x) b, all_more is_bit x b, all_take is_bit 254 x whole, whole),
            refuted (is_definite_byte b) (λ p. clash (or_in_l (not (is_vector (f ∷ x))) p) both),
          )

  next_bits : Next f x b
  next_bits = go (flag leaves)
    where
      go : Flag leaves → Next f x b
      go (on g) =
          record {
            rest = x;
            long = lx;
            is = full f x b lx ∙ rw (e, g, bin);
            alike = record {
              number = λ n. clash n (binary_no_number f bin);
              bits = λ p. sym (rw (all_more is_bit x b, and_l (is_bit b) _ g) (and-true (all is_bit x)));
              value = λ p. left_bits g;
            };
          }
      go (off g) =
          record {
            rest = take 254 x ++ (b ∷ []);
            long = ended_long f x b lx;
            is = full f x b lx ∙ rw (e, g, bin);
            alike = record {
              number = λ n. clash n (binary_no_number f bin);
              bits = λ p. (ends_bits g).0;
              value = λ p.
                  spells_none (not_all is_definite_byte (take 254 x) b (ends_bits g).1)
                  (not_all is_definite_byte x b (ends_bits g).1);
            };
          }

next : (f : ℕ) (x : List ℕ) (b : ℕ) → length x ≡ 255 → Next f x b
next f x b lx = go (flag (leads_zero (f ∷ x))) (flag (is_binary f))
  where
    go : Flag (leads_zero (f ∷ x)) → Flag (is_binary f) → Next f x b
    go (on e) k = next_zero f x b lx e
    go (off e) (on g) = next_bits f x b lx e g
    go (off e) (off g) = next_digits f x b lx e g

-- ---- at most 256

appended : (w : List ℕ) (b : ℕ) → length w < most_kept → kept_with w b ≡ w ++ (b ∷ [])
unfolding kept_with
appended w b h = rw (lt-ltb (length w) 256 h)

full_length : (w : List ℕ) (b : ℕ) → length w ≡ most_kept → length (kept_with w b) ≤ most_kept
full_length [] b h = absurd (omega arith)
full_length (f ∷ x) b h =
    let n : Next f x b = next f x b (omega arith) in
    omega (arith, ap length n.is, n.long)

with_length : (w : List ℕ) (b : ℕ) → length w ≤ most_kept → length (kept_with w b) ≤ most_kept
with_length w b h = go (flag (ltb (length w) 256))
  where
    go : Flag (ltb (length w) 256) → length (kept_with w b) ≤ most_kept
    go (on e) =
        let l : length w < 256 = ltb-true (length w) 256 e in
        omega (arith, ap length (appended w b l), length-append w (b ∷ []))
    go (off e) = full_length w b (omega (arith, ltb-false (length w) 256 e))

after_length : (w bs : List ℕ) → length w ≤ most_kept → length (kept_after w bs) ≤ most_kept
unfolding kept_after
after_length w [] h = h
after_length w (b ∷ bs) h = after_length (kept_with w b) bs (with_length w b h)

pub kept_bounded : KeptBounded
kept_bounded w = after_length [] w (omega arith)

-- ---- the same meaning

module _ (r : Reader) (at : ℕ) where
  abbrev reads : List ℕ → Read
  reads w = read_word r (word_with at w)

  -- of a word that is full, x is carried for u
  from_full : (f : ℕ) (x u bs : List ℕ) → length x ≡ 255 → 255 ≤ length u → Alike f x u →
      reads (kept_after (f ∷ x) bs) ≡ reads (f ∷ (u ++ bs))
  unfolding kept_after
  from_full f x u [] lx lu a =
      alike_read f x u (omega arith) lu a at r ∙ ap (λ (z : List ℕ). reads (f ∷ z)) (sym (append-nil u))
  from_full f x u (b ∷ bs) lx lu a =
      let n : Next f x b = next f x b lx in
      ap (λ (z : List ℕ). reads (kept_after z bs)) n.is ∙
      from_full f n.rest (u ++ (b ∷ [])) bs n.long (omega (arith, length-append u (b ∷ [])))
      (alike_then f n.alike (alike_more f b a)) ∙
      ap (λ (z : List ℕ). reads (f ∷ z)) (append_assoc u (b ∷ []) bs)

  once_full : (w bs : List ℕ) → length w ≡ most_kept → reads (kept_after w bs) ≡ reads (w ++ bs)
  once_full [] bs h = absurd (omega arith)
  once_full (f ∷ x) bs h = from_full f x x bs (omega arith) (omega arith) (alike_same f x)

  from_any : (w bs : List ℕ) → length w ≤ most_kept → reads (kept_after w bs) ≡ reads (w ++ bs)
  unfolding kept_after
  from_any w [] h = ap reads (sym (append-nil w))
  from_any w (b ∷ bs) h = go (flag (ltb (length w) 256)) (from_any (w ++ (b ∷ [])) bs)
    where
      go : Flag (ltb (length w) 256) →
          (length (w ++ (b ∷ [])) ≤ most_kept → reads (kept_after (w ++ (b ∷ [])) bs) ≡ reads (w ++ (b ∷ []) ++ bs)) →
          reads (kept_after w (b ∷ bs)) ≡ reads (w ++ (b ∷ bs))
      go (on e) rest =
          let l : length w < 256 = ltb-true (length w) 256 e in
          ap (λ (z : List ℕ). reads (kept_after z bs)) (appended w b l) ∙ rest (omega (arith, length-append w (b ∷ []))) ∙
          ap reads (append_assoc w (b ∷ []) bs)
      go (off e) rest = once_full w (b ∷ bs) (omega (arith, ltb-false (length w) 256 e))

pub kept_means_same : KeptMeansSame
kept_means_same r at w = from_any r at [] w (omega arith)
