-- Long words that mean the same, whatever follows them. Assumes nothing.
--   Alike f t u     the words f ∷ t and f ∷ u: the same number behind # or a digit, the same bits behind b or B
--   alike_more      so they stay with another byte
--   alike_read      if they have 256 bytes or more, they are read alike, at every place
use Prim.Native.Nat.{ℕ, zero, suc, ◌^◌, ◌≤◌, ◌<◌, min}
use Prim.Native.String.{String}
use mathlib.Core.Path.{◌≡◌, refl, sym, ap, ◌∙◌}
use Rattle.std.specs.Prelude.{None}
use mathlib.Core.List.{List, [], ◌∷◌, ◌++◌, map, map-map}
use mathlib.Core.Bool.{Bool, true, false, not, ◌&&◌, ◌||◌, cond, and-false}
use native.Mathlib.Omega.{arith}
use native.Mathlib.Nat.{zero-add}
use lib.ListN.{length}
use lib.Dec.{leb, ltb, eqb}
use borrow.Author.Tests.{leb-true, leb-false, le-leb, lt-leb, eqb-true, ne_eqb}
use Rattle.lists.proofs.Bools.{and_l, and_r, or_in_l, or_in_r, refuted, Flag, on, off, flag}
use Rattle.recording.specs.declared.Place.{Place}
use Rattle.recording.specs.declared.Place.TheVariants.{Definition, SkipDefinition, Wire, Width, Code, Name, VarEnd, DefinitionsEnd}
use Rattle.recording.specs.declared.Place.TheVariants.{Body, SkipBody, BodyCode, Block, BlockCode}
use Rattle.recording.specs.declared.Signal.{Signal}
use Rattle.recording.specs.declared.Signal.TheVariants.{Stb, Cmd, Core, Arg, Prio}
use Rattle.recording.specs.declared.Vector.{Vector}
use Rattle.recording.specs.declared.Reader.{Reader}
use Rattle.recording.specs.Words.{bytes_of, same_bytes, is_text, all, is_empty, Word, word_with}
use Rattle.recording.specs.Values.{numeral, is_digit, digit_of, is_bit, bit_of, is_definite, bit_number, value_of, is_code, code_of}
use Rattle.recording.specs.Values.{is_decimal, decimal, value, unknown, vector_with, vector_of}
use Rattle.recording.specs.Records.{variable, at, with_width, with_vector, only}
use Rattle.recording.specs.Declarations.{signal_of, has_code}
use Rattle.recording.specs.Reading.{out_of_place, expected, skipping, is_skipped, read_definition, read_width, read_code, read_name}
use Rattle.recording.specs.Reading.{is_vector, read_change, vector_signal, read_vector_code, max_time, is_time, time_of, open_stamp}
use Rattle.recording.specs.Reading.{and_then, read_time, is_dump, read_body, read_block, read_at, read_word}
use Rattle.recording.specs.Stamps.{end_open_stamp}
use Rattle.recording.specs.Chunks.{is_binary}
use Rattle.readings.proofs.Codes.{same_bytes_lem}
use Rattle.readings.proofs.Spells.{all_more, Spells, spells_same, spells_then, spells_more}

-- ---- words

-- # or a digit
abbrev pub is_numeric : ℕ → Bool
is_numeric f = eqb f 35 || is_digit f

abbrev pub SameNumber : ℕ → List ℕ → List ℕ → Type 0
SameNumber f t u = Spells 10 (2 ^ 64) (digit_of f) is_digit digit_of t u

abbrev pub is_definite_byte : ℕ → Bool
is_definite_byte b = is_definite (bit_of b)

abbrev pub number_of_byte : ℕ → ℕ
number_of_byte b = bit_number (bit_of b)

abbrev pub SameBits : List ℕ → List ℕ → Type 0
SameBits t u = Spells 2 65535 0 is_definite_byte number_of_byte t u

-- What stands behind # or a digit is taken as digits, what stands behind b or B as bits. digit_of of # is 0.
pub record Alike (f : ℕ) (t u : List ℕ) : Type 0 where
  pub number : is_numeric f ≡ true → SameNumber f t u
  pub bits : is_binary f ≡ true → all is_bit t ≡ all is_bit u
  pub value : is_binary f ≡ true → SameBits t u

pub alike_same : (f : ℕ) (t : List ℕ) → Alike f t t
alike_same f t =
    record {
      number = λ e. spells_same t;
      bits = λ e. refl;
      value = λ e. spells_same t;
    }

pub alike_then : (f : ℕ) {t u w : List ℕ} → Alike f t u → Alike f u w → Alike f t w
alike_then f p q =
    record {
      number = λ e. spells_then (p.number e) (q.number e);
      bits = λ e. p.bits e ∙ q.bits e;
      value = λ e. spells_then (p.value e) (q.value e);
    }

pub alike_more : (f : ℕ) {t u : List ℕ} (b : ℕ) → Alike f t u → Alike f (t ++ (b ∷ [])) (u ++ (b ∷ []))
alike_more f {t} {u} b p =
    record {
      number = λ e. spells_more (omega arith) b (p.number e);
      bits = λ e. rw (all_more is_bit t b, all_more is_bit u b, p.bits e);
      value = λ e. spells_more (omega arith) b (p.value e);
    }

-- ---- what no long word is

-- Longer than every keyword, name and code.
abbrev Long : List ℕ → Type 0
Long w = 15 < length w

module _ (w : List ℕ) (long : Long w) where
  not_bytes : (v : List ℕ) → leb (length v) 15 ≡ true → same_bytes w v ≡ false
  not_bytes v h = refuted (same_bytes w v) (λ e. omega (arith, long, leb-true (length v) 15 h, ap length (same_bytes_lem w v e)))

  not_text : (s : String) → leb (length (bytes_of s)) 15 ≡ true → is_text s w ≡ false
  not_text s = not_bytes (bytes_of s)

  not_skipped : is_skipped w ≡ false
  not_skipped =
      rw (
        not_text "$date" refl,
        not_text "$version" refl,
        not_text "$comment" refl,
        not_text "$timescale" refl,
        not_text "$scope" refl,
        not_text "$upscope" refl,
      )

  not_dump : is_dump w ≡ false
  not_dump =
      rw (not_text "$dumpvars" refl, not_text "$dumpall" refl, not_text "$dumpon" refl, not_text "$dumpoff" refl)

  not_signal : signal_of w ≡ None
  not_signal =
      rw (not_text "stb" refl, not_text "cmd" refl, not_text "core" refl, not_text "arg" refl, not_text "prio" refl)

  not_code : is_code w ≡ false
  not_code = rw (lt-leb (length w) 4 (omega arith), and-false (leb 1 (length w)))

  no_code : (r : Reader) (s : Signal) → has_code r w s ≡ false
  unfolding code_of
  no_code r s = rw not_code (go (variable r s).code)
    where
      go : (c : ℕ) → ltb 0 c && eqb c 0 ≡ false
      go zero = refl
      go (suc c) = rw (ne_eqb (suc c) 0 (λ e. omega arith)) (and-false (ltb 0 (suc c)))

  not_vector_code : (r : Reader) → vector_signal r w ≡ None
  not_vector_code r = rw (no_code r Cmd, no_code r Core, no_code r Arg, no_code r Prio)

-- ---- what is asked of two words that are alike

and_both : {x x' y y' : Bool} → x ≡ x' → (x ≡ true → y ≡ y') → x && y ≡ x' && y'
and_both {x} {x'} {y} {y'} e h = ap (λ (z : Bool). z && y) e ∙ go x' (λ f. h (e ∙ f))
  where
    go : (z : Bool) → (z ≡ true → y ≡ y') → z && y ≡ z && y'
    go true k = k refl
    go false k = refl

cond_both : {A : Type 0} {x x' : Bool} {y y' : A} (z : A) → x ≡ x' → (x ≡ true → y ≡ y') → cond x y z ≡ cond x' y' z
cond_both {A} {x} {x'} {y} {y'} z e h = ap (λ (b : Bool). cond b y z) e ∙ go x' (λ f. h (e ∙ f))
  where
    go : (b : Bool) → (b ≡ true → y ≡ y') → cond b y z ≡ cond b y' z
    go true k = k refl
    go false k = refl

held_test : (m x y : ℕ) → min (suc m) x ≡ min (suc m) y → leb x m ≡ leb y m
held_test m x y e = go (flag (leb x m))
  where
    go : Flag (leb x m) → leb x m ≡ leb y m
    go (on f) = f ∙ sym (le-leb y m (omega (arith, e, leb-true x m f)))
    go (off f) = f ∙ sym (lt-leb y m (omega (arith, e, leb-false x m f)))

definite_bytes : (t : List ℕ) → all is_definite (map bit_of t) ≡ all is_definite_byte t
definite_bytes [] = refl
definite_bytes (b ∷ t) = ap (λ (x : Bool). is_definite_byte b && x) (definite_bytes t)

decimal_word : (f : ℕ) (t : List ℕ) → decimal (f ∷ t) ≡ numeral 10 (digit_of f) (map digit_of t)
unfolding decimal
decimal_word f t = ap (λ (v : ℕ). numeral 10 v (map digit_of t)) (zero-add (digit_of f))

pub not_empty : (t : List ℕ) → 255 ≤ length t → is_empty t ≡ false
not_empty [] h = absurd (omega arith)
not_empty (b ∷ t) h = refl

module _ (f : ℕ) (t u : List ℕ) (lt : 255 ≤ length t) (lu : 255 ≤ length u) (a : Alike f t u) where
  same_decimal : is_decimal (f ∷ t) ≡ is_decimal (f ∷ u)
  same_decimal = and_both refl (λ e. (a.number (or_in_r (eqb f 35) e)).digits)

  same_width : is_decimal (f ∷ t) ≡ true → min 255 (decimal (f ∷ t)) ≡ min 255 (decimal (f ∷ u))
  same_width e =
      let s : SameNumber f t u = a.number (or_in_r (eqb f 35) (and_l (is_digit f) (all is_digit t) e)) in
      omega (arith, decimal_word f t, decimal_word f u, s.number (and_r (is_digit f) (all is_digit t) e))

  same_rest : eqb f 35 ≡ true → is_decimal t ≡ is_decimal u
  same_rest e = rw (not_empty t lt, not_empty u lu) (a.number (or_in_l (is_digit f) e)).digits

  same_held : eqb f 35 ≡ true → is_decimal t ≡ true → min (2 ^ 64) (decimal t) ≡ min (2 ^ 64) (decimal u)
  unfolding decimal
  same_held e g =
      let zero-front : digit_of f ≡ 0 = omega (arith, eqb-true f 35 e) in
      let s : SameNumber f t u = a.number (or_in_l (is_digit f) e) in
      rw zero-front at (s.number (and_r (not (is_empty t)) (all is_digit t) g))

  starts : is_time (f ∷ t) ≡ true → (eqb f 35 ≡ true) × (is_decimal t ≡ true)
  starts e =
      let left = and_l (eqb f 35 && is_decimal t) (leb (decimal t) max_time) e in
      (and_l (eqb f 35) (is_decimal t) left, and_r (eqb f 35) (is_decimal t) left)

  same_time : is_time (f ∷ t) ≡ is_time (f ∷ u)
  same_time =
      and_both (and_both refl same_rest)
      (λ e. held_test max_time (decimal t) (decimal u)
      (same_held (and_l (eqb f 35) (is_decimal t) e) (and_r (eqb f 35) (is_decimal t) e)))

  same_time_of : is_time (f ∷ t) ≡ true → time_of (f ∷ t) ≡ time_of (f ∷ u)
  same_time_of e =
      omega (
        arith,
        same_held (starts e).0 (starts e).1,
        leb-true (decimal t) max_time (and_r (eqb f 35 && is_decimal t) (leb (decimal t) max_time) e),
      )

  same_vector : is_vector (f ∷ t) ≡ is_vector (f ∷ u)
  same_vector = rw (not_empty t lt, not_empty u lu) (and_both refl (λ e. a.bits (and_l (is_binary f) true e)))

  same_vector_of : is_vector (f ∷ t) ≡ true → vector_of t ≡ vector_of u
  unfolding vector_of value_of
  same_vector_of e =
      let s : SameBits t u = a.value (and_l (is_binary f) (not (is_empty t)) (and_l (is_binary f && not (is_empty t)) (all is_bit t) e)) in
      let lengths : min 255 (length t) ≡ min 255 (length u) = omega arith in
      rw (lengths, definite_bytes t, definite_bytes u, map-map bit_number bit_of t, map-map bit_number bit_of u)
      (ap (vector_with (min 255 (length u))) (cond_both unknown s.digits (λ g. ap (value true) (s.number g))))

  -- the same reading, from the same offset
  module _ (from : ℕ) where
    abbrev v : Word
    v = word_with from (f ∷ t)

    abbrev w : Word
    w = word_with from (f ∷ u)

    long_v : Long (f ∷ t)
    long_v = omega arith

    long_w : Long (f ∷ u)
    long_w = omega arith

    same_text : (s : String) → leb (length (bytes_of s)) 15 ≡ true → is_text s (f ∷ t) ≡ is_text s (f ∷ u)
    same_text s h = not_text (f ∷ t) long_v s h ∙ sym (not_text (f ∷ u) long_w s h)

    read_expected : (s : String) → leb (length (bytes_of s)) 15 ≡ true → (p : Place) (r : Reader) → expected s p r v ≡ expected s p r w
    read_expected s h p r = rw (same_text s h)

    read_skipping : (p : Place) (r : Reader) → skipping p r v ≡ skipping p r w
    read_skipping p r = rw (same_text "$end" refl)

    read_definition_lem : (r : Reader) → read_definition r v ≡ read_definition r w
    unfolding read_definition
    read_definition_lem r =
        rw (not_skipped (f ∷ t) long_v, not_skipped (f ∷ u) long_w, same_text "$var" refl, same_text "$enddefinitions" refl)

    read_width_lem : (r : Reader) → read_width r v ≡ read_width r w
    unfolding read_width
    read_width_lem r =
        cond_both (out_of_place w r) same_decimal
        (λ e. ap (λ (n : ℕ). at Code (with_width n r)) (same_width e))

    read_code_lem : (r : Reader) → read_code r v ≡ read_code r w
    unfolding read_code
    read_code_lem r = rw (not_code (f ∷ t) long_v, not_code (f ∷ u) long_w)

    read_name_lem : (r : Reader) → read_name (signal_of (f ∷ t)) r v ≡ read_name (signal_of (f ∷ u)) r w
    unfolding read_name
    read_name_lem r = rw (not_signal (f ∷ t) long_v, not_signal (f ∷ u) long_w)

    read_vector_code_lem : (p : Place) (r : Reader) →
        read_vector_code p (vector_signal r (f ∷ t)) r v ≡ read_vector_code p (vector_signal r (f ∷ u)) r w
    unfolding read_vector_code
    read_vector_code_lem p r = rw (not_vector_code (f ∷ t) long_v r, not_vector_code (f ∷ u) long_w r)

    read_change_lem : (p q : Place) (r : Reader) → read_change p q r v ≡ read_change p q r w
    unfolding read_change
    read_change_lem p q r =
        rw (no_code t (omega arith) r Stb, no_code u (omega arith) r Stb, and-false (is_bit f))
        (cond_both (out_of_place w r) same_vector
        (λ e. ap (λ (x : Vector). at q (with_vector x r)) (same_vector_of e)))

    open_stamp_lem : (r : Reader) → open_stamp r v ≡ open_stamp r w
    unfolding open_stamp
    open_stamp_lem r = go (flag (is_time (f ∷ t)))
      where
        go : Flag (is_time (f ∷ t)) → open_stamp r v ≡ open_stamp r w
        go (on e) = rw (e, sym same_time ∙ e, same_time_of e)
        go (off e) = rw (e, sym same_time ∙ e)

    read_time_lem : (r : Reader) → read_time r v ≡ read_time r w
    unfolding read_time and_then
    read_time_lem r = rw (open_stamp_lem (end_open_stamp from r).reader)

    read_body_lem : (r : Reader) → read_body r v ≡ read_body r w
    unfolding read_body
    read_body_lem r =
        rw (read_time_lem r, same_text "$comment" refl, not_dump (f ∷ t) long_v, not_dump (f ∷ u) long_w, read_change_lem Body BodyCode r)

    read_block_lem : (r : Reader) → read_block r v ≡ read_block r w
    unfolding read_block
    read_block_lem r = rw (same_text "$end" refl, read_change_lem Block BlockCode r)

    read_at_lem : (p : Place) (r : Reader) → read_at p r v ≡ read_at p r w
    unfolding read_at
    read_at_lem Definition r = ap only (read_definition_lem r)
    read_at_lem SkipDefinition r = ap only (read_skipping Definition r)
    read_at_lem Wire r = ap only (read_expected "wire" refl Width r)
    read_at_lem Width r = ap only (read_width_lem r)
    read_at_lem Code r = ap only (read_code_lem r)
    read_at_lem Name r = ap only (read_name_lem r)
    read_at_lem VarEnd r = ap only (read_expected "$end" refl Definition r)
    read_at_lem DefinitionsEnd r = ap only (read_expected "$end" refl Body r)
    read_at_lem Body r = read_body_lem r
    read_at_lem SkipBody r = ap only (read_skipping Body r)
    read_at_lem BodyCode r = ap only (read_vector_code_lem Body r)
    read_at_lem Block r = ap only (read_block_lem r)
    read_at_lem BlockCode r = ap only (read_vector_code_lem Block r)

    pub alike_read : (r : Reader) → read_word r (word_with from (f ∷ t)) ≡ read_word r (word_with from (f ∷ u))
    unfolding read_word
    alike_read r = rw (read_at_lem r.place r)
