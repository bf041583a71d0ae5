-- What is carried between chunks is read back from its bytes (`CarriedReadBack`), and fits them again after a chunk and after the end.
-- Assumes nothing.
--   spelled k x             the number that the lowest k bytes of x spell; number-back: it is x where x fits
--   reader_back             a reader read from the bytes in front
--   carried_octets          its bytes are bytes
--   kept_fits               a word under way with one more byte
--   carried_fits_on         what a chunk, and the end, leaves fits again
use Prim.Native.Nat.{ℕ, zero, suc, ◌+◌, ◌*◌, ◌-◌, ◌/◌, ◌%◌, ◌^◌, ◌<◌, ◌≤◌}
use mathlib.Core.Path.{◌≡◌, refl, sym}
use mathlib.Core.List.{List, [], ◌∷◌, ◌++◌}
use mathlib.Core.Bool.{Bool, true, false, not, ◌&&◌, ◌||◌, cond}
use native.Mathlib.Omega.{arith}
use lib.ListN.{length, take, drop, replicate, length-append, length-take, length-replicate}
use lib.Seq.{take_at}
use lib.Dec.{leb, ltb}
use borrow.Author.Tests.{eq-eqb, le-leb, leb-true, ltb-true}
use Rattle.lists.proofs.Bools.{and_in, and_l, and_r, not_in}
use Rattle.layout.specs.Bytes.{word_at}
use Rattle.layout.specs.Statements.{AreBytes}
use Rattle.layout.proofs.Records.{word_back, flag_back, is_flag}
use Rattle.layout.proofs.Octets.{Octets, none, next, are_bytes, octets_append, octets_word, octets_flag}
use Rattle.recording.specs.declared.Place.{Place}
use Rattle.recording.specs.declared.Place.TheVariants.{Definition, SkipDefinition, Wire, Width, Code, Name, VarEnd, DefinitionsEnd, Body}
use Rattle.recording.specs.declared.Place.TheVariants.{SkipBody, BodyCode, Block, BlockCode}
use Rattle.recording.specs.declared.Signal.TheVariants.{Stb, Cmd, Core, Arg, Prio}
use Rattle.recording.specs.declared.Variable.{Variable}
use Rattle.recording.specs.declared.Reader.{Reader}
use Rattle.recording.specs.declared.Read.{Read}
use Rattle.recording.specs.Words.{all, is_empty, separator, word_with}
use Rattle.recording.specs.Values.{is_digit, is_bit, is_definite, bit_of}
use Rattle.recording.specs.Records.{only}
use Rattle.recording.specs.Reading.{is_good, is_vector, read_word}
use Rattle.recording.specs.Chunks.{most_kept, is_binary, leads_zero, ending_in, held_digits, held_bits, kept_with, Carried, begun, most_bytes}
use Rattle.recording.specs.Chunks.{is_over, nothing_fed, then_fed, gives, closing, place_in, end_word, with_byte, too_long, take_byte, feed, at_end}
use Rattle.recording.specs.Chunks.{end_text}
use Rattle.recording.specs.Carrying.{place_number, last_place, place_of, variable_bytes, variable_from, reader_bytes, reader_from, carried_size}
use Rattle.recording.specs.Carrying.{ended_at, length_at, low_bytes, carried_bytes, word_from, carried_from, reader_flags, is_carried}
use Rattle.recording.specs.ChunkStatements.{VariableFits, ReaderFits, CarriedFits, CarriedReadBack, CarriedFitsOn}
use Rattle.readings.proofs.Fitting.{start_fits, word_fits, finish_fits, refused_fits}

-- ---- numbers and places

abbrev spelled : ℕ → ℕ → ℕ
spelled zero x = 0
spelled (suc k) x = x % 256 + 256 * spelled k (x / 256)

number_back : (k x : ℕ) → x < 256 ^ k → spelled k x ≡ x
number_back zero x h = omega arith
number_back (suc k) x h = rw (number_back k (x / 256) (omega arith)) (word_back x)

place_back : (p : Place) → place_of (place_number p) ≡ p
place_back Definition = refl
place_back SkipDefinition = refl
place_back Wire = refl
place_back Width = refl
place_back Code = refl
place_back Name = refl
place_back VarEnd = refl
place_back DefinitionsEnd = refl
place_back Body = refl
place_back SkipBody = refl
place_back BodyCode = refl
place_back Block = refl
place_back BlockCode = refl

is_place : (p : Place) → leb (place_number p) last_place ≡ true
is_place Definition = refl
is_place SkipDefinition = refl
is_place Wire = refl
is_place Width = refl
is_place Code = refl
is_place Name = refl
is_place VarEnd = refl
is_place DefinitionsEnd = refl
is_place Body = refl
is_place SkipBody = refl
is_place BodyCode = refl
is_place Block = refl
is_place BlockCode = refl

-- ---- a reader

variable_back : (v : Variable) → VariableFits v → (rest : List ℕ) → variable_from (variable_bytes v ++ rest) 0 ≡ v
variable_back v h rest =
    λ t.
    record {
      code = number_back 4 v.code h.code t;
      width = v.width;
      value = record { known = flag_back v.value.known t; number = word_back v.value.number t };
    }

module _ (r : Reader) (rest : List ℕ) where
  reader_back : ReaderFits r → reader_from (reader_bytes r ++ rest) ≡ r
  reader_back h =
      λ t.
      record {
        place = place_back r.place t;
        pending = record {
          width = r.pending.width;
          code = number_back 4 r.pending.code h.code t;
          vector = record {
            length = r.pending.vector.length;
            value = record {
              known = flag_back r.pending.vector.value.known t;
              number = word_back r.pending.vector.value.number t;
            };
          };
        };
        variables = record {
          stb = variable_back r.variables.stb (h.variables Stb) [] t;
          cmd = variable_back r.variables.cmd (h.variables Cmd) [] t;
          core = variable_back r.variables.core (h.variables Core) [] t;
          arg = variable_back r.variables.arg (h.variables Arg) [] t;
          prio = variable_back r.variables.prio (h.variables Prio) [] t;
        };
        stamp = record {
          opened = flag_back r.stamp.opened t;
          time = number_back 8 r.stamp.time h.time t;
          up = flag_back r.stamp.up t;
        };
        taken = word_back r.taken t;
        fault = record { number = r.fault.number; offset = number_back 8 r.fault.offset h.offset t };
      }

  reader_flags_lem : reader_flags (reader_bytes r ++ rest) ≡ true
  reader_flags_lem =
      let vs = r.variables in
      rw (
        is_flag r.pending.vector.value.known,
        is_flag vs.stb.value.known,
        is_flag vs.cmd.value.known,
        is_flag vs.core.value.known,
        is_flag vs.arg.value.known,
        is_flag vs.prio.value.known,
        is_flag r.stamp.opened,
        is_flag r.stamp.up,
      )

-- ---- what is carried

without_separator : (w : List ℕ) → all (λ b. ltb b 256 && not (separator b)) w ≡ true → all (λ x. not (separator x)) w ≡ true
without_separator [] e = refl
without_separator (x ∷ w) e =
    and_in (and_r (ltb x 256) (not (separator x)) (and_l (ltb x 256 && not (separator x)) _ e))
    (without_separator w (and_r (ltb x 256 && not (separator x)) _ e))

module _ (c : Carried) (h : CarriedFits c) where
  size : length (carried_bytes c) ≡ carried_size
  unfolding carried_bytes
  size =
      let zeros = replicate {A = ℕ} (most_kept - length c.word) 0 in
      omega (arith, length-append c.word zeros, length-replicate {A = ℕ} (most_kept - length c.word) 0, h.length_le)

  word_there : word_from (carried_bytes c) ≡ c.word
  unfolding carried_bytes
  word_there =
      let zeros = replicate {A = ℕ} (most_kept - length c.word) 0 in
      take_at c.word zeros (word_at (carried_bytes c) length_at) (sym (word_back (length c.word)))

  back : carried_from (carried_bytes c) ≡ c
  unfolding carried_from carried_bytes
  back =
      λ t.
      record {
        reader = reader_back c.reader (drop ended_at (carried_bytes c)) h.reader t;
        taken = number_back 8 c.taken h.taken t;
        from = number_back 8 c.from h.from t;
        word = word_there t;
        ended = flag_back c.ended t;
      }

  encoded : is_carried (carried_bytes c) ≡ true
  unfolding is_carried carried_bytes
  encoded =
      and_in
      (and_in
      (and_in
      (and_in (and_in (eq-eqb (length (carried_bytes c)) carried_size size) (is_place c.reader.place))
      (reader_flags_lem c.reader (drop ended_at (carried_bytes c))))
      (is_flag c.ended))
      (le-leb (word_at (carried_bytes c) length_at) most_kept (omega (arith, word_back (length c.word), h.length_le))))
      (rw word_there (without_separator c.word h.bytes))

-- ---- each is a byte

octets_low : (k x : ℕ) {l : List ℕ} → Octets l → Octets (low_bytes k x ++ l)
octets_low zero x o = o
octets_low (suc k) x o = next {x = x % 256} (omega arith) (octets_low k (x / 256) o)

octets_variable : (v : Variable) {l : List ℕ} → VariableFits v → Octets l → Octets (variable_bytes v ++ l)
octets_variable v h o = octets_low 4 v.code (next h.width (octets_flag v.value.known (octets_word h.number o)))

octets_reader : (r : Reader) {l : List ℕ} → ReaderFits r → Octets l → Octets (reader_bytes r ++ l)
octets_reader r h o =
    let p = r.pending in
    let vs = r.variables in
    let s = r.stamp in
    let place : place_number r.place ≤ last_place = leb-true (place_number r.place) last_place (is_place r.place) in
    next {x = place_number r.place} (omega arith)
    (next h.width (octets_low 4 p.code (next h.vector_length
    (octets_flag p.vector.value.known (octets_word h.vector_number
    (octets_variable vs.stb (h.variables Stb) (octets_variable vs.cmd (h.variables Cmd)
    (octets_variable vs.core (h.variables Core) (octets_variable vs.arg (h.variables Arg)
    (octets_variable vs.prio (h.variables Prio)
    (octets_flag s.opened (octets_flag s.up (octets_low 8 s.time
    (octets_word h.taken (next h.number (octets_low 8 r.fault.offset o))))))))))))))))

octets_plain : (w : List ℕ) → all (λ b. ltb b 256 && not (separator b)) w ≡ true → Octets w
octets_plain [] e = none
octets_plain (x ∷ w) e =
    next (ltb-true x 256 (and_l (ltb x 256) (not (separator x)) (and_l (ltb x 256 && not (separator x)) _ e)))
    (octets_plain w (and_r (ltb x 256 && not (separator x)) _ e))

octets_zeros : (n : ℕ) → Octets (replicate n 0)
octets_zeros zero = none
octets_zeros (suc n) = next {x = 0} (omega arith) (octets_zeros n)

carried_octets : (c : Carried) → CarriedFits c → AreBytes (carried_bytes c)
unfolding carried_bytes
carried_octets c h =
    are_bytes
    (octets_reader c.reader h.reader
    (octets_flag c.ended (octets_low 8 c.taken (octets_low 8 c.from
    (octets_word {x = length c.word} (omega (arith, h.length_le))
    (octets_append (octets_plain c.word h.bytes) (octets_zeros (most_kept - length c.word))))))))

pub carried_read_back : CarriedReadBack
carried_read_back c h = (encoded c h, back c h, carried_octets c h)

-- ---- a word under way

abbrev pub is_plain : ℕ → Bool
is_plain b = ltb b 256 && not (separator b)

module _ {A : Type 0} (f : A → Bool) where
  all_append : (l k : List A) → all f l ≡ true → all f k ≡ true → all f (l ++ k) ≡ true
  all_append [] k p q = q
  all_append (x ∷ l) k p q = and_in (and_l (f x) (all f l) p) (all_append l k (and_r (f x) (all f l) p) q)

  all_take : (n : ℕ) (l : List A) → all f l ≡ true → all f (take n l) ≡ true
  all_take zero l p = refl
  all_take (suc n) [] p = refl
  all_take (suc n) (x ∷ l) p = and_in (and_l (f x) (all f l) p) (all_take n l (and_r (f x) (all f l) p))

-- what fits as the bytes of a word under way
abbrev pub WordFits : List ℕ → Type 0
WordFits w = (length w ≤ most_kept) × (all is_plain w ≡ true)

either_word : (x : Bool) (v w : List ℕ) → WordFits v → WordFits w → WordFits (cond x v w)
either_word true v w p q = p
either_word false v w p q = q

module _ (b : ℕ) (plain : is_plain b ≡ true) where
  -- one more, where there is room
  more_fits : (w : List ℕ) → length w < most_kept → all is_plain w ≡ true → WordFits (w ++ (b ∷ []))
  more_fits w l p = (omega (arith, length-append w (b ∷ [])), all_append is_plain w (b ∷ []) p (and_in plain refl))

  ending_fits : (w : List ℕ) → all is_plain w ≡ true → WordFits (ending_in w b)
  ending_fits w p = more_fits (take 255 w) (omega (arith, length-take 255 w)) (all_take is_plain 255 w p)

  -- without the second of its bytes
  zeros_fits : (x : ℕ) (w : List ℕ) → WordFits (x ∷ w) → WordFits ((x ∷ drop 1 w) ++ (b ∷ []))
  zeros_fits x [] (l, p) = more_fits (x ∷ []) (omega arith) p
  zeros_fits x (y ∷ w) (l, p) =
      more_fits (x ∷ w) (omega (arith, l)) (and_in (and_l (is_plain x) _ p) (and_r (is_plain y) _ (and_r (is_plain x) _ p)))

  pub kept_fits : (w : List ℕ) → WordFits w → WordFits (kept_with w b)
  unfolding kept_with
  kept_fits [] h = more_fits [] (omega arith) refl
  kept_fits (x ∷ w) h = go (ltb (length (x ∷ w)) most_kept) refl
    where
      v : List ℕ
      v = x ∷ w

      held : WordFits (cond (is_binary x) (held_bits v b) (held_digits v b))
      held =
          let last = ending_fits v h.1 in
          either_word (is_binary x) (held_bits v b) (held_digits v b)
          (either_word (is_bit b && (is_definite (bit_of b) || not (is_vector v))) v (ending_in v b) h last)
          (either_word (is_digit b) v (ending_in v b) h last)

      go : (s : Bool) → ltb (length v) most_kept ≡ s →
          WordFits
          (cond s (v ++ (b ∷ []))
          (cond (leads_zero v) ((x ∷ drop 2 v) ++ (b ∷ [])) (cond (is_binary x) (held_bits v b) (held_digits v b))))
      go true e = more_fits v (ltb-true (length v) most_kept e) h.1
      go false e = either_word (leads_zero v) _ _ (zeros_fits x w h) held

-- ---- chunks, and the end

closing_fits : (c : Carried) → CarriedFits c → ReaderFits (closing c).reader
unfolding closing
closing_fits c h = go (is_empty c.word)
  where
    go : (b : Bool) → ReaderFits (cond b (only c.reader) (read_word c.reader (word_with c.from c.word))).reader
    go true = h.reader
    go false = word_fits c.reader (word_with c.from c.word) h.reader h.from

place_fits : (r : Reader) → ReaderFits r → (n : ℕ) → n < 2 ^ 64 → place_in r n < 2 ^ 64
place_fits r h n l = go (is_good r)
  where
    go : (b : Bool) → cond b n r.fault.offset < 2 ^ 64
    go true = l
    go false = h.offset

module _ (c : Carried) (h : CarriedFits c) where
  too_long_fits : CarriedFits (too_long c)
  too_long_fits =
      record {
        reader = refused_fits c.reader h.reader 11 most_bytes (omega arith) (omega arith);
        taken = h.taken;
        from = h.from;
        length_le = h.length_le;
        bytes = h.bytes;
      }

  module _ (room : c.taken < most_bytes) where
    end_word_fits : CarriedFits (end_word c).carried
    end_word_fits =
        record {
          reader = closing_fits c h;
          taken = place_fits _ (closing_fits c h) (suc c.taken) (omega (arith, room));
          from = place_fits _ (closing_fits c h) (suc c.taken) (omega (arith, room));
          length_le = omega arith;
          bytes = refl;
        }

    with_byte_fits : (b : ℕ) → is_plain b ≡ true → CarriedFits (with_byte c b)
    with_byte_fits b plain =
        let (long, plains) = kept_fits b plain c.word (h.length_le, h.bytes) in
        record {
          reader = h.reader;
          taken = omega (arith, room);
          from = go (is_empty c.word);
          length_le = long;
          bytes = plains;
        }
      where
        go : (e : Bool) → cond e c.taken c.from < 2 ^ 64
        go true = h.taken
        go false = h.from

  byte_fits : (b : ℕ) → ltb b 256 ≡ true → CarriedFits (take_byte c b).carried
  unfolding take_byte
  byte_fits b k = go (is_over c) (ltb c.taken most_bytes) refl (separator b) refl
    where
      go : (o t : Bool) → ltb c.taken most_bytes ≡ t → (s : Bool) → separator b ≡ s →
          CarriedFits
          (cond o (nothing_fed c) (cond (not t) (nothing_fed (too_long c)) (cond s (end_word c) (nothing_fed (with_byte c b))))).carried
      go true t e s f = h
      go false false e s f = too_long_fits
      go false true e true f = end_word_fits (ltb-true c.taken most_bytes e)
      go false true e false f = with_byte_fits (ltb-true c.taken most_bytes e) b (and_in k (not_in f))

feed_fits : (c : Carried) (bs : List ℕ) → CarriedFits c → all (λ b. ltb b 256) bs ≡ true → CarriedFits (feed c bs).carried
unfolding feed
feed_fits c [] h e = h
feed_fits c (b ∷ bs) h e =
    feed_fits (take_byte c b).carried bs (byte_fits c h b (and_l (ltb b 256) _ e)) (and_r (ltb b 256) _ e)

end_fits : (c : Carried) → CarriedFits c → CarriedFits (end_text c).carried
unfolding end_text
end_fits c h = go (is_over c)
  where
    a : Read
    a = closing c

    go : (o : Bool) → CarriedFits (cond o (nothing_fed c) (then_fed (gives c.reader a c) (at_end c a))).carried
    go true = h
    go false =
        record {
          reader = finish_fits c.taken h.taken a.reader (closing_fits c h);
          taken = h.taken;
          from = h.taken;
          length_le = omega arith;
          bytes = refl;
        }

begun_fits : CarriedFits begun
begun_fits = record { reader = start_fits; taken = omega arith; from = omega arith; length_le = omega arith; bytes = refl }

pub carried_fits_on : CarriedFitsOn
carried_fits_on = (begun_fits, feed_fits, end_fits)
