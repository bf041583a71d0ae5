-- A reader's numbers fit their bytes after a word and after the end of a text (`ReaderFits`). Assumes nothing.
--   Within                   `ReaderFits` by its parts, which a place or a flag doesn't change
--   value_below, code_below  what bits and codes spell
--   word_fits, finish_fits   a word, and the end
use Prim.Native.Nat.{ℕ, suc, ◌+◌, ◌*◌, ◌^◌, ◌<◌, ◌≤◌, min}
use mathlib.Core.Path.{◌≡◌, refl, sym, subst, ap, ◌∙◌}
use Rattle.std.specs.Prelude.{Option, None, Some}
use mathlib.Core.List.{List, [], ◌∷◌, tail, map}
use mathlib.Core.Bool.{Bool, true, false, not, ◌&&◌, cond}
use native.Mathlib.Omega.{arith}
use native.Mathlib.Nat.{mul_assoc, mul_comm, pow-succ', pow-le-pow_right}
use lib.ListN.{length, get_or}
use lib.Dec.{leb}
use borrow.Author.Tests.{leb-true, leb-false}
use Rattle.lists.specs.Numbers.{between}
use Rattle.lists.proofs.Bools.{and_l, and_r}
use Rattle.recording.specs.declared.Place.{Place}
use Rattle.recording.specs.declared.Place.TheVariants.{Definition, SkipDefinition, Wire, Width, Code, Name, VarEnd, DefinitionsEnd, Body}
use Rattle.recording.specs.declared.Place.TheVariants.{SkipBody, BodyCode, Block, BlockCode}
use Rattle.recording.specs.declared.Signal.{Signal}
use Rattle.recording.specs.declared.Signal.TheVariants.{Stb, Cmd, Core, Arg, Prio}
use Rattle.recording.specs.declared.Value.{Value}
use Rattle.recording.specs.declared.Variable.{Variable}
use Rattle.recording.specs.declared.Variables.{Variables}
use Rattle.recording.specs.declared.Pending.{Pending}
use Rattle.recording.specs.declared.Fault.{Fault}
use Rattle.recording.specs.declared.Reader.{Reader}
use Rattle.recording.specs.declared.Read.{Read}
use Rattle.recording.specs.Words.{is_text, all, Word}
use Rattle.recording.specs.Values.{is_decimal, decimal, is_code, code_of, Bit, is_definite, bit_of, bit_number, numeral, value, unknown, value_of}
use Rattle.recording.specs.Values.{vector_of}
use Rattle.recording.specs.Records.{variable_with, variable_of, with_variable_of, pending_with, start, variable, at, with_pending, with_vector}
use Rattle.recording.specs.Records.{with_variable, with_value, with_time, with_up, with_taken, refused, read_with, only}
use Rattle.recording.specs.Declarations.{signal_of, all_declared, declares}
use Rattle.recording.specs.Stamps.{max_commands, level, is_high, rises, is_readable, strobe_of, end_stamp, end_open_stamp}
use Rattle.recording.specs.Reading.{is_body, is_good, out_of_place, is_skipped, read_definition, read_width, read_code, read_name, is_vector}
use Rattle.recording.specs.Reading.{is_scalar, read_change, vector_signal, read_vector_code, max_time, starts_time, is_time, time_of, is_later}
use Rattle.recording.specs.Reading.{open_stamp, and_then, read_time, is_dump, read_body, read_block, read_at, read_word, ending, finish}
use Rattle.recording.specs.ChunkStatements.{VariableFits, ReaderFits}
use Rattle.readings.proofs.Lists.{read_same, Compared, same, other, compare}

-- `ReaderFits` by the parts that words change
record PendingIn (p : Pending) : Type 0 where
  width : p.width < 2 ^ 8
  code : p.code < 2 ^ 32
  vector_length : p.vector.length < 2 ^ 8
  vector_number : p.vector.value.number < 2 ^ 16

record Within (p : Pending) (vs : Variables) (t n : ℕ) (f : Fault) : Type 0 where
  pending : PendingIn p
  variables : (s : Signal) → VariableFits (variable_of vs s)
  time : t < 2 ^ 64
  taken : n < 2 ^ 16
  fault : (f.number < 2 ^ 8) × (f.offset < 2 ^ 64)

abbrev In : Reader → Type 0
In r = Within r.pending r.variables r.stamp.time r.taken r.fault

within : (r : Reader) → ReaderFits r → In r
within r h =
    record {
      pending = record { width = h.width; code = h.code; vector_length = h.vector_length; vector_number = h.vector_number };
      variables = h.variables;
      time = h.time;
      taken = h.taken;
      fault = (h.number, h.offset);
    }

fitting : (r : Reader) → In r → ReaderFits r
fitting r h =
    let p = h.pending in
    record {
      width = p.width;
      code = p.code;
      vector_length = p.vector_length;
      vector_number = p.vector_number;
      variables = h.variables;
      time = h.time;
      taken = h.taken;
      number = h.fault.0;
      offset = h.fault.1;
    }

either : (b : Bool) (x y : Reader) → In x → In y → In (cond b x y)
either true x y p q = p
either false x y p q = q

-- ---- values and codes

value_below : (bs : List Bit) → (value_of bs).number < 2 ^ 16
unfolding value_of
value_below bs = go (all is_definite bs)
  where
    go : (b : Bool) → (cond b (value true (min 65535 (numeral 2 0 (map bit_number bs)))) unknown).number < 2 ^ 16
    go true = omega arith
    go false = omega arith

-- one more byte
raised : (b p : ℕ) → b * (256 * p) ≡ 256 * b * p
raised b p = sym (mul_assoc b 256 p) ∙ ap (λ (n : ℕ). n * p) (mul_comm b 256)

bytes_below : (w : List ℕ) (v b : ℕ) → v < b → all (between 33 126) w ≡ true → numeral 256 v w < b * 256 ^ length w
bytes_below [] v b h e = omega arith
bytes_below (x ∷ w) v b h e =
    let digit : x ≤ 126 = leb-true x 126 (and_r (leb 33 x) (leb x 126) (and_l (between 33 126 x) (all (between 33 126) w) e)) in
    rw (pow-succ' 256 (length w), raised b (256 ^ length w))
    (bytes_below w (256 * v + x) (256 * b) (omega arith) (and_r (between 33 126 x) (all (between 33 126) w) e))

code_below : (w : List ℕ) → code_of w < 2 ^ 32
unfolding code_of
code_below w = go (is_code w) refl
  where
    go : (b : Bool) → is_code w ≡ b → cond b (numeral 256 0 w) 0 < 2 ^ 32
    go true e =
        let few : length w ≤ 4 = leb-true (length w) 4 (and_r (leb 1 (length w)) (leb (length w) 4) (and_l (between 1 4 (length w)) _ e)) in
        let top : 256 ^ length w ≤ 256 ^ 4 = pow-le-pow_right {n = 256} (omega arith) {i = length w} {j = 4} few in
        omega (arith, bytes_below w 0 1 (omega arith) (and_r (between 1 4 (length w)) _ e))
    go false e = omega arith

-- ---- parts written

module _ (r : Reader) (h : In r) where
  refused_in : (n at : ℕ) → n < 2 ^ 8 → at < 2 ^ 64 → In (refused n at r)
  refused_in n at k l =
      record { pending = h.pending; variables = h.variables; time = h.time; taken = h.taken; fault = (k, l) }

  pending_in : (p : Pending) → PendingIn p → In (with_pending p r)
  pending_in p k = record { pending = k; variables = h.variables; time = h.time; taken = h.taken; fault = h.fault }

  -- the time of a stamp, and how many commands were taken
  counted_in : (t n : ℕ) → t < 2 ^ 64 → n < 2 ^ 16 → Within r.pending r.variables t n r.fault
  counted_in t n k l = record { pending = h.pending; variables = h.variables; time = k; taken = l; fault = h.fault }

  written_in : (s : Signal) (x : Variable) → VariableFits x → In (with_variable s x r)
  written_in s x k =
      record { pending = h.pending; variables = λ s'. go s' (compare s s'); time = h.time; taken = h.taken; fault = h.fault }
    where
      vs : Variables
      vs = with_variable_of r.variables s x

      go : (s' : Signal) → Compared s s' → VariableFits (variable_of vs s')
      go s' (same e) = subst (λ (i : Signal). VariableFits (variable_of vs i)) e (subst VariableFits (sym (read_same r.variables s x)) k)
      go s' (other o) = subst VariableFits (sym (o r.variables x)) (h.variables s')

  value_in : (s : Signal) (v : Value) → v.number < 2 ^ 16 → In (with_value s v r)
  value_in s v k =
      let x = h.variables s in
      written_in s (variable_with (variable r s).code (variable r s).width v)
      (record { code = x.code; width = x.width; number = k })

-- ---- a word, by its place

module _ (r : Reader) (w : Word) (h : In r) (l : w.at < 2 ^ 64) where
  p : PendingIn r.pending
  p = h.pending

  out_in : In (out_of_place w r)
  out_in = refused_in r h 11 w.at (omega arith) l

  bad_in : In (refused 12 w.at r)
  bad_in = refused_in r h 12 w.at (omega arith) l

  width_in : In (read_width r w)
  unfolding read_width
  width_in =
      either (is_decimal w.bytes) _ _
      (pending_in r h (pending_with (min 255 (decimal w.bytes)) r.pending.code r.pending.vector)
      (record { width = omega arith; code = p.code; vector_length = p.vector_length; vector_number = p.vector_number })) out_in

  code_in : In (read_code r w)
  unfolding read_code
  code_in =
      either (is_code w.bytes) _ _
      (pending_in r h (pending_with r.pending.width (code_of w.bytes) r.pending.vector)
      (record { width = p.width; code = code_below w.bytes; vector_length = p.vector_length; vector_number = p.vector_number }))
      out_in

  name_in : (o : Option Signal) → In (read_name o r w)
  unfolding read_name
  name_in None = bad_in
  name_in (Some s) =
      either (declares r s) _ _
      (written_in r h s (variable_with r.pending.code r.pending.width (variable r s).value)
      (record { code = p.code; width = p.width; number = (h.variables s).number })) bad_in

  vector_in : (v : List ℕ) → In (with_vector (vector_of v) r)
  unfolding vector_of
  vector_in v =
      pending_in r h (pending_with r.pending.width r.pending.code (vector_of v))
      (record { width = p.width; code = p.code; vector_length = omega arith; vector_number = value_below (map bit_of v) })

  change_in : (next code_next : Place) → In (read_change next code_next r w)
  unfolding read_change
  change_in next code_next =
      either (is_vector w.bytes) _ _ (vector_in (tail w.bytes))
      (either (is_scalar r w.bytes) _ _
      (value_in r h Stb (value_of (bit_of (get_or w.bytes 0 0) ∷ [])) (value_below (bit_of (get_or w.bytes 0 0) ∷ []))) out_in)

  given_in : (next : Place) (o : Option Signal) → In (read_vector_code next o r w)
  unfolding read_vector_code
  given_in next None = out_in
  given_in next (Some s) =
      either (leb r.pending.vector.length (variable r s).width) _ _
      (value_in r h s r.pending.vector.value p.vector_number) out_in

  open_in : In (open_stamp r w)
  unfolding open_stamp
  open_in = go (is_time w.bytes) refl
    where
      t : ℕ
      t = time_of w.bytes

      go : (b : Bool) → is_time w.bytes ≡ b →
          In (cond (not b) (out_of_place w r) (cond (is_later r t) (with_time t r) (refused 14 w.at r)))
      go true e =
          let top : t ≤ max_time = leb-true t max_time (and_r (starts_time w.bytes && is_decimal (tail w.bytes)) (leb t max_time) e) in
          either (is_later r t) _ _ (counted_in r h t r.taken (omega (arith, top)) h.taken)
          (refused_in r h 14 w.at (omega arith) l)
      go false e = out_in

-- ---- the end of a stamp

module _ (n : ℕ) (l : n < 2 ^ 64) where
  stamp_in : (r : Reader) → In r → In (end_stamp n r).reader
  unfolding end_stamp
  stamp_in r h = go (level r).known (rises r) (is_readable r) (leb max_commands r.taken) refl
    where
      go : (k v d x : Bool) → leb max_commands r.taken ≡ x →
          In
          (cond (not k) (only (refused 13 n r)) (cond (not v) (only (with_up (is_high r) r))
          (cond (not d) (only (refused 13 n r))
          (cond x (only (refused 19 n r)) (read_with (with_taken (suc r.taken) (with_up true r)) (Some (strobe_of r))))))).reader
      go false v d x e = refused_in r h 13 n (omega arith) l
      go true false d x e = h
      go true true false x e = refused_in r h 13 n (omega arith) l
      go true true true true e = refused_in r h 19 n (omega arith) l
      go true true true false e =
          counted_in r h r.stamp.time (suc r.taken) h.time (omega (arith, leb-false max_commands r.taken e))

  open_stamp_in : (r : Reader) → In r → In (end_open_stamp n r).reader
  unfolding end_open_stamp
  open_stamp_in r h = go r.stamp.opened
    where
      go : (b : Bool) → In (cond b (end_stamp n r) (only r)).reader
      go true = stamp_in r h
      go false = h

then_in : (a : Read) (f : Reader → Reader) → In a.reader → In (f a.reader) → In (and_then a f).reader
unfolding and_then
then_in a f h g = go (is_good a.reader)
  where
    go : (b : Bool) → In (cond b (read_with (f a.reader) a.strobe) a).reader
    go true = g
    go false = h

-- ---- any word, and the end of the text

module _ (r : Reader) (w : Word) (h : In r) (l : w.at < 2 ^ 64) where
  body_in : (t c d : Bool) →
      In
      (cond t (read_time r w) (cond c (only (at SkipBody r)) (cond d (only (at Block r)) (only (read_change Body BodyCode r w))))).reader
  unfolding read_time
  body_in true c d =
      let ended = open_stamp_in w.at l r h in
      then_in (end_open_stamp w.at r) (λ r'. open_stamp r' w) ended (open_in (end_open_stamp w.at r).reader w ended l)
  body_in false true d = h
  body_in false false true = h
  body_in false false false = change_in r w h l Body BodyCode

  at_in : (p : Place) → In (read_at p r w).reader
  unfolding read_at read_definition read_body read_block
  at_in Definition =
      either (is_skipped w.bytes) _ _ h
      (either (is_text "$var" w.bytes) _ _ h
      (either (not (is_text "$enddefinitions" w.bytes)) _ _ (out_in r w h l) (either (all_declared r) _ _ h (bad_in r w h l))))
  at_in SkipDefinition = either (is_text "$end" w.bytes) _ _ h h
  at_in Wire = either (is_text "wire" w.bytes) _ _ h (out_in r w h l)
  at_in Width = width_in r w h l
  at_in Code = code_in r w h l
  at_in Name = name_in r w h l (signal_of w.bytes)
  at_in VarEnd = either (is_text "$end" w.bytes) _ _ h (out_in r w h l)
  at_in DefinitionsEnd = either (is_text "$end" w.bytes) _ _ h (out_in r w h l)
  at_in Body = body_in (starts_time w.bytes) (is_text "$comment" w.bytes) (is_dump w.bytes)
  at_in SkipBody = either (is_text "$end" w.bytes) _ _ h h
  at_in BodyCode = given_in r w h l Body (vector_signal r w.bytes)
  at_in Block = either (is_text "$end" w.bytes) _ _ h (change_in r w h l Block BlockCode)
  at_in BlockCode = given_in r w h l Block (vector_signal r w.bytes)

  word_in : In (read_word r w).reader
  unfolding read_word
  word_in = go (is_good r)
    where
      go : (b : Bool) → In (cond b (read_at r.place r w) (only r)).reader
      go true = at_in r.place
      go false = h

finish_in : (n : ℕ) → n < 2 ^ 64 → (r : Reader) → In r → In (finish n r).reader
unfolding finish
finish_in n l r h = go (is_good r)
  where
    a : Read
    a = end_open_stamp n r

    go : (b : Bool) → In (cond b (and_then a (ending n)) (only r)).reader
    go true =
        let ended = open_stamp_in n l r h in
        then_in a (ending n) ended
        (either (is_body a.reader.place) a.reader _ ended (refused_in a.reader ended 11 n (omega arith) l))
    go false = h

pub start_fits : ReaderFits start
start_fits =
    record {
      width = omega arith;
      code = omega arith;
      vector_length = omega arith;
      vector_number = omega arith;
      variables = zeros;
      time = omega arith;
      taken = omega arith;
      number = omega arith;
      offset = omega arith;
    }
  where
    undeclared : (v : Value) → v.number < 2 ^ 16 → VariableFits (variable_with 0 0 v)
    undeclared v h = record { code = omega arith; width = omega arith; number = h }

    zeros : (s : Signal) → VariableFits (variable start s)
    zeros Stb = undeclared (value true 0) (omega arith)
    zeros Cmd = undeclared unknown (omega arith)
    zeros Core = undeclared unknown (omega arith)
    zeros Arg = undeclared unknown (omega arith)
    zeros Prio = undeclared unknown (omega arith)

pub word_fits : (r : Reader) (w : Word) → ReaderFits r → w.at < 2 ^ 64 → ReaderFits (read_word r w).reader
word_fits r w h l = fitting (read_word r w).reader (word_in r w (within r h) l)

pub finish_fits : (n : ℕ) → n < 2 ^ 64 → (r : Reader) → ReaderFits r → ReaderFits (finish n r).reader
finish_fits n l r h = fitting (finish n r).reader (finish_in n l r (within r h))

pub refused_fits : (r : Reader) → ReaderFits r → (n at : ℕ) → n < 2 ^ 8 → at < 2 ^ 64 → ReaderFits (refused n at r)
refused_fits r h n at k l = fitting (refused n at r) (refused_in r (within r h) n at k l)
