-- In every reading a variable holds a number of no more bits than it has: no longer vector is taken. So cmd holds 0 to 7. Assumes
-- nothing.
--   Fits vs v        what the variables and a vector under way keep to
--   Fit r            they are those of a reader
--   read_word-fit     a word keeps it
--   named_one        so that the number of a strobe names a command
use Prim.Native.Nat.{ℕ, zero, suc, ◌*◌, ◌^◌, ◌<◌, ◌≤◌, min}
use mathlib.Core.Path.{◌≡◌, refl, subst}
use Rattle.std.specs.Prelude.{Option, None, Some}
use mathlib.Core.List.{List, [], ◌∷◌, map, tail}
use mathlib.Core.Bool.{Bool, true, false, not, ◌&&◌, ◌||◌, cond}
use native.Mathlib.Omega.{arith}
use native.Mathlib.Nat.{not-suc-le-zero, pow-le-pow_right, le_trans}
use native.Mathlib.Decide.{dec_le}
use lib.ListN.{length, get_or, length-map}
use lib.Dec.{leb, eqb}
use borrow.Author.Tests.{leb-true, ltb-true, eqb-true}
use Rattle.lists.proofs.Bools.{and_l, and_r}
use Rattle.layout.specs.Bytes.{one_command}
use Rattle.layout.specs.Commands.{command_of}
use Rattle.recording.specs.declared.Place.{Place}
use Rattle.recording.specs.declared.Place.TheVariants.{Definition, SkipDefinition, Wire, Width, Code, Name, VarEnd, DefinitionsEnd, Body}
use Rattle.recording.specs.declared.Place.TheVariants.{SkipBody, BodyCode, Block, BlockCode}
use Rattle.recording.specs.declared.Signal.{Signal}
use Rattle.recording.specs.declared.Signal.TheVariants.{Stb, Cmd, Core, Arg, Prio}
use Rattle.recording.specs.declared.Variable.{Variable}
use Rattle.recording.specs.declared.Variables.{Variables}
use Rattle.recording.specs.declared.Vector.{Vector}
use Rattle.recording.specs.declared.Reader.{Reader}
use Rattle.recording.specs.declared.Read.{Read}
use Rattle.recording.specs.Words.{is_text, Word, all}
use Rattle.recording.specs.Values.{Bit, b0, b1, bx, bz, is_definite, is_decimal, is_code, code_of, bit_of, bit_number, numeral, value, unknown}
use Rattle.recording.specs.Values.{value_of, vector_of}
use Rattle.recording.specs.Records.{start, variable_with, variable_of, with_variable_of, variable, at, with_up, with_taken, with_value, declaring}
use Rattle.recording.specs.Records.{refused, only, read_with}
use Rattle.recording.specs.Declarations.{narrow, width_in, fits, declared, signal_of, all_declared, has_code, declares}
use Rattle.recording.specs.Stamps.{max_commands, level, rises, is_high, is_readable, strobe_of, end_stamp, end_open_stamp}
use Rattle.recording.specs.Reading.{is_good, out_of_place, is_skipped, read_definition, read_width, read_code, read_name, is_vector, is_scalar}
use Rattle.recording.specs.Reading.{read_change, vector_signal, read_vector_code, starts_time, is_time, time_of, is_later, open_stamp, and_then}
use Rattle.recording.specs.Reading.{read_time, is_dump, read_body, read_block, read_at, read_word}
use Rattle.readings.proofs.Lists.{first_out, read_same, Compared, same, other, compare}
use Rattle.readings.proofs.Extension.{numeral_below}

pub record Fits (vs : Variables) (v : Vector) : Type 0 where
  pub below : (s : Signal) → (variable_of vs s).value.number < 2 ^ width_in narrow s
  -- of a variable that is declared
  pub width : (s : Signal) → 0 < (variable_of vs s).code → (variable_of vs s).width ≡ width_in narrow s
  pub in_vector : v.value.number < 2 ^ v.length

abbrev pub Fit : Reader → Type 0
Fit r = Fits r.variables r.pending.vector

pub start_fit : Fit start
start_fit = record { below = zeros; width = undeclared; in_vector = omega arith }
  where
    zeros : (s : Signal) → (variable_of start.variables s).value.number < 2 ^ width_in narrow s
    zeros Stb = omega arith
    zeros Cmd = omega arith
    zeros Core = omega arith
    zeros Arg = omega arith
    zeros Prio = omega arith

    undeclared : (s : Signal) → 0 < (variable_of start.variables s).code →
        (variable_of start.variables s).width ≡ width_in narrow s
    undeclared Stb h = absurd (not-suc-le-zero h)
    undeclared Cmd h = absurd (not-suc-le-zero h)
    undeclared Core h = absurd (not-suc-le-zero h)
    undeclared Arg h = absurd (not-suc-le-zero h)
    undeclared Prio h = absurd (not-suc-le-zero h)

either : (b : Bool) (x y : Reader) → Fit x → Fit y → Fit (cond b x y)
either true x y p q = p
either false x y p q = q

or_left : (a : Bool) → a || false ≡ true → a ≡ true
or_left true e = refl
or_left false e = e

-- ---- a vector's number has no more binary digits than it has bits

held_small : (n : ℕ) → min 65535 n < 2 ^ 16
held_small n = omega arith

held_below : (n k : ℕ) → n < 1 * 2 ^ k → min 65535 n < 2 ^ min 255 k
held_below n k h = go (dec_le k 255)
  where
    go : Dec (k ≤ 255) → min 65535 n < 2 ^ min 255 k
    go (yes p) = let e : min 255 k ≡ k = omega arith in rw e (omega arith)
    go (no p) =
        let e : min 255 k ≡ 255 = omega arith in
        rw e (le_trans (held_small n) (pow-le-pow_right {n = 2} (omega arith) {i = 16} {j = 255} (omega arith)))

positive : (bs : List Bit) → 0 < 1 * 2 ^ length bs
positive bs = omega (arith, numeral_below 0 bs)

vector_fits : (w : List ℕ) → (vector_of w).value.number < 2 ^ (vector_of w).length
unfolding vector_of value_of
vector_fits w = go (all is_definite (map bit_of w))
  where
    go : (b : Bool) → (cond b (value true (min 65535 (numeral 2 0 (map bit_number (map bit_of w))))) unknown).number < 2 ^ min 255 (length w)
    go true = held_below (numeral 2 0 (map bit_number (map bit_of w))) (length w) (rw (length-map w bit_of) at (numeral_below 0 (map bit_of w)))
    go false = held_below 0 (length w) (rw (length-map w bit_of) at (positive (map bit_of w)))

scalar_fits : (b : Bit) → (value_of (b ∷ [])).number < 2
unfolding value_of
scalar_fits b0 = omega arith
scalar_fits b1 = omega arith
scalar_fits bx = omega arith
scalar_fits bz = omega arith

-- ---- one variable written

module _ (vs : Variables) (v : Vector) (h : Fits vs v) (s : Signal) (x : Variable) where
  written_fit : x.value.number < 2 ^ width_in narrow s → (0 < x.code → x.width ≡ width_in narrow s) → Fits (with_variable_of vs s x) v
  written_fit number width =
      record { below = λ s'. below_at s' (compare s s'); width = λ s'. width_at s' (compare s s'); in_vector = h.in_vector }
    where
      below_at : (s' : Signal) → Compared s s' → (variable_of (with_variable_of vs s x) s').value.number < 2 ^ width_in narrow s'
      below_at s' (same e) =
          subst (λ (k : Signal). (variable_of (with_variable_of vs s x) k).value.number < 2 ^ width_in narrow k) e
          (rw (read_same vs s x) number)
      below_at s' (other o) = rw (o vs x) (h.below s')

      width_at : (s' : Signal) → Compared s s' → 0 < (variable_of (with_variable_of vs s x) s').code →
          (variable_of (with_variable_of vs s x) s').width ≡ width_in narrow s'
      width_at s' (same e) =
          subst
          (λ (k : Signal).
          0 < (variable_of (with_variable_of vs s x) k).code → (variable_of (with_variable_of vs s x) k).width ≡ width_in narrow k) e
          (rw (read_same vs s x) width)
      width_at s' (other o) = rw (o vs x) (h.width s')

-- ---- a word

module _ (r : Reader) (w : Word) (h : Fit r) where
  -- a declaration has the width of its variable
  declares_width : (s : Signal) → declares r s ≡ true → r.pending.width ≡ width_in narrow s
  unfolding declares
  declares_width s e =
      let all_but = and_l (not (declared r s) && (fits r s r.pending.width narrow || false)) _ e in
      let fit = and_r (not (declared r s)) (fits r s r.pending.width narrow || false) all_but in
      eqb-true r.pending.width (width_in narrow s)
      (and_l (eqb r.pending.width (width_in narrow s)) _ (or_left (fits r s r.pending.width narrow) fit))

  declaring_fit : (s : Signal) → declares r s ≡ true → Fit (declaring s r)
  declaring_fit s e =
      written_fit r.variables r.pending.vector h s
      (variable_with r.pending.code r.pending.width (variable r s).value) (h.below s) (λ c. declares_width s e)

  name_fit : (o : Option Signal) → Fit (read_name o r w)
  unfolding read_name
  name_fit None = h
  name_fit (Some s) = go (declares r s) refl
    where
      go : (b : Bool) → declares r s ≡ b → Fit (cond b (at VarEnd (declaring s r)) (refused 12 w.at r))
      go true e = declaring_fit s e
      go false e = h

  change_fit : (p q : Place) → Fit (read_change p q r w)
  unfolding read_change
  change_fit p q =
      either (is_vector w.bytes) _ _
      (record { below = h.below; width = h.width; in_vector = vector_fits (tail w.bytes) })
      (either (is_scalar r w.bytes) _ _
      (written_fit r.variables r.pending.vector h Stb
      (variable_with r.variables.stb.code r.variables.stb.width (value_of (bit_of (get_or w.bytes 0 0) ∷ [])))
      (scalar_fits (bit_of (get_or w.bytes 0 0))) (h.width Stb)) h)

  -- what fits a vector that is no longer than its variable
  given_fit : (s : Signal) → 0 < (variable r s).code → r.pending.vector.length ≤ (variable r s).width →
      Fit (with_value s r.pending.vector.value r)
  given_fit s d l =
      let length = r.pending.vector.length in
      let top : 2 ^ length ≤ 2 ^ width_in narrow s
      = pow-le-pow_right {n = 2} (omega arith) {i = length} {j = width_in narrow s} (omega (arith, h.width s d)) in
      written_fit r.variables r.pending.vector h s
      (variable_with (variable r s).code (variable r s).width r.pending.vector.value) (omega (arith, h.in_vector)) (h.width s)

  code_fit : (p : Place) (o : Option Signal) → vector_signal r w.bytes ≡ o → Fit (read_vector_code p o r w)
  unfolding read_vector_code
  code_fit p None f = h
  code_fit p (Some s) f = go (leb r.pending.vector.length (variable r s).width) refl
    where
      has : has_code r w.bytes s ≡ true
      has = (first_out (has_code r w.bytes) (Cmd ∷ Core ∷ Arg ∷ Prio ∷ []) s f).1

      go : (b : Bool) → leb r.pending.vector.length (variable r s).width ≡ b →
          Fit (cond b (at p (with_value s r.pending.vector.value r)) (out_of_place w r))
      go true e =
          given_fit s (ltb-true 0 (variable r s).code (and_l (declared r s) (eqb (variable r s).code (code_of w.bytes)) has))
          (leb-true _ _ e)
      go false e = h

  time_fit : Fit (open_stamp r w)
  unfolding open_stamp
  time_fit = either (not (is_time w.bytes)) _ _ h (either (is_later r (time_of w.bytes)) _ _ h h)

stamp_fit : (n : ℕ) (r : Reader) → Fit r → Fit (end_stamp n r).reader
unfolding end_stamp
stamp_fit n r h = go (level r).known (rises r) (is_readable r) (leb max_commands r.taken)
  where
    go : (k v d x : Bool) →
        Fit
        (cond (not k) (only (refused 13 n r)) (cond (not v) (only (with_up (is_high r) r))
        (cond (not d) (only (refused 13 n r))
        (cond x (only (refused 19 n r)) (read_with (with_taken (suc r.taken) (with_up true r)) (Some (strobe_of r))))))).reader
    go false v d x = h
    go true false d x = h
    go true true false x = h
    go true true true true = h
    go true true true false = h

open_stamp_fit : (n : ℕ) (r : Reader) → Fit r → Fit (end_open_stamp n r).reader
unfolding end_open_stamp
open_stamp_fit n r h = go r.stamp.opened
  where
    go : (b : Bool) → Fit (cond b (end_stamp n r) (only r)).reader
    go true = stamp_fit n r h
    go false = h

then_fit : (a : Read) (f : Reader → Reader) → Fit a.reader → Fit (f a.reader) → Fit (and_then a f).reader
unfolding and_then
then_fit a f h g = go (is_good a.reader)
  where
    go : (b : Bool) → Fit (cond b (read_with (f a.reader) a.strobe) a).reader
    go true = g
    go false = h

module _ (r : Reader) (w : Word) (h : Fit r) where
  body_fit : (t c d : Bool) →
      Fit
      (cond t (read_time r w) (cond c (only (at SkipBody r)) (cond d (only (at Block r)) (only (read_change Body BodyCode r w))))).reader
  unfolding read_time
  body_fit true c d =
      let ended = open_stamp_fit w.at r h in
      then_fit (end_open_stamp w.at r) (λ r'. open_stamp r' w) ended (time_fit (end_open_stamp w.at r).reader w ended)
  body_fit false true d = h
  body_fit false false true = h
  body_fit false false false = change_fit r w h Body BodyCode

  read_at-fit : (p : Place) → Fit (read_at p r w).reader
  unfolding read_at read_definition read_width read_code read_body read_block
  read_at-fit Definition =
      either (is_skipped w.bytes) _ _ h
      (either (is_text "$var" w.bytes) _ _ h
      (either (not (is_text "$enddefinitions" w.bytes)) _ _ h (either (all_declared r) _ _ h h)))
  read_at-fit SkipDefinition = either (is_text "$end" w.bytes) _ _ h h
  read_at-fit Wire = either (is_text "wire" w.bytes) _ _ h h
  read_at-fit Width = either (is_decimal w.bytes) _ _ h h
  read_at-fit Code = either (is_code w.bytes) _ _ h h
  read_at-fit Name = name_fit r w h (signal_of w.bytes)
  read_at-fit VarEnd = either (is_text "$end" w.bytes) _ _ h h
  read_at-fit DefinitionsEnd = either (is_text "$end" w.bytes) _ _ h h
  read_at-fit Body = body_fit (starts_time w.bytes) (is_text "$comment" w.bytes) (is_dump w.bytes)
  read_at-fit SkipBody = either (is_text "$end" w.bytes) _ _ h h
  read_at-fit BodyCode = code_fit r w h Body (vector_signal r w.bytes) refl
  read_at-fit Block = either (is_text "$end" w.bytes) _ _ h (change_fit r w h Block BlockCode)
  read_at-fit BlockCode = code_fit r w h Block (vector_signal r w.bytes) refl

  pub read_word-fit : Fit (read_word r w).reader
  unfolding read_word
  read_word-fit = go (is_good r)
    where
      go : (b : Bool) → Fit (cond b (read_at r.place r w) (only r)).reader
      go true = read_at-fit r.place
      go false = h

-- ---- eight numbers name a command

pub named_one : (number target p : ℕ) → number < 8 → length (one_command (command_of number target p)) ≡ 1
unfolding command_of
named_one zero target p h = refl
named_one (suc zero) target p h = refl
named_one (suc (suc zero)) target p h = refl
named_one (suc (suc (suc zero))) target p h = refl
named_one (suc (suc (suc (suc zero)))) target p h = refl
named_one (suc (suc (suc (suc (suc zero))))) target p h = refl
named_one (suc (suc (suc (suc (suc (suc zero)))))) target p h = refl
named_one (suc (suc (suc (suc (suc (suc (suc zero))))))) target p h = refl
named_one (suc (suc (suc (suc (suc (suc (suc (suc k)))))))) target p h = absurd (omega arith)
