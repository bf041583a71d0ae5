-- What each line of a written command does to the reader. Assumes nothing.
--   Held                          the vector read last, and the values of cmd, core, arg and prio
--   reader_in f p h stb s n        the reader at a place of the text, after the definitions of the form f
--   vector_passes                 a vector line gives its variable a value
--   strobe-passes                 a strobe line gives one to stb
--   opens_at                      a time line opens its stamp, once the stamp before is ended
use Prim.Native.Nat.{ℕ, ◌^◌, ◌<◌, ◌≤◌}
use mathlib.Core.Path.{◌≡◌, refl, sym, ap, ◌∙◌}
use mathlib.Core.List.{List, [], ◌∷◌, ◌++◌, append_assoc}
use mathlib.Core.Bool.{true, not}
use native.Mathlib.Omega.{arith}
use lib.ListN.{length}
use lib.Dec.{ltb, leb}
use borrow.Author.Tests.{le-leb, lt-ltb}
use Rattle.lists.proofs.Bools.{Flag, on, off, flag, or_in_l, or_in_r, not_in}
use Rattle.recording.specs.declared.Place.{Place}
use Rattle.recording.specs.declared.Place.TheVariants.{Body, BodyCode}
use Rattle.recording.specs.declared.Signal.{Signal}
use Rattle.recording.specs.declared.Signal.TheVariants.{Stb, Cmd, Core, Arg, Prio}
use Rattle.recording.specs.declared.Value.{Value}
use Rattle.recording.specs.declared.Vector.{Vector}
use Rattle.recording.specs.declared.Stamp.{Stamp}
use Rattle.recording.specs.declared.Reader.{Reader}
use Rattle.recording.specs.Words.{all, word_with}
use Rattle.recording.specs.Values.{code_of, value, value_of, vector_with}
use Rattle.recording.specs.Records.{variable_with, variables_with, pending_with, fault_with, reader_with, with_time, only}
use Rattle.recording.specs.Declarations.{Form, width_in}
use Rattle.recording.specs.Reading.{read_change, read_vector_code, max_time, is_later, open_stamp, read_body, read_at, read_word}
use Rattle.recording.specs.Writing.{digits, numeral_bytes, code_byte, space, line, vector_line, strobe_line}
use Rattle.writings.proofs.Passages.{is_plain, Passes, quiet_passes, passes_then}
use Rattle.writings.proofs.Numerals.{decimal_digits, decimal_read, binary_plain, binary_some, binary_bits, binary_within}
use Rattle.writings.proofs.Numerals.{binary_read}

-- ---- the reader

pub record Held : Type 0 where
  pub vector : Vector
  pub cmd : Value
  pub core : Value
  pub arg : Value
  pub prio : Value

abbrev pub held_with : Vector → Value → Value → Value → Value → Held
held_with vector cmd core arg prio = record { vector = vector; cmd = cmd; core = core; arg = arg; prio = prio }

-- a vector is read, and its value given to a variable; stb takes none
abbrev pub given : Signal → Vector → Held → Held
given Stb v h = h
given Cmd v h = held_with v v.value h.core h.arg h.prio
given Core v h = held_with v h.cmd v.value h.arg h.prio
given Arg v h = held_with v h.cmd h.core v.value h.prio
given Prio v h = held_with v h.cmd h.core h.arg v.value

-- of the last declaration, that of prio, the width and the code are left
abbrev pub reader_in : Form → Place → Held → Value → Stamp → ℕ → Reader
reader_in f p h stb stamp taken =
    reader_with p (pending_with (width_in f Prio) (code_byte Prio) h.vector)
    (variables_with (variable_with (code_byte Stb) (width_in f Stb) stb) (variable_with (code_byte Cmd) (width_in f Cmd) h.cmd)
    (variable_with (code_byte Core) (width_in f Core) h.core) (variable_with (code_byte Arg) (width_in f Arg) h.arg)
    (variable_with (code_byte Prio) (width_in f Prio) h.prio))
    stamp taken (fault_with 0 0)

-- ---- vectors

-- the variables that take vectors
pub data Vectored : Signal → Type 0 where
  of_cmd : Vectored Cmd
  of_core : Vectored Core
  of_arg : Vectored Arg
  of_prio : Vectored Prio

module _ (f : Form) (h : Held) (stb : Value) (stamp : Stamp) (taken : ℕ) where
  -- a code after its vector, where that isn't too long
  code_read : (s : Signal) → Vectored s → (v : Vector) → leb v.length (width_in f s) ≡ true → (at : ℕ) →
      read_word (reader_in f BodyCode (held_with v h.cmd h.core h.arg h.prio) stb stamp taken) (word_with at (code_byte s ∷ [])) ≡
      only (reader_in f Body (given s v h) stb stamp taken)
  unfolding read_word read_at read_vector_code code_of
  code_read Stb k v fits at = elim k [ ]
  code_read Cmd of_cmd v fits at = rw fits
  code_read Core of_core v fits at = rw fits
  code_read Arg of_arg v fits at = rw fits
  code_read Prio of_prio v fits at = rw fits

  -- a vector, whose code is due
  bits_read : (x width : ℕ) → 0 < width → width ≤ 16 → x < 2 ^ width → (at : ℕ) →
      read_word (reader_in f Body h stb stamp taken) (word_with at (98 ∷ numeral_bytes 2 x)) ≡
      only
      (reader_in f BodyCode (held_with (vector_with (length (digits 2 x)) (value true x)) h.cmd h.core h.arg h.prio) stb stamp
      taken)
  unfolding read_word read_at read_body read_change
  bits_read x width low high fits at =
      rw (binary_some x, binary_bits x, binary_read x width low high fits)

-- a vector line is two words
two_words : (w : List ℕ) (c : ℕ) →
    line (98 ∷ (w ++ (space ∷ c ∷ []))) ≡ ((98 ∷ w) ++ (space ∷ [])) ++ ((c ∷ []) ++ (10 ∷ []))
two_words w c =
    ap (λ (l : List ℕ). 98 ∷ l) (append_assoc w (space ∷ c ∷ []) (10 ∷ []) ∙ sym (append_assoc w (space ∷ []) (c ∷ 10 ∷ [])))

code_plain : (s : Signal) → all is_plain (code_byte s ∷ []) ≡ true
code_plain Stb = refl
code_plain Cmd = refl
code_plain Core = refl
code_plain Arg = refl
code_plain Prio = refl

-- what is read of a number written in binary
abbrev pub vector_for : ℕ → Vector
vector_for x = vector_with (length (digits 2 x)) (value true x)

-- a width that a value is written in
pub record Width (width : ℕ) : Type 0 where
  pub low : 0 < width
  pub high : width ≤ 16

module _ (f : Form) (h : Held) (stb : Value) (stamp : Stamp) (taken : ℕ) where
  pub vector_passes : (s : Signal) → Vectored s → (x : ℕ) → Width (width_in f s) → x < 2 ^ width_in f s →
      Passes (vector_line s x) (reader_in f Body h stb stamp taken) (reader_in f Body (given s (vector_for x) h) stb stamp taken) [] []
  vector_passes s v x w fits =
      let between : Held = held_with (vector_for x) h.cmd h.core h.arg h.prio in
      let short : leb (length (digits 2 x)) (width_in f s) ≡ true
      = le-leb (length (digits 2 x)) (width_in f s) (binary_within x (width_in f s) w.low w.high fits) in
      rw (two_words (numeral_bytes 2 x) (code_byte s))
      (passes_then
      (quiet_passes (98 ∷ numeral_bytes 2 x) space (reader_in f Body h stb stamp taken) (reader_in f BodyCode between stb stamp taken)
      (omega arith) (binary_plain x) refl
      (bits_read f h stb stamp taken x (width_in f s) w.low w.high fits))
      (quiet_passes (code_byte s ∷ []) 10 (reader_in f BodyCode between stb stamp taken)
      (reader_in f Body (given s (vector_for x) h) stb stamp taken) (omega arith) (code_plain s) refl
      (code_read f h stb stamp taken s v (vector_for x) short)))

  -- ---- strobes

  pub up_passes : Passes (strobe_line 1) (reader_in f Body h stb stamp taken) (reader_in f Body h (value true 1) stamp taken) [] []
  unfolding read_word read_at read_body read_change value_of code_of
  up_passes = quiet_passes (49 ∷ code_byte Stb ∷ []) 10 _ _ (omega arith) refl refl (λ at. refl)

  pub down_passes : Passes (strobe_line 0) (reader_in f Body h stb stamp taken) (reader_in f Body h (value true 0) stamp taken) [] []
  unfolding read_word read_at read_body read_change value_of code_of
  down_passes = quiet_passes (48 ∷ code_byte Stb ∷ []) 10 _ _ (omega arith) refl refl (λ at. refl)

-- ---- times

later : (r : Reader) (t : ℕ) → (r.stamp.opened ≡ true → r.stamp.time < t) → is_later r t ≡ true
later r t h = go (flag r.stamp.opened)
  where
    go : Flag r.stamp.opened → is_later r t ≡ true
    go (on e) = or_in_r (not r.stamp.opened) (lt-ltb r.stamp.time t (h e))
    go (off e) = or_in_l (ltb r.stamp.time t) (not_in e)

pub opens_at : (r : Reader) (at t : ℕ) → t ≤ max_time → (r.stamp.opened ≡ true → r.stamp.time < t) →
    open_stamp r (word_with at (35 ∷ numeral_bytes 10 t)) ≡ with_time t r
unfolding open_stamp
opens_at r at t small rises =
    rw (decimal_digits t, decimal_read t, le-leb t max_time small, later r t rises)
