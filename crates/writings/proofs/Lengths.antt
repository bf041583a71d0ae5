-- How long a written run is at most (`WrittenBounded`). Assumes nothing.
--   time_long, vector_long     the length of a line, from its digits
--   bits_most                  the digits of the four values of a command
use Prim.Native.Nat.{ℕ, suc, ◌+◌, ◌*◌, ◌^◌, ◌<◌, ◌≤◌}
use mathlib.Core.Path.{◌≡◌, sym, subst}
use mathlib.Core.List.Memᴰ
use mathlib.Core.List.Memᴰ.{head as here}
use mathlib.Core.List.Memᴰ.{tail as there}
use mathlib.Core.List.{List, [], ◌∷◌, ◌++◌, Memᴰ}
use mathlib.Core.Bool.{true}
use native.Mathlib.Omega.{arith}
use lib.ListN.{length, length-append}
use Rattle.lists.specs.Rows.{joined}
use Rattle.lists.proofs.Bools.{and_l, and_r}
use Rattle.model.specs.declared.Command.{Command}
use Rattle.model.specs.declared.Command.TheVariants.{OnSource, OnCore}
use Rattle.model.specs.declared.SourceAction.TheVariants.{SetSourcePriority, Mask, Unmask, Trigger, Redeliver, Complete}
use Rattle.model.specs.declared.CoreAction.TheVariants.{SetCorePriority, Claim}
use Rattle.layout.specs.Commands.{number_of, level_of}
use Rattle.recording.specs.declared.Signal.{Signal}
use Rattle.recording.specs.declared.Signal.TheVariants.{Cmd, Core, Arg, Prio}
use Rattle.recording.specs.Words.{all}
use Rattle.recording.specs.Declarations.{Form, forms}
use Rattle.recording.specs.Stamps.{max_commands}
use Rattle.recording.specs.Writing.{digits, numeral_bytes, code_byte, space, time_line, vector_line, strobe_line, core_value, arg_value}
use Rattle.recording.specs.Writing.{value_for, vectors, command_text, text_from, definition_text, written, writable}
use Rattle.recording.specs.WritingStatements.{WrittenBounded}
use Rattle.recording.proofs.Digits.{numeral_length}
use Rattle.writings.proofs.Digits.{digits_are}
use Rattle.writings.proofs.Runs.{Used, used}

-- ---- lines

time_long : (t : ℕ) → length (time_line t) ≡ 2 + length (digits 10 t)
time_long t = omega (arith, length-append (numeral_bytes 10 t) (10 ∷ []), numeral_length 10 t)

vector_long : (s : Signal) (x : ℕ) → length (vector_line s x) ≡ 4 + length (digits 2 x)
vector_long s x =
    let bits = numeral_bytes 2 x in
    omega (
      arith,
      length-append (bits ++ (space ∷ code_byte s ∷ [])) (10 ∷ []),
      length-append bits (space ∷ code_byte s ∷ []),
      numeral_length 2 x,
    )

-- a time below a million
time_most : (t : ℕ) → t < 10 ^ 6 → length (digits 10 t) ≤ 6
time_most t h = (digits_are 10 (omega arith) t).within 6 (omega arith) h

-- ---- a command

-- a form in which set source priority is the longest command
record Roomy (f : Form) : Type 0 where
  arg : 6 ≤ f.arg
  prio : 3 ≤ f.prio

abbrev bits : ℕ → ℕ
bits x = length (digits 2 x)

bits_within : (width x : ℕ) → 0 < width → x < 2 ^ width → bits x ≤ width
bits_within width x low fits = (digits_are 2 (omega arith) x).within width low fits

module _ (f : Form) (roomy : Roomy f) where
  bits_most : (c : Command) → Used f c →
      bits (number_of c) + (bits (core_value c) + (bits (arg_value c) + bits (level_of c))) ≤ 2 + (f.arg + f.prio)
  unfolding digits
  bits_most (OnSource id (SetSourcePriority p)) u =
      omega (arith, bits_within f.arg id.0 (omega arith) u.arg, bits_within f.prio p (omega arith) u.prio)
  bits_most (OnSource id Mask) u = omega (arith, bits_within f.arg id.0 (omega arith) u.arg)
  bits_most (OnSource id Unmask) u = omega (arith, bits_within f.arg id.0 (omega arith) u.arg)
  bits_most (OnCore k (SetCorePriority p)) u =
      omega (arith, bits_within 5 k.0 (omega arith) u.core, bits_within f.prio p (omega arith) u.prio)
  bits_most (OnSource id Trigger) u = omega (arith, bits_within f.arg id.0 (omega arith) u.arg)
  bits_most (OnCore k Claim) u = omega (arith, bits_within 5 k.0 (omega arith) u.core)
  bits_most (OnSource id Redeliver) u = omega (arith, bits_within f.arg id.0 (omega arith) u.arg)
  bits_most (OnSource id Complete) u = omega (arith, bits_within f.arg id.0 (omega arith) u.arg)

  vectors_long : (c : Command) →
      length (joined (λ s. vector_line s (value_for c s)) vectors) ≡
      16 + (bits (number_of c) + (bits (core_value c) + (bits (arg_value c) + bits (level_of c))))
  unfolding joined
  vectors_long c =
      let a = vector_line Cmd (number_of c) in
      let b = vector_line Core (core_value c) in
      let d = vector_line Arg (arg_value c) in
      let e = vector_line Prio (level_of c) in
      omega (
        arith,
        length-append a (b ++ (d ++ (e ++ []))),
        length-append b (d ++ (e ++ [])),
        length-append d (e ++ []),
        length-append e [],
        vector_long Cmd (number_of c),
        vector_long Core (core_value c),
        vector_long Arg (arg_value c),
        vector_long Prio (level_of c),
      )

  command_most : (i : ℕ) (c : Command) → i < max_commands → Used f c → length (command_text i c) ≤ 40 + (f.arg + f.prio)
  unfolding command_text
  command_most i c l u =
      let v = joined (λ s. vector_line s (value_for c s)) vectors in
      let first = time_line (2 * i) in
      let second = time_line (suc (2 * i)) in
      omega (
        arith,
        length-append first (v ++ (strobe_line 1 ++ (second ++ strobe_line 0))),
        length-append v (strobe_line 1 ++ (second ++ strobe_line 0)),
        length-append second (strobe_line 0),
        time_long (2 * i),
        time_long (suc (2 * i)),
        time_most (2 * i) (omega arith),
        time_most (suc (2 * i)) (omega arith),
        vectors_long c,
        bits_most c u,
      )

  -- ---- a run

  run_most : (i : ℕ) (cs : List Command) → i + length cs ≤ max_commands → all (writable f) cs ≡ true →
      length (text_from i cs) ≤ (40 + (f.arg + f.prio)) * length cs
  unfolding text_from
  run_most i [] l w = omega arith
  run_most i (c ∷ cs) l w =
      let one : length (command_text i c) ≤ 40 + (f.arg + f.prio)
      = command_most i c (omega arith) (used f c (and_l (writable f c) (all (writable f) cs) w)) in
      let more : length (text_from (suc i) cs) ≤ (40 + (f.arg + f.prio)) * length cs
      = run_most (suc i) cs (omega arith) (and_r (writable f c) (all (writable f) cs) w) in
      omega (arith, length-append (command_text i c) (text_from (suc i) cs))

-- each form of recordings
forms_roomy : (f : Form) → Memᴰ f forms → Roomy f
forms_roomy f (here e) = subst Roomy (sym e) (record { arg = omega arith; prio = omega arith })
forms_roomy f (there m) = absurd (Memᴰ.not-nil m)

pub written_bounded : WrittenBounded
unfolding written
written_bounded f cs fits =
    omega (
      arith,
      length-append (definition_text f) (text_from 0 cs),
      run_most f (forms_roomy f fits.listed) 0 cs (omega (arith, fits.count)) fits.values,
    )
