-- A written run, read command by command. Assumes nothing.
--   before i, between f i h     the stamp and the reader before command i
--   command_passes              the text of command i takes the reader on to the next, and gives the command at the time 2 i
--   run_passes                  the text of a run
use Rattle.std.specs.Prelude.{Some}
use Prim.Native.Nat.{ℕ, zero, suc, ◌+◌, ◌*◌, ◌^◌, ◌<◌, ◌≤◌}
use mathlib.Core.Path.{◌≡◌, refl, sym, ap, subst}
use mathlib.Core.List.{List, [], ◌∷◌, map}
use mathlib.Core.Bool.{true, false, ◌&&◌, true≢false}
use native.Mathlib.Omega.{arith}
use lib.ListN.{length}
use borrow.Author.Tests.{ltb-true, lt-leb}
use Rattle.lists.specs.Rows.{joined}
use Rattle.lists.proofs.Bools.{and_l, and_r}
use Rattle.model.specs.declared.Command.{Command}
use Rattle.model.specs.declared.Command.TheVariants.{OnSource, OnCore}
use Rattle.model.specs.declared.SourceAction.TheVariants.{SetSourcePriority, Mask, Unmask, Trigger, Redeliver, Complete}
use Rattle.model.specs.declared.CoreAction.TheVariants.{SetCorePriority, Claim}
use Rattle.layout.specs.Commands.{command_of, number_of, level_of}
use Rattle.layout.proofs.Commands.{number_small}
use Rattle.recording.specs.declared.Place.TheVariants.{Body}
use Rattle.recording.specs.declared.Signal.TheVariants.{Core, Cmd, Arg, Prio}
use Rattle.recording.specs.declared.Stamp.{Stamp}
use Rattle.recording.specs.declared.Reader.{Reader}
use Rattle.recording.specs.Words.{all, word_with}
use Rattle.recording.specs.Values.{value}
use Rattle.recording.specs.Records.{stamp_with, with_up, with_taken, read_with, only}
use Rattle.recording.specs.Declarations.{Form, width_in}
use Rattle.recording.specs.Stamps.{max_commands, is_readable, strobe_of, commands_of, end_stamp, end_open_stamp}
use Rattle.recording.specs.Reading.{and_then, read_time, read_body, read_at, read_word}
use Rattle.recording.specs.Writing.{numeral_bytes, time_line, vector_line, holds, core_value, arg_value, value_for, vectors, command_text}
use Rattle.recording.specs.Writing.{text_from, writable}
use Rattle.writings.proofs.Passages.{Passes, nothing_passes, word_passes, quiet_passes, passes_then}
use Rattle.writings.proofs.Numerals.{decimal_plain}
use Rattle.writings.proofs.Lines.{Held, held_with, given, reader_in, of_cmd, of_core, of_arg, of_prio, vector_for, Width, vector_passes}
use Rattle.writings.proofs.Lines.{up_passes, down_passes, opens_at}

-- ---- the reader between two commands

-- none is open before the first command; later the one in which stb fell, after one at whose end it was 1
abbrev pub before : ℕ → Stamp
before zero = stamp_with false 0 false
before (suc i) = stamp_with true (suc (2 * i)) true

abbrev pub between : Form → ℕ → Held → Reader
between f i h = reader_in f Body h (value true 0) (before i) i

-- what a command leaves
abbrev pub held_by : Command → Held
held_by c =
    held_with (vector_for (level_of c)) (value true (number_of c)) (value true (core_value c)) (value true (arg_value c))
    (value true (level_of c))

-- a form whose values can be read
pub record Sized (f : Form) : Type 0 where
  pub arg : Width f.arg
  pub prio : Width f.prio

-- each value fits its variable
pub record Used (f : Form) (c : Command) : Type 0 where
  pub core : core_value c < 2 ^ width_in f Core
  pub arg : arg_value c < 2 ^ width_in f Arg
  pub prio : level_of c < 2 ^ width_in f Prio

pub used : (f : Form) (c : Command) → writable f c ≡ true → Used f c
used f c w =
    let a = holds (width_in f Core) (core_value c) in
    let b = holds (width_in f Arg) (arg_value c) in
    let p = holds (width_in f Prio) (level_of c) in
    record {
      core = ltb-true (core_value c) (2 ^ width_in f Core) (and_l a b (and_l (a && b) p w));
      arg = ltb-true (arg_value c) (2 ^ width_in f Arg) (and_r a b (and_l (a && b) p w));
      prio = ltb-true (level_of c) (2 ^ width_in f Prio) (and_r (a && b) p w);
    }

-- the reader behind commands from command i on, and their stamps
abbrev pub reader_after : Form → ℕ → Held → List Command → Reader
reader_after f i h [] = between f i h
reader_after f i h (c ∷ cs) = reader_after f (suc i) (held_by c) cs

abbrev pub stamps_from : ℕ → List Command → List ℕ
stamps_from i [] = []
stamps_from i (c ∷ cs) = 2 * i ∷ stamps_from (suc i) cs

module _ (f : Form) where
  -- ---- the first stamp of a command

  opens_first : (i : ℕ) (h : Held) → i < max_commands → (at : ℕ) →
      read_word (between f i h) (word_with at (35 ∷ numeral_bytes 10 (2 * i))) ≡
      only (reader_in f Body h (value true 0) (stamp_with true (2 * i) false) i)
  unfolding read_word read_at read_body read_time and_then end_open_stamp end_stamp
  opens_first zero h l at = ap only (opens_at (between f zero h) at 0 (omega arith) (λ e. absurd (true≢false (sym e))))
  opens_first (suc i) h l at = ap only (opens_at (with_up false (between f (suc i) h)) at (2 * suc i) (omega arith) (λ e. omega arith))

  first_passes : (i : ℕ) (h : Held) → i < max_commands →
      Passes (time_line (2 * i)) (between f i h) (reader_in f Body h (value true 0) (stamp_with true (2 * i) false) i) [] []
  first_passes i h l =
      quiet_passes (35 ∷ numeral_bytes 10 (2 * i)) 10 _ _ (omega arith) (decimal_plain (2 * i)) refl (opens_first i h l)

  -- ---- the second stamp: the command is taken

  module _ (c : Command) (stamp : Stamp) (n : ℕ) where
    abbrev raised : Reader
    raised = reader_in f Body (held_by c) (value true 1) stamp n

  readable : (c : Command) (stamp : Stamp) (n : ℕ) → is_readable (raised c stamp n) ≡ true
  unfolding is_readable
  readable (OnSource id (SetSourcePriority p)) stamp n = refl
  readable (OnSource id Mask) stamp n = refl
  readable (OnSource id Unmask) stamp n = refl
  readable (OnCore k (SetCorePriority p)) stamp n = refl
  readable (OnSource id Trigger) stamp n = refl
  readable (OnCore k Claim) stamp n = refl
  readable (OnSource id Redeliver) stamp n = refl
  readable (OnSource id Complete) stamp n = refl

  strobed : (c : Command) (stamp : Stamp) (n : ℕ) → commands_of (Some (strobe_of (raised c stamp n))) ≡ c ∷ []
  unfolding commands_of strobe_of command_of
  strobed (OnSource id (SetSourcePriority p)) stamp n = refl
  strobed (OnSource id Mask) stamp n = refl
  strobed (OnSource id Unmask) stamp n = refl
  strobed (OnCore k (SetCorePriority p)) stamp n = refl
  strobed (OnSource id Trigger) stamp n = refl
  strobed (OnCore k Claim) stamp n = refl
  strobed (OnSource id Redeliver) stamp n = refl
  strobed (OnSource id Complete) stamp n = refl

  taking : (i : ℕ) (c : Command) → i < max_commands → (at : ℕ) →
      let r = raised c (stamp_with true (2 * i) false) i in
      read_word r (word_with at (35 ∷ numeral_bytes 10 (suc (2 * i)))) ≡ read_with (raised c (before (suc i)) (suc i)) (Some (strobe_of r))
  unfolding read_word read_at read_body read_time and_then end_open_stamp end_stamp
  taking i c l at =
      let r = raised c (stamp_with true (2 * i) false) i in
      rw (readable c (stamp_with true (2 * i) false) i, lt-leb max_commands i l)
      (ap (λ (x : Reader). read_with x (Some (strobe_of r)))
      (opens_at (with_taken (suc i) (with_up true r)) at (suc (2 * i)) (omega arith) (λ e. omega arith)))

  second_passes : (i : ℕ) (c : Command) → i < max_commands →
      Passes (time_line (suc (2 * i))) (raised c (stamp_with true (2 * i) false) i) (raised c (before (suc i)) (suc i)) (c ∷ []) (2 * i ∷ [])
  second_passes i c l =
      let r = raised c (stamp_with true (2 * i) false) i in
      subst
      (λ (cs : List Command).
      Passes (time_line (suc (2 * i))) r (raised c (before (suc i)) (suc i)) cs (map (λ (c : Command). 2 * i) cs))
      (strobed c (stamp_with true (2 * i) false) i)
      (word_passes (35 ∷ numeral_bytes 10 (suc (2 * i))) 10 r (raised c (before (suc i)) (suc i)) (Some (strobe_of r)) (omega arith)
      (decimal_plain (suc (2 * i))) refl (taking i c l))

  -- ---- a command

  module _ (sized : Sized f) where
    vectors_pass : (c : Command) (h : Held) (stamp : Stamp) (n : ℕ) → writable f c ≡ true →
        Passes (joined (λ s. vector_line s (value_for c s)) vectors) (reader_in f Body h (value true 0) stamp n)
        (reader_in f Body (held_by c) (value true 0) stamp n) [] []
    unfolding joined
    vectors_pass c h stamp n w =
        let low = value true 0 in
        let h₁ : Held = given Cmd (vector_for (number_of c)) h in
        let h₂ : Held = given Core (vector_for (core_value c)) h₁ in
        let h₃ : Held = given Arg (vector_for (arg_value c)) h₂ in
        let u : Used f c = used f c w in
        passes_then
        (vector_passes f h low stamp n Cmd of_cmd (number_of c) (record { low = omega arith; high = omega arith }) (number_small c))
        (passes_then
        (vector_passes f h₁ low stamp n Core of_core (core_value c) (record { low = omega arith; high = omega arith }) u.core)
        (passes_then (vector_passes f h₂ low stamp n Arg of_arg (arg_value c) sized.arg u.arg)
        (passes_then (vector_passes f h₃ low stamp n Prio of_prio (level_of c) sized.prio u.prio)
        (nothing_passes (reader_in f Body (held_by c) low stamp n)))))

    pub command_passes : (i : ℕ) (c : Command) (h : Held) → i < max_commands → writable f c ≡ true →
        Passes (command_text i c) (between f i h) (between f (suc i) (held_by c)) (c ∷ []) (2 * i ∷ [])
    unfolding command_text
    command_passes i c h l w =
        passes_then (first_passes i h l)
        (passes_then (vectors_pass c h (stamp_with true (2 * i) false) i w)
        (passes_then (up_passes f (held_by c) (value true 0) (stamp_with true (2 * i) false) i)
        (passes_then (second_passes i c l) (down_passes f (held_by c) (value true 1) (before (suc i)) (suc i)))))

    -- ---- a run

    pub run_passes : (i : ℕ) (cs : List Command) (h : Held) → i + length cs ≤ max_commands → all (writable f) cs ≡ true →
        Passes (text_from i cs) (between f i h) (reader_after f i h cs) cs (stamps_from i cs)
    unfolding text_from
    run_passes i [] h l w = nothing_passes (between f i h)
    run_passes i (c ∷ cs) h l w =
        passes_then (command_passes i c h (omega arith) (and_l (writable f c) (all (writable f) cs) w))
        (run_passes (suc i) cs (held_by c) (omega arith) (and_r (writable f c) (all (writable f) cs) w))
