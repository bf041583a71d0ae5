-- Lines put from their ends, and their lengths. Assumes nothing.
--   vector_ending, vector_digits, vector_put     a vector: room for its last bytes, then for its digits; both are put
--   time_digits, time_put                        a time: its newline is put, then its digits
--   value_room, value_put                        a value's line before what is put
--   core_left, values_left, ..                   room for the values, for the lines, from one of them on
--   lines_length                                 the length of a command's lines
use Prim.Native.Nat.{ℕ, suc, ◌+◌, ◌*◌, ◌-◌, ◌/◌, ◌%◌, ◌<◌, ◌≤◌}
use mathlib.Core.Path.{◌≡◌, refl, ap, subst, subst⁻¹, ◌∙◌}
use mathlib.Core.List.{List, [], ◌∷◌, ◌++◌, append_assoc}
use lib.ListN.{length, set, length-append, length-map}
use lib.Dec.{ltb}
use native.Mathlib.Omega.{arith}
use borrow.Author.Tests.{ltb-true, ltb-false}
use Rattle.lists.specs.Rows.{joined}
use Rattle.lists.proofs.Bools.{Flag, on, off, flag}
use Rattle.recording.specs.declared.Signal.{Signal}
use Rattle.recording.specs.declared.Signal.TheVariants.{Cmd, Core, Arg, Prio}
use Rattle.recording.specs.Writing.{digits, numeral_bytes, time_line, vector_line, strobe_line}
use Rattle.recording.proofs.Digits.{digits_small, digits_more}
use Rattle.vcd_writer.specs.Lines.{vector_of, value_lines, lines_of, Room, Put}
use Rattle.vcd_writer.proofs.Putting.{put_before, room_last, room_first}

-- ---- a vector

module _ (code x : ℕ) where
  abbrev ending : List ℕ
  ending = 32 ∷ code ∷ 10 ∷ []

  abbrev marked : List ℕ
  marked = 98 ∷ numeral_bytes 2 x

  vector_parts : vector_of code x ≡ marked ++ ending
  vector_parts = ap (λ (l : List ℕ). 98 ∷ l) (append_assoc (numeral_bytes 2 x) (32 ∷ code ∷ []) (10 ∷ []))

  module _ (b : List ℕ) (end : ℕ) (room : Room (vector_of code x) end b) where
    parted : Room (marked ++ ending) end b
    parted = subst (λ (l : List ℕ). Room l end b) vector_parts room

    pub vector_ending : Room ending end b
    vector_ending = room_last marked ending parted

    pub vector_digits : {at : ℕ} {b₁ : List ℕ} → Put b end ending at b₁ → Room marked at b₁
    vector_digits p = room_first marked ending parted p

    pub vector_put :
        {at start : ℕ} {b₁ b₂ : List ℕ} → Put b end ending at b₁ → Put b₁ at marked start b₂ → Put b end (vector_of code x) start b₂
    vector_put p q = rw vector_parts (put_before p q)

-- ---- a time

module _ (t : ℕ) (b : List ℕ) (end : ℕ) (room : Room (time_line t) end b) where
  -- with its newline
  abbrev ended : List ℕ
  ended = set b (end - 1) 10

  newline : Put b end (10 ∷ []) (end - 1) ended
  newline = record { place = omega (arith, room.long); stored = refl }

  pub time_digits : Room (35 ∷ numeral_bytes 10 t) (end - 1) ended
  time_digits = room_first (35 ∷ numeral_bytes 10 t) (10 ∷ []) room newline

  pub time_put : {start : ℕ} {b₁ : List ℕ} → Put ended (end - 1) (35 ∷ numeral_bytes 10 t) start b₁ → Put b end (time_line t) start b₁
  time_put p = put_before newline p

-- ---- the values of a command

module _ (code : ℕ) {x y : ℕ} (e : x ≡ y) {rest b b₁ : List ℕ} {end at : ℕ} (p : Put b end rest at b₁) where
  pub value_room : Room (vector_of code y ++ rest) end b → Room (vector_of code x) at b₁
  value_room room = subst⁻¹ (λ (z : ℕ). Room (vector_of code z) at b₁) e (room_first (vector_of code y) rest room p)

  pub value_put : {start : ℕ} {b₂ : List ℕ} → Put b₁ at (vector_of code x) start b₂ → Put b end (vector_of code y ++ rest) start b₂
  value_put {start} {b₂} q = put_before p (subst (λ (z : ℕ). Put b₁ at (vector_of code z) start b₂) e q)

module _ (value : Signal → ℕ) where
  abbrev part : Signal → List ℕ
  part s = vector_line s (value s)

  abbrev pub from_prio : List ℕ
  from_prio = part Prio ++ []

  abbrev pub from_arg : List ℕ
  from_arg = part Arg ++ from_prio

  abbrev pub from_core : List ℕ
  from_core = part Core ++ from_arg

  module _ {end : ℕ} {b : List ℕ} (room : Room (value_lines value) end b) where
    pub core_left : Room from_core end b
    unfolding value_lines joined
    core_left = room_last (part Cmd) from_core room

    pub arg_left : Room from_arg end b
    arg_left = room_last (part Core) from_arg core_left

    pub prio_left : Room from_prio end b
    prio_left = room_last (part Arg) from_prio arg_left

-- ---- its lines

module _ (t : ℕ) (value : Signal → ℕ) where
  abbrev pub from_next : List ℕ
  from_next = time_line (suc t) ++ strobe_line 0

  abbrev pub from_up : List ℕ
  from_up = strobe_line 1 ++ from_next

  abbrev pub from_values : List ℕ
  from_values = value_lines value ++ from_up

  module _ {end : ℕ} {b : List ℕ} (room : Room (lines_of t value) end b) where
    pub values_left : Room from_values end b
    unfolding lines_of
    values_left = room_last (time_line t) from_values room

    pub up_left : Room from_up end b
    up_left = room_last (value_lines value) from_up values_left

    pub next_left : Room from_next end b
    next_left = room_last (strobe_line 1) from_next up_left

    pub down_left : Room (strobe_line 0) end b
    down_left = room_last (time_line (suc t)) (strobe_line 0) next_left

-- ---- their length

-- an even time and the next
times_length : (k : ℕ) → length (digits 10 (suc (2 * k))) ≡ length (digits 10 (2 * k))
times_length k = go (flag (ltb (2 * k) 10))
  where
    go : Flag (ltb (2 * k) 10) → length (digits 10 (suc (2 * k))) ≡ length (digits 10 (2 * k))
    go (on e) =
        let few : 2 * k < 10 = ltb-true (2 * k) 10 e in
        let one = digits_small 10 (omega arith) (2 * k) few in
        let next = digits_small 10 (omega arith) (suc (2 * k)) (omega arith) in
        omega (arith, ap length one, ap length next)
    go (off e) =
        let many : 10 ≤ 2 * k = ltb-false (2 * k) 10 e in
        let same : suc (2 * k) / 10 ≡ 2 * k / 10 = omega arith in
        let more = digits_more 10 (omega arith) (2 * k) many in
        let next = digits_more 10 (omega arith) (suc (2 * k)) (omega arith) in
        omega (
          arith,
          ap length more ∙ length-append (digits 10 (2 * k / 10)) (2 * k % 10 ∷ []),
          ap length next ∙ length-append (digits 10 (suc (2 * k) / 10)) (suc (2 * k) % 10 ∷ []),
          ap (λ (x : ℕ). length (digits 10 x)) same,
        )

pub lines_length :
    (k : ℕ) (value : Signal → ℕ) →
    26 + 2 * length (digits 10 (2 * k)) + length (digits 2 (value Cmd)) + length (digits 2 (value Core)) +
    length (digits 2 (value Arg)) + length (digits 2 (value Prio)) ≡ length (lines_of (2 * k) value)
unfolding lines_of value_lines joined
lines_length k value = simp (length-append, length-map) (omega (arith, times_length k))
