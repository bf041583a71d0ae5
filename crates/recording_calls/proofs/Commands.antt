-- Commands and times, written as they are read. Assumes nothing.
--   ReadTo                            as many commands as are counted stand in the two buffers, and those to come have their places behind
--   read_none, read_more              nothing is read; one more command is, which has room (`read_room`)
--   read_end                          nothing is left: what the call answers and writes
--   no_commands, no_times             whether the buffers have room
use Prim.Native.Nat.{ℕ, ◌+◌, ◌*◌, ◌<◌, ◌≤◌}
use mathlib.Core.Path.{◌≡◌, refl, sym, ap, subst, ◌∙◌}
use mathlib.Core.List.{List, [], ◌∷◌}
use mathlib.Core.Bool.{true, false, and-false, cond}
use native.Mathlib.Omega.{arith}
use lib.ListN.{length, set}
use lib.Seq.{sets, length-sets}
use lib.Dec.{leb}
use borrow.Author.Tests.{leb-true, lt-leb}
use Rattle.lists.specs.Rows.{joined}
use Rattle.lists.proofs.Bools.{and_l, and_r}
use Rattle.model.specs.declared.Command.{Command}
use Rattle.layout.specs.Bytes.{command_size, command_bytes}
use Rattle.lists.proofs.Writes.{sets_append}
use Rattle.recording.specs.declared.Reader.{Reader}
use Rattle.recording.specs.declared.Report.{Report}
use Rattle.recording.specs.Stamps.{max_commands}
use Rattle.recording.specs.Reading.{is_good, Reading}
use Rattle.recording.specs.Calls.{report_with, no_room, room, fits_read, read_call, DoesRead}
use Rattle.recording_calls.specs.Remaining.{Remaining, remaining_with}
use Rattle.recording_calls.proofs.Parts.{all, whole_reading, whole_times}
use Rattle.recording_calls.proofs.Reached.{Reached, reached_none, reached_more, more_room, reported}

-- ---- whether the buffers have room

module _ (t commands times : List ℕ) where
  pub commands_fit : fits_read t commands times ≡ true → command_size * room t ≤ length commands
  commands_fit e = leb-true _ _ (and_l (leb (command_size * room t) (length commands)) (leb (room t) (length times)) e)

  pub times_fit : fits_read t commands times ≡ true → room t ≤ length times
  times_fit e = leb-true _ _ (and_r (leb (command_size * room t) (length commands)) (leb (room t) (length times)) e)

  pub read_unfit : (r : Report) → r ≡ no_room → fits_read t commands times ≡ false → DoesRead r commands times (read_call t commands times)
  unfolding read_call
  read_unfit r er e = rw e (er, refl, refl)

  pub no_commands : length commands < command_size * room t → fits_read t commands times ≡ false
  no_commands h = rw (lt-leb _ _ h)

  pub no_times : length times < room t → fits_read t commands times ≡ false
  no_times h = simp (lt-leb _ _ h, and-false)

-- ---- a command at a time

module _ (t commands₀ times₀ : List ℕ) where
  pub record ReadTo (commands times : List ℕ) (count : ℕ) (q : Remaining) : Type 0 where
    pub reached : Reached t count q
    pub size : length commands ≡ length commands₀
    pub times_size : length times ≡ length times₀
    pub written :
        sets commands (command_size * count) (joined command_bytes q.commands) ≡ sets commands₀ 0 (joined command_bytes (all t).commands)
    pub timed : sets times count q.times ≡ sets times₀ 0 (all t).times

  pub read_none : ReadTo commands₀ times₀ 0 (all t)
  read_none = record { reached = reached_none t; size = refl; times_size = refl; written = refl; timed = refl }

module _ {t commands₀ times₀ : List ℕ} where
  module _ {commands times : List ℕ} {count time : ℕ} {c : Command} {q q' : Remaining} (h : ReadTo t commands₀ times₀ commands times count q)
      (e : q ≡ remaining_with (c ∷ q'.commands) (time ∷ q'.times) q'.reader) where
    -- it has room behind those before it
    pub read_room :
        fits_read t commands₀ times₀ ≡ true →
        (command_size * count + command_size ≤ length commands) × (count < length times) × (count < max_commands)
    read_room fits =
        let room_left = more_room t h.reached e in
        let fits_commands = commands_fit t commands₀ times₀ fits in
        let fits_times = times_fit t commands₀ times₀ fits in
        (omega (arith, room_left, fits_commands, h.size), omega (arith, room_left, fits_times, h.times_size), omega (arith, room_left))

    pub read_more :
        {commands' : List ℕ} → commands' ≡ sets commands (command_size * count) (command_bytes c) →
        ReadTo t commands₀ times₀ commands' (set times count time) (count + 1) q'
    unfolding joined
    read_more ec =
        record {
          reached = reached_more t h.reached e;
          size = ap length ec ∙ length-sets commands (command_size * count) (command_bytes c) ∙ h.size;
          times_size = length-sets times count (time ∷ []) ∙ h.times_size;
          written =
              ap (λ (b : List ℕ). sets b (command_size * (count + 1)) (joined command_bytes q'.commands)) ec ∙
              sets_append commands (command_size * count) (command_size * (count + 1)) (command_bytes c) (joined command_bytes q'.commands)
              (omega arith) ∙
              ap (λ (x : Remaining). sets commands (command_size * count) (joined command_bytes x.commands)) (sym e) ∙ h.written;
          timed =
              sets_append times count (count + 1) (time ∷ []) q'.times refl ∙
              ap (λ (x : Remaining). sets times count x.times) (sym e) ∙ h.timed;
        }

  -- ---- the end

  pub read_end :
      {commands times : List ℕ} {count : ℕ} {q : Remaining} {r : Reader} {report : Report} → fits_read t commands₀ times₀ ≡ true →
      ReadTo t commands₀ times₀ commands times count q → q ≡ remaining_with [] [] r →
      report ≡ report_with r.fault.number count (cond (is_good r) (length t) r.fault.offset) →
      DoesRead report commands times (read_call t commands₀ times₀)
  unfolding read_call joined
  read_end {commands} {times} {count} {r = r} e h eq er =
      let end : ReadTo t commands₀ times₀ commands times count (remaining_with [] [] r) = subst (ReadTo t commands₀ times₀ commands times count) eq h in
      rw e (
        er ∙ reported t end.reached,
        end.written ∙ ap (λ (x : Reading). sets commands₀ 0 (joined command_bytes x.commands)) (sym (whole_reading t)),
        end.timed ∙ ap (sets times₀ 0) (sym (whole_times t)),
      )
