-- The commands of a recording, and their times, are read back from what the call for reading has written (`ReadTells`). Assumes nothing.
use Prim.Native.Nat.{ℕ, ◌+◌, ◌*◌, ◌≤◌}
use mathlib.Core.Path.{◌≡◌, refl, ap, ◌∙◌}
use mathlib.Core.List.{List}
use mathlib.Core.Bool.{true, false}
use native.Mathlib.Omega.{arith}
use lib.ListN.{length, take, drop}
use lib.Seq.{sets, sets-eq, take_at}
use lib.Dec.{leb}
use borrow.Author.Tests.{leb-true}
use Rattle.lists.specs.Rows.{joined}
use Rattle.lists.proofs.Bools.{and_l, and_r, Flag, on, off, flag}
use Rattle.layout.specs.Bytes.{command_size, command_bytes, commands_in}
use Rattle.layout.proofs.Commands.{commands_read_back}
use Rattle.recording.specs.Reading.{reading, times_of}
use Rattle.recording.specs.Calls.{room, fits_read, read_call}
use Rattle.recording.specs.Statements.{TellsReading, ReadTells}
use Rattle.readings.proofs.Counted.{at_most_65535}
use Rattle.readings.proofs.Limits.{no_more_than_bytes}
use Rattle.readings.proofs.Times.{times_exact}

-- what is written in front is read back
in_front : (xs buffer : List ℕ) (k : ℕ) → length xs ≡ k → k ≤ length buffer → take k (sets buffer 0 xs) ≡ xs
in_front xs buffer k e h =
    ap (take k) (sets-eq xs buffer 0 (omega (arith, e))) ∙ take_at xs (drop (0 + length xs) buffer) k e

module _ (t commands times : List ℕ) where
  -- as many as are read have room
  in_room : length (reading t).commands ≤ room t
  in_room = omega (arith, at_most_65535 t, no_more_than_bytes t)

  commands_fit : fits_read t commands times ≡ true → command_size * room t ≤ length commands
  commands_fit e = leb-true _ _ (and_l (leb (command_size * room t) (length commands)) (leb (room t) (length times)) e)

  times_fit : fits_read t commands times ≡ true → room t ≤ length times
  times_fit e = leb-true _ _ (and_r (leb (command_size * room t) (length commands)) (leb (room t) (length times)) e)

  unfit_number : fits_read t commands times ≡ false → (read_call t commands times).report.number ≡ 255
  unfolding read_call
  unfit_number e = rw e

  told : fits_read t commands times ≡ true → TellsReading t (read_call t commands times)
  unfolding read_call
  told e =
      let cs = (reading t).commands in
      let (same, size, fit) = commands_read_back cs in
      let each : length (times_of t) ≡ length cs = ((times_exact t (times_of t)).1 refl).each in
      let enough : command_size * length cs ≤ length commands = omega (arith, commands_fit e, in_room) in
      rw e
      (record {
        counted = refl;
        commands =
            ap commands_in (in_front (joined command_bytes cs) commands (command_size * length cs) size enough) ∙ same;
        times = in_front (times_of t) times (length cs) each (omega (arith, times_fit e, in_room));
      })

pub read_tells : ReadTells
read_tells t commands times h = go (flag (fits_read t commands times))
  where
    go : Flag (fits_read t commands times) → TellsReading t (read_call t commands times)
    go (on e) = told t commands times e
    go (off e) = absurd (h (unfit_number t commands times e))
