-- What the call that writes leaves in the lent buffer, and that it is read back (`WriteTells`), also by the call that reads
-- (`WriteThenRead`). Assumes nothing.
use Prim.Native.Nat.{ℕ, ◌+◌, ◌*◌, ◌<◌}
use mathlib.Core.Path.{◌≡◌, refl, sym, ap, ◌∙◌, subst}
use mathlib.Core.Logic.{◌≢◌}
use mathlib.Core.List.{List, ◌++◌}
use native.Mathlib.Omega.{arith}
use lib.ListN.{length, take, drop}
use lib.Seq.{sets, length-sets, sets-eq, take-append_seam, drop-append_seam}
use Rattle.model.specs.declared.Command.{Command}
use Rattle.layout.specs.Bytes.{commands_in, number_in}
use Rattle.recording.specs.Declarations.{narrow}
use Rattle.recording.specs.Reading.{reading, times_of}
use Rattle.recording.specs.Writing.{written}
use Rattle.recording.specs.Calls.{read_call, WriteCall, write_call_of, length_in, written_into, write_call}
use Rattle.recording.specs.WritingStatements.{TellsWriting, WriteTells, WriteThenRead}
use Rattle.writings.proofs.RoundTrip.{written_is_read, written_times}
use Rattle.writings.proofs.Refusals.{Accepted, Outcome, unread, refused, accepted, number_of, outcome}

-- what is claimed of one call
abbrev Tells : List ℕ → List ℕ → WriteCall → Type 0
Tells list text call =
    (number_in call.result ≡ 0 → TellsWriting list text call) ×
    (number_in call.result ≢ 0 → (call.text ≡ text) × (length_in call.result ≡ 0)) × (length call.text ≡ length text)

-- ---- a refused list

refused_tells : (list text : List ℕ) (n : ℕ) → 0 < n → n < 256 → Tells list text (write_call_of n text)
refused_tells list text n low high = ((λ e. absurd (omega (arith, e))), (λ e. (refl, omega arith)), refl)

-- ---- an accepted one

length_of : (n : ℕ) → length_in (0 + 256 * n) ≡ n
length_of n = omega arith

module _ (list text : List ℕ) (a : Accepted (commands_in list) text) where
  abbrev cs : List Command
  cs = commands_in list

  abbrev t : List ℕ
  t = written narrow cs

  -- the text, and then what was there before
  parts : sets text 0 t ≡ t ++ drop (length t) text
  parts =
      let none : 0 + length t ≡ length t = omega arith in
      sets-eq t text 0 (omega (arith, a.room_for)) ∙ ap (λ (n : ℕ). t ++ drop n text) none

  front_is : take (length t) (sets text 0 t) ≡ t
  front_is = ap (take (length t)) parts ∙ take-append_seam t (drop (length t) text)

  left : TellsWriting list text (written_into cs text)
  left =
      record {
        long = length_of (length t);
        front = rw (length_of (length t)) front_is;
        rest = rw (length_of (length t)) (ap (drop (length t)) parts ∙ drop-append_seam t (drop (length t) text));
        read_back = rw (length_of (length t)) (ap reading front_is ∙ written_is_read narrow cs a.fits);
        times = rw (length_of (length t)) (ap times_of front_is ∙ written_times narrow cs a.fits);
      }

  accepted_tells : Tells list text (written_into cs text)
  accepted_tells = ((λ e. left), (λ e. absurd (e (number_of (length t)))), length-sets text 0 t)

pub write_tells : WriteTells
write_tells list text = go (outcome list text)
  where
    go : Outcome list text → Tells list text (write_call list text)
    go (unread n e) = subst (Tells list text) (sym e) (refused_tells list text 255 (omega arith) (omega arith))
    go (refused n u e) = subst (Tells list text) (sym e) (refused_tells list text 15 (omega arith) (omega arith))
    go (accepted n a e) = subst (Tells list text) (sym e) (accepted_tells list text a)

pub write_then_read : WriteThenRead
unfolding read_call
write_then_read list text commands times e fits =
    let told = (write_tells list text).0 e in
    rw (fits, told.read_back, told.times)
