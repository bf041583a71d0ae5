-- How far a text is read, and that the commands found have room. Assumes nothing.
--   Reached           as many commands as are counted are read; with those to come they are the whole text's
--   reported          nothing is left: what the reading answers
--   commands_room     no text holds more commands than there is to be room for
use Prim.Native.Nat.{ℕ, ◌+◌, ◌<◌, ◌≤◌}
use mathlib.Core.Path.{◌≡◌, refl, sym, ap, ◌∙◌}
use mathlib.Core.List.{List, [], ◌∷◌}
use mathlib.Core.Bool.{cond}
use native.Mathlib.Omega.{arith}
use lib.ListN.{length}
use Rattle.model.specs.declared.Command.{Command}
use Rattle.recording.specs.declared.Reader.{Reader}
use Rattle.recording.specs.Reading.{is_good, Reading, reading}
use Rattle.recording.specs.Calls.{report_with, room, report_of}
use Rattle.readings.proofs.Counted.{at_most_65535}
use Rattle.readings.proofs.Limits.{no_more_than_bytes}
use Rattle.recording_calls.specs.Remaining.{Remaining, remaining_with}
use Rattle.recording_calls.proofs.Parts.{all, whole_reading}

pub commands_room : (t : List ℕ) → length (all t).commands ≤ room t
commands_room t =
    let e = ap (λ (x : Reading). length x.commands) (whole_reading t) in
    omega (arith, at_most_65535 t, no_more_than_bytes t)

module _ (t : List ℕ) where
  pub record Reached (count : ℕ) (q : Remaining) : Type 0 where
    pub counts : count + length q.commands ≡ length (all t).commands
    pub ends : q.reader ≡ (all t).reader

  pub reached_none : Reached 0 (all t)
  reached_none = record { counts = omega arith; ends = refl }

  module _ {count time : ℕ} {c : Command} {q q' : Remaining} (h : Reached count q)
      (e : q ≡ remaining_with (c ∷ q'.commands) (time ∷ q'.times) q'.reader) where
    pub reached_more : Reached (count + 1) q'
    reached_more =
        record {
          counts = omega (arith, h.counts, ap (λ (x : Remaining). length x.commands) e);
          ends = sym (ap (λ (x : Remaining). x.reader) e) ∙ h.ends;
        }

    -- a command to come has room beside those counted
    pub more_room : count < room t
    more_room = omega (arith, h.counts, ap (λ (x : Remaining). length x.commands) e, commands_room t)

  pub counted_room : {count : ℕ} {q : Remaining} → Reached count q → count ≤ room t
  counted_room h = omega (arith, h.counts, commands_room t)

  pub reported : {count : ℕ} {r : Reader} → Reached count (remaining_with [] [] r) →
      report_with r.fault.number count (cond (is_good r) (length t) r.fault.offset) ≡ report_of (reading t)
  reported {count} h =
      let last = (all t).reader in
      let total : count ≡ length (all t).commands = omega (arith, h.counts) in
      ap (λ (x : Reader). report_with x.fault.number count (cond (is_good x) (length t) x.fault.offset)) h.ends ∙
      ap (λ (k : ℕ). report_with last.fault.number k (cond (is_good last) (length t) last.fault.offset)) total ∙
      ap report_of (sym (whole_reading t))
