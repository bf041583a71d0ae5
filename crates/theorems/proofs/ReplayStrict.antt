-- Demand 3 of a replay, from the bytes that its call hands back (`ReplayStrict`): where the buffers fit and the sizes are in range it has
-- answered and written what a run of the reading's commands from the reset controller does. Assumes nothing.
use Prim.Native.Nat.{ℕ, ◌*◌, ◌≤◌}
use mathlib.Core.Path.{◌≡◌, sym, ap, subst}
use mathlib.Core.Logic.{◌≢◌}
use mathlib.Core.List.{List}
use mathlib.Core.Bool.{true, false}
use native.Mathlib.Omega.{arith}
use lib.ListN.{length}
use lib.Seq.{sets}
use lib.Dec.{leb, eqb}
use borrow.Author.Tests.{leb-true}
use Rattle.lists.proofs.Bools.{and_r, Flag, on, off, flag}
use Rattle.model.specs.declared.Command.{Command}
use Rattle.model.specs.Records.{reset}
use Rattle.model.specs.WellFormed.{sizes_in_range}
use Rattle.model.specs.Commands.{run}
use Rattle.layout.specs.Bytes.{state_size, state_bytes, answer_size, run_call_of}
use Rattle.layout.specs.CallStatements.{Strict}
use Rattle.well_formed.proofs.Clauses.{sizes_exact}
use Rattle.layout.proofs.Answers.{answers_from, answers_count}
use Rattle.exports.proofs.Calls.{ran_over}
use Rattle.recording.specs.Reading.{reading}
use Rattle.recording.specs.Replay.{replayed}
use Rattle.recording.specs.Calls.{room, fits_replay, replay_call}
use Rattle.recording.specs.Statements.{as_run, ReplayStrict}
use Rattle.readings.proofs.Counted.{at_most_65535}
use Rattle.readings.proofs.Limits.{no_more_than_bytes}
use Rattle.theorems.proofs.RunStrict.{ran_strict}

module _ (n m : ℕ) (t b answers : List ℕ) where
  cs : List Command
  cs = (reading t).commands

  -- the answers have room
  enough : fits_replay t b answers ≡ true → answer_size * length cs ≤ length answers
  unfolding cs
  enough e =
      let has_room : answer_size * room t ≤ length answers
      = leb-true _ _ (and_r (eqb (length b) state_size) (leb (answer_size * room t) (length answers)) e) in
      omega (arith, at_most_65535 t, no_more_than_bytes t)

  -- a replay that isn't refused is a run
  replay_run : fits_replay t b answers ≡ true → sizes_in_range n m ≡ true → as_run (replay_call n m t b answers) ≡ ran_over answers (reset n m) cs
  unfolding cs replay_call replayed
  replay_run e s =
      rw (e, s)
      (ap (λ (k : ℕ). run_call_of k (state_bytes (run (reset n m) cs)) (sets answers 0 (answers_from (reset n m) cs)))
      (answers_count (reset n m) cs))

  unfit_number : fits_replay t b answers ≡ false → (replay_call n m t b answers).report.number ≡ 255
  unfolding replay_call
  unfit_number e = rw e

  size_number : fits_replay t b answers ≡ true → sizes_in_range n m ≡ false → (replay_call n m t b answers).report.number ≡ 2
  unfolding replay_call replayed
  size_number e s = rw (e, s)

  strict :
      (replay_call n m t b answers).report.number ≢ 2 → (replay_call n m t b answers).report.number ≢ 255 →
      Strict n m cs (as_run (replay_call n m t b answers))
  strict h k = go (flag (fits_replay t b answers)) (flag (sizes_in_range n m))
    where
      go : Flag (fits_replay t b answers) → Flag (sizes_in_range n m) → Strict n m cs (as_run (replay_call n m t b answers))
      go (on e) (on s) =
          subst (Strict n m cs) (sym (replay_run e s)) (ran_strict n m ((sizes_exact n m).0 s) answers cs (enough e))
      go (on e) (off s) = absurd (h (size_number e s))
      go (off e) s = absurd (k (unfit_number e))

pub replay_strict : ReplayStrict
unfolding cs
replay_strict n m t b answers h k = strict n m t b answers h k
