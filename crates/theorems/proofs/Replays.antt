-- A replay is the run of the reading's commands from a fresh controller (`ReplayExact`). Assumes nothing.
use mathlib.Core.Path.{◌≡◌, ap, ◌∙◌}
use mathlib.Core.List.{List}
use Prim.Native.Nat.{ℕ}
use lib.ListN.{length}
use borrow.Author.Tests.{not-true}
use Rattle.model.specs.Records.{reset}
use Rattle.model.specs.WellFormed.{sizes_in_range}
use Rattle.model.specs.Statements.{InRange}
use Rattle.lists.proofs.Exact.{refuted_exact}
use Rattle.well_formed.proofs.Clauses.{sizes_exact}
use Rattle.layout.proofs.Answers.{answers_count}
use Rattle.recording.specs.Reading.{reading}
use Rattle.recording.specs.Replay.{Replay, replay_from, replayed}
use Rattle.recording.specs.Statements.{ReplayExact}

replays_inside : (n m : ℕ) (t : List ℕ) → InRange n m → replayed n m t ≡ replay_from (reset n m) (reading t)
unfolding replayed
replays_inside n m t h = rw ((sizes_exact n m).1 h)

pub replay_exact : ReplayExact
unfolding replayed
replay_exact n m t =
    record {
      inside = replays_inside n m t;
      outside = λ h. rw (not-true (sizes_in_range n m) ((refuted_exact (sizes_exact n m)).1 h));
      answered =
          λ h.
          ap (λ (r : Replay). length r.answers) (replays_inside n m t h) ∙ answers_count (reset n m) (reading t).commands;
    }
