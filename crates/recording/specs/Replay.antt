-- The replay of a recording. Definitions only. Assumes nothing.
-- Source: request 1/14, "a replay from a fresh controller of given n and m that goes on after a refused command. Sizes out of range are
-- 2 at offset 0, before any reading".
--   replayed n m t    number and offset of the reading of t, the state after its commands, and what each of them answered, refused ones
--                     included; for sizes out of range the fresh state of (1, 1), as making hands back
use Rattle.std.specs.Prelude.{ℕ, List, [], cond}
use Rattle.model.specs.declared.Controller.{Controller}
use Rattle.model.specs.declared.Answer.{Answer}
use Rattle.model.specs.Records.{reset}
use Rattle.model.specs.WellFormed.{sizes_in_range}
use Rattle.model.specs.Commands.{bad_size, run}
use Rattle.model.specs.Ledger.{answers_to}
use Rattle.recording.specs.Reading.{Reading, reading}

pub record Replay : Type 0 where
  pub number : ℕ
  pub offset : ℕ
  pub state : Controller
  pub answers : List Answer

abbrev pub replay_with : ℕ → ℕ → Controller → List Answer → Replay
replay_with number offset s answers = record { number = number; offset = offset; state = s; answers = answers }

-- The commands of a reading, run from the state s.
abbrev pub replay_from : Controller → Reading → Replay
replay_from s r = replay_with r.number r.offset (run s r.commands) (answers_to s r.commands)

unfoldable pub replayed : ℕ → ℕ → List ℕ → Replay
replayed n m t = cond (sizes_in_range n m) (replay_from (reset n m) (reading t)) (replay_with bad_size 0 (reset 1 1) [])
