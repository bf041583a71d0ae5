-- Worked texts of the commands' times, of the replay and of the calls for hosts. Definitions only; that they hold is computed in
-- proofs/CallExamples.antt.
-- Source: document 01's own text, and request 1/14, "a replay .. that goes on after a refused command. Sizes out of range are 2 at offset
-- 0, before any reading".
--   timed_wholes, timed_bodies    texts from their first byte on, and after `definitions`, with the times of their commands
--   ReplayedCases               replays: document 01's text, a refused command passed over, sizes out of range
--   ReadCases, ReplayCases      the calls, byte for byte: what is written, and that nothing is where there is too little room
use Rattle.std.specs.Prelude.{ℕ, ◌≡◌, List, [], ◌∷◌, ◌++◌, true, false, length}
use Prim.Native.String.{String, ◌++◌ as ◌++ˢ◌}
use Rattle.model.specs.declared.Controller.{Controller}
use Rattle.model.specs.Records.{source_with, with_source, reset, answer}
use Rattle.layout.specs.BytesCases.{times}
use Rattle.recording.specs.declared.Reader.{Reader}
use Rattle.recording.specs.Words.{bytes_of, words}
use Rattle.recording.specs.Reading.{finish, progress, read_words, times_at, times_from}
use Rattle.recording.specs.Replay.{replay_with, replayed}
use Rattle.recording.specs.Calls.{report_with, read_call_of, read_call, replay_call_of, replay_call}
use Rattle.recording.specs.Texts.{trigger4, definitions}

-- ---- times

pub record TimeCase : Type 0 where
  pub text : String
  pub times : List ℕ

timing : String → List ℕ → TimeCase
timing text times = record { text = text; times = times }

-- From the first byte on: several commands, the last at the text's end.
unfoldable pub timed_wholes : List TimeCase
unfolding timing
timed_wholes = timing (definitions ++ˢ "#3 b100 \" b100 $ 1! #10 0! #20 1! #30 0! #44 1!") (3 ∷ 20 ∷ 44 ∷ []) ∷ []

-- After the definitions.
unfoldable pub timed_bodies : List TimeCase
unfolding timing
timed_bodies =
    -- the stamp has the time, not the word that ends it
    timing "#5 b100 \" b100 $ 1! #7" (5 ∷ []) ∷
    -- the stamp at whose end stb is 1, not the one before, in which the values were given, nor the next
    timing "#1 b100 \" b100 $ #2 1! #3 #4" (2 ∷ []) ∷
    -- changes before the first time carry into it
    timing "b100 \" b100 $ 1! #9" (9 ∷ []) ∷
    -- leading zeros change nothing; the largest time
    timing "#007 b100 \" b100 $ 1! #0008" (7 ∷ []) ∷
    timing "#18446744073709551615 b100 \" b100 $ 1!" (18446744073709551615 ∷ []) ∷
    -- the word that ends the stamp is no time, or a time that doesn't rise
    timing "#5 b100 \" b100 $ 1! #x" (5 ∷ []) ∷
    timing "#5 b100 \" b100 $ 1! #4" (5 ∷ []) ∷
    -- a # in a comment, or as a code, is no time
    timing "#5 b100 \" b100 $ $comment #6 $end b1 # 1! #8" (5 ∷ []) ∷
    -- no command, no time
    timing "#5 b100 \" b100 $ 0! #8" [] ∷ []

-- A text with one command, taken at #7: that its time is neither 7 nor 0 is proved in readings/proofs/WrongTimes.antt.
unfoldable pub late : String
late = definitions ++ˢ "#5 b100 \" b100 $ 1! #7"

-- The times of a text read by a reader that stands at its first byte.
unfoldable pub times_after : Reader → List ℕ → List ℕ
times_after r t =
    let last = (read_words (progress r []) (words t)).reader in
    times_from r (words t) ++ times_at last (finish (length t) last)

abbrev pub told : List TimeCase → List (List ℕ)
told [] = []
told (c ∷ cs) = c.times ∷ told cs

abbrev pub told_by : (List ℕ → List ℕ) → List TimeCase → List (List ℕ)
told_by f [] = []
told_by f (c ∷ cs) = f (bytes_of c.text) ∷ told_by f cs

-- ---- replays

-- Trigger 4, trigger 4 again, trigger 5; and unmask 4, trigger 4, claim on core 0.
unfoldable pub again : String
again = definitions ++ˢ "#0 b100 \" b100 $ 1! #1 0! #2 1! #3 0! #4 b101 $ 1!"

unfoldable pub claiming : String
claiming = definitions ++ˢ "#0 b10 \" b100 $ 1! #1 0! #2 b100 \" 1! #3 0! #4 b101 \" b0 # 1! #5 0! #x"

-- A text whose first fault is 11 at offset 11.
unfoldable pub faulty : String
faulty = "$date $end $end"

-- Source 4 waits, masked, with so many triggers dropped; so does source 5 beside one that dropped one.
abbrev pub waits4 : ℕ → Controller
waits4 dropped = with_source (reset 32 2) 3 (source_with 1 true true false 1 dropped)

abbrev pub waits45 : Controller
waits45 = with_source (waits4 1) 4 (source_with 1 true true false 1 0)

abbrev pub ReplayedCases : Type 0
ReplayedCases =
    (replayed 32 2 (bytes_of trigger4) ≡ replay_with 0 233 (waits4 0) (answer (waits4 0) 0 0 0 ∷ [])) ×
    -- 6, counted, and on
    (replayed 32 2 (bytes_of again) ≡
    replay_with 0 188 waits45 (answer (waits4 0) 0 0 0 ∷ answer (waits4 1) 6 0 0 ∷ answer waits45 0 0 0 ∷ [])) ×
    -- no command; sizes out of range, before any reading
    (replayed 32 2 (bytes_of faulty) ≡ replay_with 11 11 (reset 32 2) []) ×
    (replayed 0 2 (bytes_of faulty) ≡ replay_with 2 0 (reset 1 1) []) ×
    (replayed 129 2 (bytes_of faulty) ≡ replay_with 2 0 (reset 1 1) []) ×
    (replayed 32 0 (bytes_of faulty) ≡ replay_with 2 0 (reset 1 1) []) ×
    (replayed 32 33 (bytes_of faulty) ≡ replay_with 2 0 (reset 1 1) [])

-- ---- the calls for hosts

-- So many bytes, or times, as they were lent.
abbrev pub lent : ℕ → List ℕ
lent k = times k (9 ∷ [])

-- The bytes of a source after a reset, of one that waits masked with so many triggers dropped, and of one that is claimed.
abbrev pub fresh : List ℕ
fresh = 1 ∷ 0 ∷ 1 ∷ 0 ∷ 0 ∷ 0 ∷ 0 ∷ 0 ∷ 0 ∷ []

abbrev pub waiting : ℕ → List ℕ
waiting dropped = 1 ∷ 0 ∷ 1 ∷ 1 ∷ 0 ∷ 1 ∷ 0 ∷ dropped ∷ 0 ∷ []

abbrev pub claimed : List ℕ
claimed = 1 ∷ 0 ∷ 0 ∷ 1 ∷ 1 ∷ 1 ∷ 0 ∷ 0 ∷ 0 ∷ []

-- The bytes of 32 sources and 2 cores, and of the records past them, from those of sources 4 and 5 and of core 0.
abbrev pub state_of : List ℕ → List ℕ → List ℕ → List ℕ
state_of source4 source5 core0 =
    32 ∷ 0 ∷ 2 ∷ 0 ∷ (times 3 fresh ++ (source4 ++ (source5 ++ (times 123 fresh ++ (core0 ++ times 248 (0 ∷ []))))))

-- Room is for as many commands as the text has bytes.
abbrev pub ReadCases : Type 0
ReadCases =
    (read_call (bytes_of trigger4) (lent 1165) (lent 233) ≡
    read_call_of (report_with 0 1 233) (4 ∷ 4 ∷ 0 ∷ 0 ∷ 0 ∷ lent 1160) (0 ∷ lent 232)) ×
    -- commands and times before a fault, and its number and offset
    (read_call (bytes_of claiming) (lent 1041) (lent 208) ≡
    read_call_of (report_with 11 3 206) (2 ∷ 4 ∷ 0 ∷ 0 ∷ 0 ∷ 4 ∷ 4 ∷ 0 ∷ 0 ∷ 0 ∷ 5 ∷ 0 ∷ 0 ∷ 0 ∷ 0 ∷ lent 1026) (0 ∷ 2 ∷ 4 ∷ lent 205)) ×
    (read_call [] [] [] ≡ read_call_of (report_with 11 0 0) [] []) ×
    -- a byte or a time too few
    (read_call (bytes_of trigger4) (lent 1164) (lent 233) ≡ read_call_of (report_with 255 0 0) (lent 1164) (lent 233)) ×
    (read_call (bytes_of trigger4) (lent 1165) (lent 232) ≡ read_call_of (report_with 255 0 0) (lent 1165) (lent 232))

abbrev pub ReplayCases : Type 0
ReplayCases =
    (replay_call 32 2 (bytes_of trigger4) (lent 1412) (lent 1165) ≡
    replay_call_of (report_with 0 1 233) (state_of (waiting 0) fresh (times 8 (0 ∷ []))) (0 ∷ 0 ∷ 0 ∷ 0 ∷ 0 ∷ lent 1160)) ×
    -- a refused command counted and passed over
    (replay_call 32 2 (bytes_of again) (lent 1412) (lent 940) ≡
    replay_call_of (report_with 0 3 188) (state_of (waiting 1) (waiting 0) (times 8 (0 ∷ [])))
    (0 ∷ 0 ∷ 0 ∷ 0 ∷ 0 ∷ 6 ∷ 0 ∷ 0 ∷ 0 ∷ 0 ∷ 0 ∷ 0 ∷ 0 ∷ 0 ∷ 0 ∷ lent 925)) ×
    -- a cycle, an id, a fault behind them
    (replay_call 32 2 (bytes_of claiming) (lent 1412) (lent 1040) ≡
    replay_call_of (report_with 11 3 206) (state_of claimed fresh (1 ∷ 0 ∷ times 6 (0 ∷ [])))
    (0 ∷ 0 ∷ 0 ∷ 0 ∷ 0 ∷ 0 ∷ 0 ∷ 0 ∷ 1 ∷ 0 ∷ 0 ∷ 4 ∷ 0 ∷ 0 ∷ 0 ∷ lent 1025)) ×
    -- sizes out of range: 2 at 0 though the text has a fault at 11, and nothing written
    (replay_call 129 2 (bytes_of faulty) (lent 1412) (lent 75) ≡ replay_call_of (report_with 2 0 0) (lent 1412) (lent 75)) ×
    (replay_call 32 0 (bytes_of faulty) (lent 1412) (lent 75) ≡ replay_call_of (report_with 2 0 0) (lent 1412) (lent 75)) ×
    -- too little room, before the sizes are looked at
    (replay_call 32 2 (bytes_of trigger4) (lent 1412) (lent 1164) ≡ replay_call_of (report_with 255 0 0) (lent 1412) (lent 1164)) ×
    (replay_call 32 2 (bytes_of faulty) (lent 1411) (lent 75) ≡ replay_call_of (report_with 255 0 0) (lent 1411) (lent 75)) ×
    (replay_call 129 2 (bytes_of faulty) (lent 1413) (lent 75) ≡ replay_call_of (report_with 255 0 0) (lent 1413) (lent 75))
