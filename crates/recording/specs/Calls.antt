-- What the calls for hosts answer and write. Definitions only. Assumes nothing.
-- Source: requests 1/14 and 6/14. How many commands a text holds isn't known before it is read, so that room is asked for as many as there
-- can be.
--   room t                         the commands that there is to be room for
--   read_call t commands times      the commands of a reading, five bytes each, and their times, in the front of two lent buffers
--   replay_call n m t b answers     the state after a replay in the lent bytes, and its answers, five bytes each, in the front of a buffer
--   write_call list text            the text of a run, commands of five bytes each, in the front of a lent buffer
-- A buffer that doesn't fit is answered by 255, and every buffer stays as it was. Sizes out of range come next. A text that doesn't fit its
-- buffer is 15.
use Rattle.std.specs.Prelude.{ℕ, ◌+◌, ◌*◌, ◌/◌, min, ◌≡◌, List, Bool, ◌&&◌, cond, length, leb, eqb}
use Rattle.std.proofs.lemmas.List.Edits.{sets}
use Rattle.lists.specs.Rows.{joined}
use Rattle.model.specs.WellFormed.{sizes_in_range}
use Rattle.model.specs.declared.Command.{Command}
use Rattle.layout.specs.Bytes.{state_size, state_bytes, command_size, command_bytes, commands_in, answer_size, answer_bytes, unreadable}
use Rattle.recording.specs.declared.Report.{Report}
use Rattle.recording.specs.Stamps.{max_commands}
use Rattle.recording.specs.Reading.{Reading, reading, times_of}
use Rattle.recording.specs.Words.{all}
use Rattle.recording.specs.Declarations.{narrow}
use Rattle.recording.specs.Replay.{Replay, replayed}
use Rattle.recording.specs.Writing.{written, writable}

abbrev pub report_with : ℕ → ℕ → ℕ → Report
report_with number count offset = record { number = number; count = count; offset = offset }

abbrev pub no_room : Report
no_room = report_with unreadable 0 0

-- A command is taken at a word, and never more than 65,535 are.
abbrev pub room : List ℕ → ℕ
room t = min max_commands (length t)

-- ---- reading

pub record ReadCall : Type 0 where
  pub report : Report
  pub commands : List ℕ
  pub times : List ℕ

abbrev pub read_call_of : Report → List ℕ → List ℕ → ReadCall
read_call_of report commands times = record { report = report; commands = commands; times = times }

abbrev pub report_of : Reading → Report
report_of r = report_with r.number (length r.commands) r.offset

abbrev pub fits_read : List ℕ → List ℕ → List ℕ → Bool
fits_read t commands times = leb (command_size * room t) (length commands) && leb (room t) (length times)

unfoldable pub read_call : List ℕ → List ℕ → List ℕ → ReadCall
read_call t commands times =
    cond (fits_read t commands times)
    (read_call_of (report_of (reading t)) (sets commands 0 (joined command_bytes (reading t).commands)) (sets times 0 (times_of t)))
    (read_call_of no_room commands times)

-- A call answered the report r, and the two buffers then are these.
abbrev pub DoesRead : Report → List ℕ → List ℕ → ReadCall → Type 0
DoesRead r commands times call = (r ≡ call.report) × (commands ≡ call.commands) × (times ≡ call.times)

-- ---- replaying

pub record ReplayCall : Type 0 where
  pub report : Report
  pub bytes : List ℕ
  pub answers : List ℕ

abbrev pub replay_call_of : Report → List ℕ → List ℕ → ReplayCall
replay_call_of report bytes answers = record { report = report; bytes = bytes; answers = answers }

abbrev pub replay_report : Replay → Report
replay_report r = report_with r.number (length r.answers) r.offset

abbrev pub fits_replay : List ℕ → List ℕ → List ℕ → Bool
fits_replay t b answers = eqb (length b) state_size && leb (answer_size * room t) (length answers)

-- For sizes out of range the lent bytes stay as they were, as when a controller is made in them.
unfoldable pub replay_call : ℕ → ℕ → List ℕ → List ℕ → List ℕ → ReplayCall
replay_call n m t b answers =
    let r = replayed n m t in
    cond (fits_replay t b answers)
    (replay_call_of (replay_report r) (cond (sizes_in_range n m) (state_bytes r.state) b) (sets answers 0 (joined answer_bytes r.answers)))
    (replay_call_of no_room b answers)

abbrev pub DoesReplay : Report → List ℕ → List ℕ → ReplayCall → Type 0
DoesReplay r b answers call = (r ≡ call.report) × (b ≡ call.bytes) × (answers ≡ call.answers)

-- ---- writing

-- Over 65,535 commands, a used value too large for its variable, or a text longer than the lent buffer.
abbrev pub not_writable : ℕ
not_writable = 15

pub record WriteCall : Type 0 where
  pub result : ℕ
  pub text : List ℕ

abbrev pub write_call_of : ℕ → List ℕ → WriteCall
write_call_of result text = record { result = result; text = text }

-- A number and a length as one number; `number_in` is the first of its parts.
abbrev pub with_length : ℕ → ℕ → ℕ
with_length number length = number + 256 * length

abbrev pub length_in : ℕ → ℕ
length_in x = x / 256

-- The bytes are whole commands, each of a number that names one.
abbrev pub is_run : List ℕ → Bool
is_run list = eqb (command_size * length (commands_in list)) (length list)

abbrev pub can_write : List Command → List ℕ → Bool
can_write cs text = leb (length cs) max_commands && all (writable narrow) cs && leb (length (written narrow cs)) (length text)

abbrev pub written_into : List Command → List ℕ → WriteCall
written_into cs text = write_call_of (with_length 0 (length (written narrow cs))) (sets text 0 (written narrow cs))

unfoldable pub write_call : List ℕ → List ℕ → WriteCall
write_call list text =
    cond (is_run list)
    (cond (can_write (commands_in list) text) (written_into (commands_in list) text) (write_call_of not_writable text))
    (write_call_of unreadable text)

abbrev pub DoesWrite : ℕ → List ℕ → WriteCall → Type 0
DoesWrite r text call = (r ≡ call.result) × (text ≡ call.text)
