-- What is claimed of the readings. Propositions only; each is proved in the crate `readings`, those of the replay and of the calls in
-- `theorems`. Assumes nothing.
-- Source: document 01, "The bus monitor's text"; request 1/14.
use Rattle.std.specs.Prelude.{ℕ, suc, ◌+◌, ◌*◌, ◌<◌, ◌≤◌, ◌≡◌, ◌↔◌, ◌≢◌, Bool, true, false, ◌&&◌, length, get_or, take}
use mathlib.Core.List.{List, [], ◌∷◌, ◌++◌, map, Memᴰ}
use Rattle.recording.specs.Reading.{is_body, is_good, starts_time, is_time, time_of, read_word, finish, Progress, progress, read_words}
use Rattle.recording.specs.Reading.{finished, reading_with, reading, times_of}
use Rattle.model.specs.Records.{reset}
use Rattle.model.specs.Statements.{InRange}
use Rattle.layout.specs.Bytes.{command_size, commands_in, RunCall, run_call_of}
use Rattle.layout.specs.CallStatements.{Strict}
use Rattle.recording.specs.declared.Reader.{Reader}
use Rattle.recording.specs.Words.{separator, Word, words}
use Rattle.recording.specs.Values.{Bit, bx, bz, bit_number, numeral, extended, value_of}
use Rattle.recording.specs.Records.{start}
use Rattle.recording.specs.Faults.{ends_stamp, fault_at, fault_at_end, taken_at}
use Rattle.recording.specs.Replay.{replay_with, replay_from, replayed}
use Rattle.recording.specs.Calls.{ReadCall, read_call, ReplayCall, replay_call}
use Rattle.recording.specs.Grammar.{Definitions}

-- ---- words

-- The word is a longest run of bytes of t that are no separators, and stands where it says.
pub record Run (t : List ℕ) (w : Word) : Type 0 where
  pub some_byte : 0 < length w.bytes
  pub inside : w.at + length w.bytes ≤ length t
  pub here : (i : ℕ) → i < length w.bytes → get_or w.bytes i 0 ≡ get_or t (w.at + i) 0
  pub no_separator : (i : ℕ) → i < length w.bytes → separator (get_or w.bytes i 0) ≡ false
  pub begins : (i : ℕ) → suc i ≡ w.at → separator (get_or t i 0) ≡ true
  pub ends : w.at + length w.bytes < length t → separator (get_or t (w.at + length w.bytes) 0) ≡ true

-- Each word stands before the next.
pub data Rising : List Word → Type 0 where
  none : Rising []
  one : (w : Word) → Rising (w ∷ [])
  more : (v w : Word) (ws : List Word) → v.at < w.at → Rising (w ∷ ws) → Rising (v ∷ w ∷ ws)

-- The words of a text are exactly its longest runs of bytes that are no separators, each once, first to last.
abbrev pub WordsExact : Type 0
WordsExact = (t : List ℕ) → ((w : Word) → Memᴰ w (words t) ↔ Run t w) × Rising (words t)

-- ---- values

-- A vector of at least one bit and no longer than its variable, extended to the variable's width.
pub record Extension (width : ℕ) (bs : List Bit) : Type 0 where
  pub long : length (extended width bs) ≡ width
  -- the value is that of the bits given
  pub same : value_of (extended width bs) ≡ value_of bs
  -- it isn't known exactly if they hold an x or z
  pub known : ((value_of bs).known ≡ true) ↔ ((b : Bit) → Memᴰ b bs → (b ≢ bx) × (b ≢ bz))
  -- a number of at most 16 bits is not held
  pub number : length bs ≤ 16 → (value_of bs).known ≡ true → (value_of bs).number ≡ numeral 2 0 (map bit_number bs)

abbrev pub ExtensionValue : Type 0
ExtensionValue = (width : ℕ) (bs : List Bit) → 0 < length bs → length bs ≤ width → Extension width bs

-- ---- faults and commands

-- Each number is shown exactly when its condition says, no earlier one holding, at the offset of the word or of the text's end.
abbrev pub FaultsExact : Type 0
FaultsExact =
    (r : Reader) → is_good r ≡ true →
    ((w : Word) → (read_word r w).reader.fault ≡ fault_at r w) × ((n : ℕ) → (finish n r).reader.fault ≡ fault_at_end n r)

-- A command is taken exactly where a stamp ends with a strobe and neither 13 nor 19, also at the word of another fault.
abbrev pub StrobesExact : Type 0
StrobesExact =
    (r : Reader) → is_good r ≡ true →
    ((w : Word) → (read_word r w).strobe ≡ taken_at (ends_stamp r w) r) × ((n : ℕ) → (finish n r).strobe ≡ taken_at r.stamp.opened r)

-- The reader, and the commands taken, after some words from the start.
abbrev pub after_words : List Word → Progress
after_words ws = read_words (progress start []) ws

-- The words of a text, read to the last.
abbrev pub up_to : List ℕ → Progress
up_to t = after_words (words t)

-- What follows a fault changes nothing, whatever it is.
abbrev pub FaultIsFinal : Type 0
FaultIsFinal =
    (t u : List ℕ) (b : ℕ) → separator b ≡ true → is_good (up_to t).reader ≡ false →
    reading (t ++ (b ∷ u)) ≡ reading_with (up_to t).commands (up_to t).reader.fault.number (up_to t).reader.fault.offset

-- A word of the text stands at this offset, or the text ends there.
pub data Shown (t : List ℕ) (offset : ℕ) : Type 0 where
  at_word : (w : Word) → Memᴰ w (words t) → w.at ≡ offset → Shown t offset
  at_end : length t ≡ offset → Shown t offset

-- The number of a fault is one of five, and it is shown at a word or at the text's end; without a fault the offset is the text's length.
abbrev pub FaultsShown : Type 0
FaultsShown =
    (t : List ℕ) →
    Memᴰ (reading t).number (0 ∷ 11 ∷ 12 ∷ 13 ∷ 14 ∷ 19 ∷ []) × Shown t (reading t).offset ×
    ((reading t).number ≡ 0 → (reading t).offset ≡ length t)

abbrev pub AtMost65535 : Type 0
AtMost65535 = (t : List ℕ) → length (reading t).commands ≤ 65535

-- Every strobe that is taken gives a command: cmd has three bits, and each of its eight numbers names one.
abbrev pub CommandsTaken : Type 0
CommandsTaken = (t : List ℕ) → length (reading t).commands ≡ (finished (length t) (up_to t)).reader.taken

-- No more commands than bytes: so many have room in what a host lends.
abbrev pub NoMoreThanBytes : Type 0
NoMoreThanBytes = (t : List ℕ) → length (reading t).commands ≤ length t

-- ---- the times of the commands

-- After the words ws this word starts with # where a time may stand.
abbrev pub stands_as_time : List Word → Word → Bool
stands_as_time ws w = is_body (after_words ws).reader.place && starts_time w.bytes

-- The last time among the words ws is x: one of them stands as a time and spells x, and none behind it stands as a time.
pub record LastTime (ws : List Word) (x : ℕ) : Type 0 where
  pub before : List Word
  pub word : Word
  pub behind : List Word
  pub split : ws ≡ before ++ (word ∷ behind)
  pub stands : stands_as_time before word ≡ true
  pub spells : (is_time word.bytes ≡ true) × (time_of word.bytes ≡ x)
  pub no_other : (us vs : List Word) (v : Word) → behind ≡ us ++ (v ∷ vs) → stands_as_time (before ++ (word ∷ us)) v ≡ false

-- Command i of a text, counted from 0, is taken after the words ws: at the next word, or at the text's end.
pub data TakenAfter (t : List ℕ) (i : ℕ) (ws : List Word) : Type 0 where
  next_word : (w : Word) (rest : List Word) → words t ≡ ws ++ (w ∷ rest) → length (after_words ws).commands ≡ i →
      length (after_words (ws ++ (w ∷ []))).commands ≡ suc i → TakenAfter t i ws
  text_end : words t ≡ ws → length (after_words ws).commands ≡ i → length (reading t).commands ≡ suc i → TakenAfter t i ws

-- These are the times of a text's commands.
pub record Timed (t times : List ℕ) : Type 0 where
  -- one for each command
  pub each : length times ≡ length (reading t).commands
  -- the last time that was read before the word, or the text's end, at which the command is taken
  pub last : (i : ℕ) → i < length times → (ws : List Word) × TakenAfter t i ws × LastTime ws (get_or times i 0)
  -- a later command has a later time
  pub rising : (i j : ℕ) → i < j → j < length times → get_or times i 0 < get_or times j 0

-- No other list has these properties, so that they leave nothing open.
abbrev pub TimesExact : Type 0
TimesExact = (t times : List ℕ) → Timed t times ↔ (times ≡ times_of t)

-- ---- the grammar

-- A text read without a fault is derived by the grammar, and a derived text shows neither 11 nor 12. Of what follows a 13, 14 or 19
-- nothing is said: the reading ended there.
abbrev pub GrammarExact : Type 0
GrammarExact =
    (t : List ℕ) →
    ((reading t).number ≡ 0 → Definitions [] (words t)) ×
    (Definitions [] (words t) → ((reading t).number ≢ 11) × ((reading t).number ≢ 12))

-- ---- the replay

-- For sizes in range the number and offset of the reading, the state after its commands from a fresh controller, and an answer for
-- each command; else 2 at offset 0, whatever the text.
pub record Replays (n m : ℕ) (t : List ℕ) : Type 0 where
  pub inside : InRange n m → replayed n m t ≡ replay_from (reset n m) (reading t)
  pub outside : ¬ InRange n m → replayed n m t ≡ replay_with 2 0 (reset 1 1) []
  pub answered : InRange n m → length (replayed n m t).answers ≡ length (reading t).commands

abbrev pub ReplayExact : Type 0
ReplayExact = (n m : ℕ) (t : List ℕ) → Replays n m t

-- ---- the calls for hosts

-- The reading's commands, and their times, are read back from what a call has answered and written.
pub record TellsReading (t : List ℕ) (call : ReadCall) : Type 0 where
  pub counted : call.report.count ≡ length (reading t).commands
  pub commands : commands_in (take (command_size * call.report.count) call.commands) ≡ (reading t).commands
  pub times : take call.report.count call.times ≡ times_of t

-- Of any text and any buffers, unless they are refused by 255.
abbrev pub ReadTells : Type 0
ReadTells =
    (t commands times : List ℕ) → (read_call t commands times).report.number ≢ 255 → TellsReading t (read_call t commands times)

-- What a replay's call has answered and written, as a run of commands: how many, the state's bytes, and the answers' bytes.
abbrev pub as_run : ReplayCall → RunCall
as_run call = run_call_of call.report.count call.bytes call.answers

-- Demand 3 of a replay that isn't refused by 2 or 255, whatever the text: also where a fault ended its reading. The ledger is kept from the
-- reading's commands and from the answers' bytes, and the state is read from the bytes handed back.
abbrev pub ReplayStrict : Type 0
ReplayStrict =
    (n m : ℕ) (t b answers : List ℕ) →
    let call = replay_call n m t b answers in
    call.report.number ≢ 2 → call.report.number ≢ 255 → Strict n m (reading t).commands (as_run call)
