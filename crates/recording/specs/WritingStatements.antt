-- What is claimed of written recordings, and of the call that writes them. Propositions only; each is proved in the crate `writings`.
-- Assumes nothing.
-- Source: request 6/14.
--   DigitsExact           the digits of a number in a base, and that no other list is
--   WrittenIsRead         a written run is read back, command by command
--   WrittenTimes          command i is taken in stamp 2 i
--   RecordedFits          what was read can be written, and RewrittenReplays: it is replayed as before
--   WrittenBounded        how much a host has to lend at most
--   WriteRefusalsExact    15 exactly when the request says, 255 exactly for a list that isn't whole commands
--   WriteTells            what the call leaves in the buffer, and that it is read back
--   WriteThenRead         the two calls for hosts, one after the other: what the one has written the other reads back
use Rattle.std.specs.Prelude.{ℕ, ◌+◌, ◌*◌, ◌%◌, ◌^◌, ◌<◌, ◌≤◌, ◌≡◌, ◌↔◌, ◌≢◌, true, length, get_or, take, drop}
use mathlib.Core.List.{List, [], ◌∷◌, Memᴰ}
use Rattle.std.proofs.lemmas.List.Edits.{sets}
use Rattle.lists.specs.Rows.{joined, tabulated}
use Rattle.model.specs.declared.SourceId.{SourceId}
use Rattle.model.specs.declared.CoreId.{CoreId}
use Rattle.model.specs.declared.SourceAction.{SourceAction}
use Rattle.model.specs.declared.SourceAction.TheVariants.{SetSourcePriority}
use Rattle.model.specs.declared.CoreAction.{CoreAction}
use Rattle.model.specs.declared.CoreAction.TheVariants.{SetCorePriority}
use Rattle.model.specs.declared.Command.{Command}
use Rattle.model.specs.declared.Command.TheVariants.{OnSource, OnCore}
use Rattle.layout.specs.Bytes.{command_size, command_bytes, commands_in, number_in}
use Rattle.recording.specs.declared.Signal.TheVariants.{Core, Arg, Prio}
use Rattle.recording.specs.Words.{all}
use Rattle.recording.specs.Values.{numeral}
use Rattle.recording.specs.Declarations.{Form, narrow, forms, width_in}
use Rattle.recording.specs.Stamps.{max_commands}
use Rattle.recording.specs.Reading.{reading_with, reading, times_of}
use Rattle.recording.specs.Replay.{replayed}
use Rattle.recording.specs.Writing.{digits, definition_text, written, writable}
use Rattle.recording.specs.Calls.{report_with, read_call_of, fits_read, read_call, WriteCall, length_in, write_call}

-- ---- digits

-- The digits of x in a base, highest first.
pub record Digits (base x : ℕ) (ds : List ℕ) : Type 0 where
  pub some_digit : 0 < length ds
  pub below : (d : ℕ) → Memᴰ d ds → d < base
  pub spell : numeral base 0 ds ≡ x
  -- the first is 0 only where it is the only one
  pub no_leading_zero : get_or ds 0 0 ≡ 0 → ds ≡ 0 ∷ []
  -- no more of them than a width has room for
  pub within : (width : ℕ) → 0 < width → x < base ^ width → length ds ≤ width

-- In any base of two or more; no other list has these properties. Binary and decimal are two instances.
abbrev pub DigitsExact : Type 0
DigitsExact = (base x : ℕ) (ds : List ℕ) → 2 ≤ base → Digits base x ds ↔ (ds ≡ digits base x)

-- ---- reading back

-- A run that can be written in this form: a form of recordings, at most 65,535 commands, and each used value fits its variable.
pub record Fits (f : Form) (cs : List Command) : Type 0 where
  pub listed : Memᴰ f forms
  pub count : length cs ≤ max_commands
  pub values : all (writable f) cs ≡ true

-- "Reading it gives the same commands in the same order", and no fault up to the text's end.
abbrev pub WrittenIsRead : Type 0
WrittenIsRead = (f : Form) (cs : List Command) → Fits f cs → reading (written f cs) ≡ reading_with cs 0 (length (written f cs))

-- Command i, counted from 0, is taken at the end of stamp 2 i.
abbrev pub WrittenTimes : Type 0
WrittenTimes = (f : Form) (cs : List Command) → Fits f cs → times_of (written f cs) ≡ tabulated (length cs) (λ i. 2 * i)

-- "Write a replayed run": the commands of every recording can be written, so that only a buffer that is too short is refused.
abbrev pub RecordedFits : Type 0
RecordedFits = (t : List ℕ) → Fits narrow (reading t).commands

-- Written anew, a recording is replayed to the same state, with the same answers.
abbrev pub RewrittenReplays : Type 0
RewrittenReplays =
    (n m : ℕ) (t : List ℕ) →
    let again = replayed n m (written narrow (reading t).commands) in
    (again.state ≡ (replayed n m t).state) × (again.answers ≡ (replayed n m t).answers)

-- The longest command is set source priority, with id and priority as wide as their variables and times of six digits: 57 bytes where
-- arg has 8 and prio has 9.
abbrev pub WrittenBounded : Type 0
WrittenBounded =
    (f : Form) (cs : List Command) → Fits f cs →
    length (written f cs) ≤ length (definition_text f) + (40 + (f.arg + f.prio)) * length cs

-- ---- the call for hosts

-- A value that the command uses is too large for its variable. What it doesn't use isn't looked at.
pub data TooLarge (f : Form) : Command → Type 0 where
  source_id : (id : SourceId) (a : SourceAction) → 2 ^ width_in f Arg ≤ id.0 → TooLarge f (OnSource id a)
  source_priority : (id : SourceId) (p : ℕ) → 2 ^ width_in f Prio ≤ p → TooLarge f (OnSource id (SetSourcePriority p))
  core_number : (k : CoreId) (a : CoreAction) → 2 ^ width_in f Core ≤ k.0 → TooLarge f (OnCore k a)
  core_priority : (k : CoreId) (p : ℕ) → 2 ^ width_in f Prio ≤ p → TooLarge f (OnCore k (SetCorePriority p))

-- "A run of over 65,535 commands, a used value too large for its variable or a full text longer than the lent buffer", of so many bytes.
pub data Unwritable (f : Form) (cs : List Command) (room : ℕ) : Type 0 where
  too_many : 65535 < length cs → Unwritable f cs room
  too_large : (c : Command) → Memᴰ c cs → TooLarge f c → Unwritable f cs room
  too_long : room < length (written f cs) → Unwritable f cs room

-- The bytes aren't whole commands: their end is cut, or a number above 7 stands where a command begins.
pub data NoRun (list : List ℕ) : Type 0 where
  cut_end : length list % command_size ≢ 0 → NoRun list
  no_command : (i : ℕ) → command_size * i < length list → 7 < get_or list (command_size * i) 0 → NoRun list

-- Bytes that aren't commands are no run, and so never 15; "nothing else is" refused by 15.
abbrev pub WriteRefusalsExact : Type 0
WriteRefusalsExact =
    (list text : List ℕ) →
    let number = number_in (write_call list text).result in
    ((number ≡ 255) ↔ NoRun list) ×
    ((number ≡ 15) ↔ ((¬ NoRun list) × Unwritable narrow (commands_in list) (length text))) ×
    Memᴰ number (0 ∷ 15 ∷ 255 ∷ [])

-- What an accepted call has answered, and left in the lent buffer.
pub record TellsWriting (list text : List ℕ) (call : WriteCall) : Type 0 where
  -- the text, as long as the call tells, and then what was there before
  pub long : length_in call.result ≡ length (written narrow (commands_in list))
  pub front : take (length_in call.result) call.text ≡ written narrow (commands_in list)
  pub rest : drop (length_in call.result) call.text ≡ drop (length_in call.result) text
  -- what was written is read back: the commands of the list, without a fault, command i at the time 2 i
  pub read_back : reading (take (length_in call.result) call.text) ≡ reading_with (commands_in list) 0 (length_in call.result)
  pub times : times_of (take (length_in call.result) call.text) ≡ tabulated (length (commands_in list)) (λ i. 2 * i)

-- A refused call leaves the buffer as it was lent, and tells a length of 0; any call keeps the buffer's length.
abbrev pub WriteTells : Type 0
WriteTells =
    (list text : List ℕ) →
    let call = write_call list text in
    (number_in call.result ≡ 0 → TellsWriting list text call) ×
    (number_in call.result ≢ 0 → (call.text ≡ text) × (length_in call.result ≡ 0)) × (length call.text ≡ length text)

-- What the one call has written is lent to the other, with buffers that have room: it answers no fault, as many commands, and the text's
-- length, and writes the list's commands, and 2 i as the time of command i.
abbrev pub WriteThenRead : Type 0
WriteThenRead =
    (list text commands times : List ℕ) →
    let wrote = write_call list text in
    let t = take (length_in wrote.result) wrote.text in
    let cs = commands_in list in
    number_in wrote.result ≡ 0 → fits_read t commands times ≡ true →
    read_call t commands times ≡ read_call_of (report_with 0 (length cs) (length_in wrote.result)) (sets commands 0 (joined command_bytes cs))
    (sets times 0 (tabulated (length cs) (λ i. 2 * i)))
