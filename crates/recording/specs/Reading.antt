-- What each word does at its place, the end of the text, and the whole reading. Definitions only. Assumes nothing.
-- Source: document 01, "The bus monitor's text", in its order; request 1/14, "The first fault in reading order counts".
-- A word means what its place makes it: $end, #0 or b1 may be a code, and $end in the place of a name is another name.
--   read_word r w     the word w; a reader with a fault stays as it is
--   finish n r       the end of a text of n bytes: an open stamp ends, then something may be missing
--   reading t        commands, number and offset; number 0 with the text's length where there is no fault
--   times_of t        the time of the stamp at whose end each command of `reading t` is taken, in their order
use Rattle.std.specs.Prelude.{ℕ, ◌-◌, ◌^◌, min, Bool, true, false, not, ◌&&◌, ◌||◌, cond, length, get_or, ltb, leb, eqb}
use Prim.Native.String.{String}
use Rattle.std.specs.Prelude.{Option, None, Some}
use mathlib.Core.List.{List, [], ◌∷◌, ◌++◌, map, tail}
use Rattle.model.specs.declared.Command.{Command}
use Rattle.recording.specs.declared.Place.{Place}
use Rattle.recording.specs.declared.Place.TheVariants.{Definition, SkipDefinition, Wire, Width, Code, Name, VarEnd, DefinitionsEnd}
use Rattle.recording.specs.declared.Place.TheVariants.{Body, SkipBody, BodyCode, Block, BlockCode}
use Rattle.recording.specs.declared.Signal.{Signal}
use Rattle.recording.specs.declared.Signal.TheVariants.{Stb, Cmd, Core, Arg, Prio}
use Rattle.recording.specs.declared.Reader.{Reader}
use Rattle.recording.specs.declared.Read.{Read}
use Rattle.recording.specs.Words.{is_text, all, any, is_empty, Word, words}
use Rattle.recording.specs.Values.{is_decimal, decimal, is_code, code_of, is_bit, bit_of, value_of, vector_of}
use Rattle.recording.specs.Records.{start, variable, at, with_width, with_code, with_vector, with_value, declaring, with_time, refused}
use Rattle.recording.specs.Records.{read_with, only}
use Rattle.recording.specs.Declarations.{signal_of, first, all_declared, has_code, declares}
use Rattle.recording.specs.Stamps.{not_grammar, bad_variable, not_rising, commands_of, end_open_stamp}

-- After the definitions, and outside a comment, a block and a vector: here a time may stand, and here the text may end.
abbrev pub is_body : Place → Bool
is_body Definition = false
is_body SkipDefinition = false
is_body Wire = false
is_body Width = false
is_body Code = false
is_body Name = false
is_body VarEnd = false
is_body DefinitionsEnd = false
is_body Body = true
is_body SkipBody = false
is_body BodyCode = false
is_body Block = false
is_body BlockCode = false

-- No fault so far.
abbrev pub is_good : Reader → Bool
is_good r = eqb r.fault.number 0

-- The word can't stand at its place.
abbrev pub out_of_place : Word → Reader → Reader
out_of_place w r = refused not_grammar w.at r

-- Only this word may stand here; then the next place.
abbrev pub expected : String → Place → Reader → Word → Reader
expected s next r w = cond (is_text s w.bytes) (at next r) (out_of_place w r)

-- Each is skipped to the next word $end, and this place returned to.
abbrev pub skipping : Place → Reader → Word → Reader
skipping next r w = cond (is_text "$end" w.bytes) (at next r) r

-- ---- definitions

abbrev pub is_skipped : List ℕ → Bool
is_skipped w =
    any (λ s. is_text s w) ("$date" ∷ "$version" ∷ "$comment" ∷ "$timescale" ∷ "$scope" ∷ "$upscope" ∷ [])

unfoldable pub read_definition : Reader → Word → Reader
read_definition r w =
    cond (is_skipped w.bytes) (at SkipDefinition r)
    (cond (is_text "$var" w.bytes) (at Wire r)
    (cond (not (is_text "$enddefinitions" w.bytes)) (out_of_place w r)
    (cond (all_declared r) (at DefinitionsEnd r) (refused bad_variable w.at r))))

-- A width above 255 is held there: it is another width in any case, shown at the name.
unfoldable pub read_width : Reader → Word → Reader
read_width r w = cond (is_decimal w.bytes) (at Code (with_width (min 255 (decimal w.bytes)) r)) (out_of_place w r)

unfoldable pub read_code : Reader → Word → Reader
read_code r w = cond (is_code w.bytes) (at Name (with_code (code_of w.bytes) r)) (out_of_place w r)

-- Width and code are judged here.
unfoldable pub read_name : Option Signal → Reader → Word → Reader
read_name None r w = refused bad_variable w.at r
read_name (Some s) r w = cond (declares r s) (at VarEnd (declaring s r)) (refused bad_variable w.at r)

-- ---- changes

-- b or B, joined to one or more bits.
abbrev pub is_vector : List ℕ → Bool
is_vector w = (eqb (get_or w 0 0) 98 || eqb (get_or w 0 0) 66) && not (is_empty (tail w)) && all is_bit (tail w)

-- A bit joined to the code of stb.
abbrev pub is_scalar : Reader → List ℕ → Bool
is_scalar r w = is_bit (get_or w 0 0) && has_code r (tail w) Stb

-- A change, in a place to which the next word returns; the code of a vector has a place of its own.
unfoldable pub read_change : Place → Place → Reader → Word → Reader
read_change next code_next r w =
    cond (is_vector w.bytes) (at code_next (with_vector (vector_of (tail w.bytes)) r))
    (cond (is_scalar r w.bytes) (at next (with_value Stb (value_of (bit_of (get_or w.bytes 0 0) ∷ [])) r)) (out_of_place w r))

-- The variable that a vector's code names. stb takes no vector.
abbrev pub vector_signal : Reader → List ℕ → Option Signal
vector_signal r w = first (has_code r w) (Cmd ∷ Core ∷ Arg ∷ Prio ∷ [])

-- A vector longer than its variable shows here.
unfoldable pub read_vector_code : Place → Option Signal → Reader → Word → Reader
read_vector_code next None r w = out_of_place w r
read_vector_code next (Some s) r w =
    cond (leb r.pending.vector.length (variable r s).width) (at next (with_value s r.pending.vector.value r))
    (out_of_place w r)

-- ---- times

abbrev pub max_time : ℕ
max_time = 2 ^ 64 - 1

abbrev pub starts_time : List ℕ → Bool
starts_time w = eqb (get_or w 0 0) 35

-- # with decimal digits, up to 2^64 - 1.
abbrev pub is_time : List ℕ → Bool
is_time w = starts_time w && is_decimal (tail w) && leb (decimal (tail w)) max_time

abbrev pub time_of : List ℕ → ℕ
time_of w = decimal (tail w)

-- The first time may be any.
abbrev pub is_later : Reader → ℕ → Bool
is_later r t = not r.stamp.opened || ltb r.stamp.time t

unfoldable pub open_stamp : Reader → Word → Reader
open_stamp r w =
    cond (not (is_time w.bytes)) (out_of_place w r)
    (cond (is_later r (time_of w.bytes)) (with_time (time_of w.bytes) r) (refused not_rising w.at r))

-- A word that starts with # ends the open stamp, also where it is no time itself. A command taken there stands, whatever the word.
unfoldable pub and_then : Read → (Reader → Reader) → Read
and_then a f = cond (is_good a.reader) (read_with (f a.reader) a.strobe) a

unfoldable pub read_time : Reader → Word → Read
read_time r w = and_then (end_open_stamp w.at r) (λ r'. open_stamp r' w)

-- ---- one word

abbrev pub is_dump : List ℕ → Bool
is_dump w = any (λ s. is_text s w) ("$dumpvars" ∷ "$dumpall" ∷ "$dumpon" ∷ "$dumpoff" ∷ [])

unfoldable pub read_body : Reader → Word → Read
read_body r w =
    cond (starts_time w.bytes) (read_time r w)
    (cond (is_text "$comment" w.bytes) (only (at SkipBody r))
    (cond (is_dump w.bytes) (only (at Block r)) (only (read_change Body BodyCode r w))))

unfoldable pub read_block : Reader → Word → Reader
read_block r w = cond (is_text "$end" w.bytes) (at Body r) (read_change Block BlockCode r w)

unfoldable pub read_at : Place → Reader → Word → Read
read_at Definition r w = only (read_definition r w)
read_at SkipDefinition r w = only (skipping Definition r w)
read_at Wire r w = only (expected "wire" Width r w)
read_at Width r w = only (read_width r w)
read_at Code r w = only (read_code r w)
read_at Name r w = only (read_name (signal_of w.bytes) r w)
read_at VarEnd r w = only (expected "$end" Definition r w)
read_at DefinitionsEnd r w = only (expected "$end" Body r w)
read_at Body r w = read_body r w
read_at SkipBody r w = only (skipping Body r w)
read_at BodyCode r w = only (read_vector_code Body (vector_signal r w.bytes) r w)
read_at Block r w = only (read_block r w)
read_at BlockCode r w = only (read_vector_code Block (vector_signal r w.bytes) r w)

unfoldable pub read_word : Reader → Word → Read
read_word r w = cond (is_good r) (read_at r.place r w) (only r)

-- ---- the end of the text

-- Something is missing unless the place is `Body`.
abbrev pub ending : ℕ → Reader → Reader
ending n r = cond (is_body r.place) r (refused not_grammar n r)

unfoldable pub finish : ℕ → Reader → Read
finish n r = cond (is_good r) (and_then (end_open_stamp n r) (ending n)) (only r)

-- ---- the whole reading

-- A reader, and the commands taken so far.
pub record Progress : Type 0 where
  pub reader : Reader
  pub commands : List Command

abbrev pub progress : Reader → List Command → Progress
progress r cs = record { reader = r; commands = cs }

unfoldable pub advance : List Command → Read → Progress
advance cs a = progress a.reader (cs ++ commands_of a.strobe)

unfoldable pub read_words : Progress → List Word → Progress
read_words p [] = p
read_words p (w ∷ ws) = read_words (advance p.commands (read_word p.reader w)) ws

unfoldable pub finished : ℕ → Progress → Progress
finished n p = advance p.commands (finish n p.reader)

pub record Reading : Type 0 where
  pub commands : List Command
  pub number : ℕ
  pub offset : ℕ

abbrev pub reading_with : List Command → ℕ → ℕ → Reading
reading_with commands number offset = record { commands = commands; number = number; offset = offset }

unfoldable pub answered : ℕ → Progress → Reading
answered n p =
    reading_with p.commands p.reader.fault.number (cond (is_good p.reader) n p.reader.fault.offset)

unfoldable pub reading : List ℕ → Reading
reading t = answered (length t) (finished (length t) (read_words (progress start []) (words t)))

-- ---- the times of the commands

-- The time of the stamp that a word ends, for each command that is taken there.
abbrev pub times_at : Reader → Read → List ℕ
times_at r a = map (λ (c : Command). r.stamp.time) (commands_of a.strobe)

unfoldable pub times_from : Reader → List Word → List ℕ
times_from r [] = []
times_from r (w ∷ ws) = times_at r (read_word r w) ++ times_from (read_word r w).reader ws

unfoldable pub times_of : List ℕ → List ℕ
times_of t =
    let last = (read_words (progress start []) (words t)).reader in
    times_from start (words t) ++ times_at last (finish (length t) last)
