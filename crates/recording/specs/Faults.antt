-- When each fault is shown: a line for each number, and their order. Definitions only. Assumes nothing.
-- Source: request 1/14, numbers 11, 12, 13, 14 and 19, "at one place in the order 13, 19, 11, 12, 14".
-- Every reading shows exactly these faults (`FaultsExact`).
--   fault_at r w       the fault of a reader without one after the word w, at the word's offset; none: the reader's own
--   fault_at_end n r    the same at the end of a text of n bytes, at n
use Rattle.std.specs.Prelude.{ℕ, List, Bool, true, false, not, ◌&&◌, ◌||◌, cond, leb}
use Rattle.std.specs.Prelude.{Option, None, Some}
use Rattle.recording.specs.declared.Place.{Place}
use Rattle.recording.specs.declared.Place.TheVariants.{Definition, SkipDefinition, Wire, Width, Code, Name, VarEnd, DefinitionsEnd}
use Rattle.recording.specs.declared.Place.TheVariants.{Body, SkipBody, BodyCode, Block, BlockCode}
use Rattle.recording.specs.declared.Signal.{Signal}
use Rattle.recording.specs.declared.Fault.{Fault}
use Rattle.recording.specs.declared.Reader.{Reader}
use Rattle.recording.specs.declared.Strobe.{Strobe}
use Rattle.recording.specs.Words.{is_text, Word}
use Rattle.recording.specs.Values.{is_decimal, is_code}
use Rattle.recording.specs.Records.{variable, fault_with}
use Rattle.recording.specs.Declarations.{signal_of, all_declared, declares}
use Rattle.recording.specs.Stamps.{max_commands, level, rises, is_readable, strobe_of}
use Rattle.recording.specs.Reading.{is_body, is_skipped, is_vector, is_scalar, vector_signal, starts_time, is_time, time_of, is_later, is_dump}

-- ---- 13 and 19, where a stamp ends

-- A word that starts with # where a time may stand.
abbrev pub ends_stamp : Reader → Word → Bool
ends_stamp r w = is_body r.place && starts_time w.bytes && r.stamp.opened

-- An x or z in stb, or at a strobe in cmd or a value that the command uses.
abbrev pub unclear : Reader → Bool
unclear r = not (level r).known || (rises r && not (is_readable r))

-- A strobe after the 65,535th command.
abbrev pub excessive : Reader → Bool
excessive r = rises r && leb max_commands r.taken

-- ---- 11: the word can't stand at its place

abbrev pub takes_vector : Option Signal → Reader → Bool
takes_vector None r = false
takes_vector (Some s) r = leb r.pending.vector.length (variable r s).width

abbrev pub is_change : Reader → List ℕ → Bool
is_change r w = is_vector w || is_scalar r w

unfoldable pub fits_in : Place → Reader → List ℕ → Bool
fits_in Definition r w = is_skipped w || is_text "$var" w || is_text "$enddefinitions" w
fits_in SkipDefinition r w = true
fits_in Wire r w = is_text "wire" w
fits_in Width r w = is_decimal w
fits_in Code r w = is_code w
fits_in Name r w = true
fits_in VarEnd r w = is_text "$end" w
fits_in DefinitionsEnd r w = is_text "$end" w
fits_in Body r w = cond (starts_time w) (is_time w) (is_text "$comment" w || is_dump w || is_change r w)
fits_in SkipBody r w = true
fits_in BodyCode r w = takes_vector (vector_signal r w) r
fits_in Block r w = is_text "$end" w || is_change r w
fits_in BlockCode r w = takes_vector (vector_signal r w) r

-- ---- 12: at the name, or at $enddefinitions

abbrev pub is_declared : Option Signal → Reader → Bool
is_declared None r = false
is_declared (Some s) r = declares r s

unfoldable pub declares_well : Place → Reader → List ℕ → Bool
declares_well Definition r w = is_skipped w || is_text "$var" w || all_declared r
declares_well SkipDefinition r w = true
declares_well Wire r w = true
declares_well Width r w = true
declares_well Code r w = true
declares_well Name r w = is_declared (signal_of w) r
declares_well VarEnd r w = true
declares_well DefinitionsEnd r w = true
declares_well Body r w = true
declares_well SkipBody r w = true
declares_well BodyCode r w = true
declares_well Block r w = true
declares_well BlockCode r w = true

-- ---- 14: a time not above the one before

abbrev pub is_late : Reader → List ℕ → Bool
is_late r w = is_body r.place && starts_time w && not (is_later r (time_of w))

-- ---- the order

unfoldable pub fault_at : Reader → Word → Fault
fault_at r w =
    cond (ends_stamp r w && unclear r) (fault_with 13 w.at)
    (cond (ends_stamp r w && excessive r) (fault_with 19 w.at)
    (cond (not (fits_in r.place r w.bytes)) (fault_with 11 w.at)
    (cond (not (declares_well r.place r w.bytes)) (fault_with 12 w.at)
    (cond (is_late r w.bytes) (fault_with 14 w.at) r.fault))))

unfoldable pub fault_at_end : ℕ → Reader → Fault
fault_at_end n r =
    cond (r.stamp.opened && unclear r) (fault_with 13 n)
    (cond (r.stamp.opened && excessive r) (fault_with 19 n)
    (cond (not (is_body r.place)) (fault_with 11 n) r.fault))

-- The command taken where a stamp ends: at a strobe with neither 13 nor 19, whatever else the word is.
unfoldable pub taken_at : Bool → Reader → Option Strobe
taken_at ends r = cond (ends && rises r && not (unclear r) && not (excessive r)) (Some (strobe_of r)) None
