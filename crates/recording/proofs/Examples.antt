-- The worked texts say what they are said to say, each list by one computation. Assumes nothing.
--   wholes_say, bodies_say, fulls_say    the three lists
--   meetings_hold, meetings_say          the conditions that hold where faults meet, and the one that is given
--   definitions_declare                  the reader that the second list starts from is that after `definitions`
use Prim.Native.Nat.{ℕ}
use mathlib.Core.Path.{◌≡◌, refl}
use mathlib.Core.List.{List, []}
use Rattle.layout.specs.Commands.{command_of}
use Rattle.recording.specs.Words.{bytes_of, cut, words}
use Rattle.recording.specs.Values.{decimal, code_of, value_of, vector_of}
use Rattle.recording.specs.Records.{start}
use Rattle.recording.specs.Declarations.{declares}
use Rattle.recording.specs.Stamps.{is_readable, strobe_of, commands_of, end_stamp, end_open_stamp}
use Rattle.recording.specs.Reading.{read_definition, read_width, read_code, read_name, read_change, read_vector_code, open_stamp, and_then}
use Rattle.recording.specs.Reading.{read_time, read_body, read_block, read_at, read_word, finish, progress, advance, read_words, finished}
use Rattle.recording.specs.Reading.{answered, reading, Reading}
use Rattle.recording.specs.Faults.{fits_in}
use Rattle.recording.specs.Texts.{trigger4, wholes, definitions, declared, bodies, full, fulls, meetings, reading_from, said, said_by}
use Rattle.recording.specs.Texts.{held, all_held_at, cases_of}

-- To open this name is to open every definition that a reading computes with.
unfoldable pub computed : List ℕ → Reading
unfolding command_of cut decimal code_of value_of vector_of declares is_readable strobe_of commands_of end_stamp end_open_stamp read_definition
    read_width read_code read_name read_change read_vector_code open_stamp and_then read_time read_body read_block read_at read_word finish advance
    read_words finished answered reading reading_from
computed = reading

pub wholes_say : said_by reading wholes ≡ said wholes
unfolding computed trigger4 wholes
wholes_say = refl

pub definitions_declare : read_words (progress start []) (words (bytes_of definitions)) ≡ progress declared []
unfolding computed definitions declared
definitions_declare = refl

pub bodies_say : said_by (reading_from declared) bodies ≡ said bodies
unfolding computed declared bodies
bodies_say = refl

pub fulls_say : said_by (reading_from full) fulls ≡ said fulls
unfolding computed full fulls
fulls_say = refl

pub meetings_hold : all_held_at meetings ≡ held meetings
unfolding computed fits_in full meetings
meetings_hold = refl

pub meetings_say : said_by (reading_from full) (cases_of meetings) ≡ said (cases_of meetings)
unfolding computed full meetings
meetings_say = refl
