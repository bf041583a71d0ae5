-- Worked texts: what a recording says, text by text. Definitions only; that the reading says so is computed in proofs/Examples.antt.
-- Source: document 01's own text, and a text for each sentence of its last section and for each number of request 1/14.
--   trigger4       document 01's text for trigger 4
--   wholes         texts from their first byte on
--   bodies         texts that go on after `definitions`, offsets counted from there
--   fulls          the same after 65,535 commands
--   meetings       words at which the conditions of 13, 19, 11 and 14 hold together: the first in this order is given
use Rattle.std.specs.Prelude.{ℕ, List, [], ◌∷◌, Bool, true, false, not, ◌&&◌, length}
use Prim.Native.String.{String, ◌++◌}
use Rattle.model.specs.declared.Command.{Command}
use Rattle.model.specs.declared.Command.TheVariants.{OnSource, OnCore}
use Rattle.model.specs.declared.SourceAction.TheVariants.{SetSourcePriority, Trigger}
use Rattle.model.specs.declared.CoreAction.TheVariants.{Claim}
use Rattle.model.specs.Records.{source_id, core_id}
use Rattle.recording.specs.declared.Place.TheVariants.{Body}
use Rattle.recording.specs.declared.Reader.{Reader}
use Rattle.recording.specs.Words.{bytes_of, Word, word_with, words}
use Rattle.recording.specs.Values.{value, unknown, vector_with}
use Rattle.recording.specs.Records.{variable_with, variables_with, pending_with, stamp_with, fault_with, reader_with, with_taken}
use Rattle.recording.specs.Reading.{progress, read_words, finished, Reading, reading_with, answered}
use Rattle.recording.specs.Faults.{ends_stamp, unclear, excessive, fits_in, is_late}

pub record Case : Type 0 where
  pub text : String
  pub says : Reading

case : String → List Command → ℕ → ℕ → Case
case text commands number offset = record { text = text; says = reading_with commands number offset }

trigger : ℕ → Command
trigger id = OnSource (source_id id) Trigger

-- ---- document 01's text

unfoldable pub trigger4 : String
trigger4 =
    "$timescale 1 ns $end\n$scope module psic $end\n" ++
    "$var wire 1 ! stb $end\n$var wire 3 \" cmd $end\n$var wire 5 # core $end\n$var wire 8 $ arg $end\n$var wire 9 % prio $end\n" ++
    "$upscope $end\n$enddefinitions $end\n#0\nb100 \"\nb0 #\nb100 $\nb0 %\n1!\n#1\n0!\n"

-- ---- texts from their first byte on

unfoldable pub wholes : List Case
unfolding case trigger
wholes =
    case trigger4 (trigger 4 ∷ []) 0 233 ∷
    -- nothing; separators alone; a word that can't stand there; the text's end inside something to skip
    case "" [] 11 0 ∷
    case " \t\r\n" [] 11 4 ∷
    case "$end" [] 11 0 ∷
    case "$date #0 $var" [] 11 13 ∷
    -- in a declaration the words are judged in their order; width, code and name at the name
    case "$var reg" [] 11 5 ∷
    case "$var wire 1x" [] 11 10 ∷
    case "$var wire 1 !!!!!" [] 11 12 ∷
    case "$var wire 2 ! stb" [] 12 14 ∷
    case "$var wire 257 ! stb" [] 12 16 ∷
    case "$var wire 1 ! STB" [] 12 14 ∷
    case "$var wire 1 ! $end" [] 12 14 ∷
    case "$var wire 01 ! stb [0:0]" [] 11 19 ∷
    case "$var wire 1 ! stb $end $var wire 1 # stb" [] 12 37 ∷
    case "$var wire 1 ! stb $end $var wire 3 ! cmd" [] 12 37 ∷
    -- a missing variable shows at $enddefinitions
    case "$var wire 1 ! stb $end $enddefinitions $end" [] 12 23 ∷
    -- codes that look like other words, one the beginning of another: a word means what its place makes it
    case
    ("$var wire 1 # stb $end $var wire 3 #0 cmd $end $var wire 5 b1 core $end $var wire 8 $end arg $end " ++
    "$var wire 9 ## prio $end $enddefinitions $end #7 $dumpvars b100 #0 b11 $end 1# $end")
    (trigger 3 ∷ []) 0 181 ∷ []

-- ---- texts that go on after the definitions

unfoldable pub definitions : String
definitions =
    "$var wire 1 ! stb $end $var wire 3 \" cmd $end $var wire 5 # core $end $var wire 8 $ arg $end $var wire 9 % prio $end " ++
    "$enddefinitions $end "

-- The reader after them. A code of one byte spells that byte.
unfoldable pub declared : Reader
declared =
    reader_with Body (pending_with 9 37 (vector_with 0 unknown))
    (variables_with (variable_with 33 1 (value true 0)) (variable_with 34 3 unknown) (variable_with 35 5 unknown)
    (variable_with 36 8 unknown) (variable_with 37 9 unknown))
    (stamp_with false 0 false) 0 (fault_with 0 0)

unfoldable pub bodies : List Case
unfolding case trigger
bodies =
    -- no time: no stamp, so no command; changes before the first time carry into it
    case "b100 \" b100 $ 1!" [] 0 16 ∷
    case "b100 \" b100 $ 1! #3" (trigger 4 ∷ []) 0 19 ∷
    -- the values are those at the end of the stamp, also where they are given after stb
    case "#0 1! b100 \" b11 $ b101 $ #1" (trigger 5 ∷ []) 0 28 ∷
    -- stb 1 at the end of two stamps in a row: one command, also if it fell and rose within the second
    case "#0 b100 \" b100 $ 1! #1 0! 1! #2" (trigger 4 ∷ []) 0 31 ∷
    case "#0 b100 \" b100 $ 1! #1 0! #2 1!" (trigger 4 ∷ trigger 4 ∷ []) 0 31 ∷
    case "#0 b100 \" b100 $ 1! 0! #1" [] 0 25 ∷
    -- capitals in values; a shorter vector extended by zeros, x or z
    case "#0 B0 \" B11 $ B111 % 1!" (OnSource (source_id 3) (SetSourcePriority 7) ∷ []) 0 23 ∷
    case "#0 bX1 \" 1!" [] 13 11 ∷
    case "#0 bz \" 1!" [] 13 10 ∷
    -- 13: stb at the end of a stamp, or at a strobe cmd or a value that the command uses; arg and prio are nothing to a claim
    case "#0 X! #1" [] 13 6 ∷
    case "#0 1! #1" [] 13 6 ∷
    case "#0 b0 \" b1 $ 1! #1" [] 13 16 ∷
    case "#0 b100 \" 1! #1" [] 13 13 ∷
    case "#0 b101 \" b11111 # 1! #1" (OnCore (core_id 31) Claim ∷ []) 0 24 ∷
    -- values go to the controller as read, ids that it will refuse too
    case "#0 b100 \" b0 $ 1! #1 0! #2 b11111111 $ 1!" (trigger 0 ∷ trigger 255 ∷ []) 0 41 ∷
    -- 11: a word that can't stand there; a code of no variable, or of the wrong kind; too long a vector, shown at its code
    case "#0 $end" [] 11 3 ∷
    case "b1 &" [] 11 3 ∷
    case "b1 !" [] 11 3 ∷
    case "1\"" [] 11 0 ∷
    case "b2 \"" [] 11 0 ∷
    case "b0000 \"" [] 11 6 ∷
    case "#18446744073709551616" [] 11 0 ∷
    case "#018446744073709551615 #" [] 11 23 ∷
    -- a # in a block ends no stamp: the command is not taken
    case "#0 b100 \" b100 $ 1! $dumpvars #1" [] 11 30 ∷
    -- 14: the same time again
    case "#5 #5" [] 14 3 ∷
    case "#5 #05 #6" [] 14 3 ∷
    -- at one word 13 comes before 11 and 14; a command taken at the word of a fault stands
    case "#5 x! #x" [] 13 6 ∷
    case "#5 x! #5" [] 13 6 ∷
    case "#5 b100 \" b100 $ 1! #x" (trigger 4 ∷ []) 11 20 ∷
    case "#5 b100 \" b100 $ 1! #5" (trigger 4 ∷ []) 14 20 ∷
    -- the text's end: the open stamp ends first, then something is missing
    case "#0 b100 \" b100 $ 1! $dumpoff 1!" (trigger 4 ∷ []) 11 31 ∷
    case "#0 b100 \" b100 $ 1! $comment 0!" (trigger 4 ∷ []) 11 31 ∷
    case "#0 b100 \" b100 $ 1! b1" (trigger 4 ∷ []) 11 22 ∷
    case "#0 x! $dumpon" [] 13 13 ∷ []

-- ---- after 65,535 commands

unfoldable pub full : Reader
unfolding declared
full = with_taken 65535 declared

-- 19 after 13, before 11 and 14; without a strobe nothing is too many.
unfoldable pub fulls : List Case
unfolding case
fulls =
    case "#5 b100 \" b100 $ 1! #6" [] 19 20 ∷
    case "#5 b100 \" b100 $ 1! #x" [] 19 20 ∷
    case "#5 b100 \" b100 $ 1! #5" [] 19 20 ∷
    case "#5 b100 \" bx $ 1! #6" [] 13 18 ∷
    case "#5 b100 \" b100 $ #6 $comment 1! $end" [] 0 36 ∷ []

-- ---- where four faults meet

-- The conditions of 13, 19, 11 and 14, in this order: which of them hold of a reader at a word.
abbrev pub conditions : Reader → Word → List Bool
conditions r w =
    (ends_stamp r w && unclear r) ∷
    (ends_stamp r w && excessive r) ∷ not (fits_in r.place r w.bytes) ∷ is_late r w.bytes ∷ []

-- A text that ends in the word, read after 65,535 commands: the conditions at that word, and what the whole says.
pub record Meeting : Type 0 where
  pub before : String
  pub word : String
  pub hold : List Bool
  pub says : Reading

meeting : String → String → List Bool → ℕ → ℕ → Meeting
meeting before word hold number offset = record { before = before; word = word; hold = hold; says = reading_with [] number offset }

-- An x in the id of a trigger, after the last command, at a # without digits, whose number would be 0 and not above 5: all four hold, and
-- 13 is given. Without the x it is 19; without the strobe 11; at a time that is one 14; and at a later one nothing.
unfoldable pub meetings : List Meeting
unfolding meeting
meetings =
    meeting "#5 b100 \" bx $ 1! " "#" (true ∷ true ∷ true ∷ true ∷ []) 13 18 ∷
    meeting "#5 b100 \" b1 $ 1! " "#" (false ∷ true ∷ true ∷ true ∷ []) 19 18 ∷
    meeting "#5 b100 \" b1 $ 0! " "#" (false ∷ false ∷ true ∷ true ∷ []) 11 18 ∷
    meeting "#5 b100 \" b1 $ 0! " "#5" (false ∷ false ∷ false ∷ true ∷ []) 14 18 ∷
    meeting "#5 b100 \" b1 $ 0! " "#6" (false ∷ false ∷ false ∷ false ∷ []) 0 20 ∷ []

-- ---- what is computed

-- A text read by a reader that stands at its first byte.
unfoldable pub reading_from : Reader → List ℕ → Reading
reading_from r t = answered (length t) (finished (length t) (read_words (progress r []) (words t)))

abbrev pub said : List Case → List Reading
said [] = []
said (c ∷ cs) = c.says ∷ said cs

abbrev pub said_by : (List ℕ → Reading) → List Case → List Reading
said_by f [] = []
said_by f (c ∷ cs) = f (bytes_of c.text) ∷ said_by f cs

-- The conditions at the word where they meet, and the whole as a text.
abbrev pub held : List Meeting → List (List Bool)
held [] = []
held (m ∷ ms) = m.hold ∷ held ms

abbrev pub held_at : Meeting → List Bool
held_at m =
    let before = bytes_of m.before in
    conditions (read_words (progress full []) (words before)).reader (word_with (length before) (bytes_of m.word))

abbrev pub all_held_at : List Meeting → List (List Bool)
all_held_at [] = []
all_held_at (m ∷ ms) = held_at m ∷ all_held_at ms

abbrev pub cases_of : List Meeting → List Case
cases_of [] = []
cases_of (m ∷ ms) = record { text = m.before ++ m.word; says = m.says } ∷ cases_of ms
