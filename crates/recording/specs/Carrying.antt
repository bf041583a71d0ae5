-- What is carried between two chunks, as bytes, for hosts. Definitions only. Assumes nothing.
-- Numbers have their lower bytes first; a flag is one byte, 0 or 1.
--   reader_bytes r     71 bytes: the place, what is under way, five variables, the stamp, the commands taken, the fault
--   carried_bytes c    346 bytes: the reader, whether the text has ended, the bytes taken, and of the word under way the offset of its
--                     first byte, its length, and its bytes with zeros behind
--   is_carried b       b encodes what is carried: its length is right, the place is one, flags are flags, and the word is no longer than it
--                     may be and has no separator; every such state is answered, also one that no text leads to
--   carried_from b     what it is
use Rattle.std.specs.Prelude.{ℕ, zero, suc, ◌+◌, ◌*◌, ◌-◌, ◌/◌, ◌%◌, List, [], ◌∷◌, ◌++◌, Bool, not, ◌&&◌, length, get_or, take, drop, replicate, leb, eqb}
use Rattle.layout.specs.Bytes.{word, flag_byte, word_at, flag_at, is_flag_at}
use Rattle.recording.specs.declared.Place.{Place}
use Rattle.recording.specs.declared.Place.TheVariants.{Definition, SkipDefinition, Wire, Width, Code, Name, VarEnd, DefinitionsEnd}
use Rattle.recording.specs.declared.Place.TheVariants.{Body, SkipBody, BodyCode, Block, BlockCode}
use Rattle.recording.specs.declared.Value.{Value}
use Rattle.recording.specs.declared.Variable.{Variable}
use Rattle.recording.specs.declared.Variables.{Variables}
use Rattle.recording.specs.declared.Pending.{Pending}
use Rattle.recording.specs.declared.Stamp.{Stamp}
use Rattle.recording.specs.declared.Fault.{Fault}
use Rattle.recording.specs.declared.Reader.{Reader}
use Rattle.recording.specs.Words.{all, separator}
use Rattle.recording.specs.Values.{value, vector_with}
use Rattle.recording.specs.Records.{variable_with, variables_with, pending_with, stamp_with, fault_with, reader_with}
use Rattle.recording.specs.Chunks.{most_kept, Carried, carried_with}

-- ---- numbers

-- The lowest so many bytes of a number, lowest first; and the number that so many bytes spell from a place on.
abbrev pub low_bytes : ℕ → ℕ → List ℕ
low_bytes zero x = []
low_bytes (suc k) x = x % 256 ∷ low_bytes k (x / 256)

abbrev pub number_at : ℕ → List ℕ → ℕ → ℕ
number_at zero b i = 0
number_at (suc k) b i = get_or b i 0 + 256 * number_at k b (i + 1)

-- ---- a place

abbrev pub place_number : Place → ℕ
place_number Definition = 0
place_number SkipDefinition = 1
place_number Wire = 2
place_number Width = 3
place_number Code = 4
place_number Name = 5
place_number VarEnd = 6
place_number DefinitionsEnd = 7
place_number Body = 8
place_number SkipBody = 9
place_number BodyCode = 10
place_number Block = 11
place_number BlockCode = 12

abbrev pub last_place : ℕ
last_place = 12

-- By their numbers.
abbrev pub places : List Place
places =
    Definition ∷
    SkipDefinition ∷
    Wire ∷ Width ∷ Code ∷ Name ∷ VarEnd ∷ DefinitionsEnd ∷ Body ∷ SkipBody ∷ BodyCode ∷ Block ∷ BlockCode ∷ []

abbrev pub place_of : ℕ → Place
place_of x = get_or places x Definition

-- ---- a reader, part by part: 3, 8, 9, 10 and 9 bytes

abbrev pub value_bytes : Value → List ℕ
value_bytes v = flag_byte v.known ∷ word v.number

abbrev pub value_from : List ℕ → ℕ → Value
value_from b i = value (flag_at b i) (word_at b (i + 1))

abbrev pub variable_bytes : Variable → List ℕ
variable_bytes v = low_bytes 4 v.code ++ (v.width ∷ value_bytes v.value)

abbrev pub variable_from : List ℕ → ℕ → Variable
variable_from b i = variable_with (number_at 4 b i) (get_or b (i + 4) 0) (value_from b (i + 5))

abbrev pub variable_size : ℕ
variable_size = 8

abbrev pub variables_bytes : Variables → List ℕ
variables_bytes vs =
    variable_bytes vs.stb ++
    (variable_bytes vs.cmd ++ (variable_bytes vs.core ++ (variable_bytes vs.arg ++ variable_bytes vs.prio)))

abbrev pub variables_from : List ℕ → ℕ → Variables
variables_from b i =
    variables_with (variable_from b i) (variable_from b (i + 8)) (variable_from b (i + 16)) (variable_from b (i + 24)) (variable_from b (i + 32))

abbrev pub pending_bytes : Pending → List ℕ
pending_bytes p = p.width ∷ (low_bytes 4 p.code ++ (p.vector.length ∷ value_bytes p.vector.value))

abbrev pub pending_from : List ℕ → ℕ → Pending
pending_from b i = pending_with (get_or b i 0) (number_at 4 b (i + 1)) (vector_with (get_or b (i + 5) 0) (value_from b (i + 6)))

abbrev pub stamp_bytes : Stamp → List ℕ
stamp_bytes s = flag_byte s.opened ∷ flag_byte s.up ∷ low_bytes 8 s.time

abbrev pub stamp_from : List ℕ → ℕ → Stamp
stamp_from b i = stamp_with (flag_at b i) (number_at 8 b (i + 2)) (flag_at b (i + 1))

abbrev pub fault_bytes : Fault → List ℕ
fault_bytes f = f.number ∷ low_bytes 8 f.offset

abbrev pub fault_from : List ℕ → ℕ → Fault
fault_from b i = fault_with (get_or b i 0) (number_at 8 b (i + 1))

abbrev pub reader_bytes : Reader → List ℕ
reader_bytes r =
    place_number r.place ∷
    (pending_bytes r.pending ++
    (variables_bytes r.variables ++ (stamp_bytes r.stamp ++ (word r.taken ++ fault_bytes r.fault))))

abbrev pub reader_from : List ℕ → Reader
reader_from b =
    reader_with (place_of (get_or b 0 0)) (pending_from b 1) (variables_from b 10) (stamp_from b 50) (word_at b 60) (fault_from b 62)

-- ---- what is carried

-- Where the mark of the end stands, the two numbers, the word's length, and its bytes.
abbrev pub ended_at : ℕ
ended_at = 71

abbrev pub taken_at : ℕ
taken_at = 72

abbrev pub from_at : ℕ
from_at = 80

abbrev pub length_at : ℕ
length_at = 88

abbrev pub bytes_at : ℕ
bytes_at = 90

abbrev pub carried_size : ℕ
carried_size = bytes_at + most_kept

unfoldable pub carried_bytes : Carried → List ℕ
carried_bytes c =
    reader_bytes c.reader ++
    (flag_byte c.ended ∷
    (low_bytes 8 c.taken ++
    (low_bytes 8 c.from ++ (word (length c.word) ++ (c.word ++ replicate (most_kept - length c.word) 0)))))

abbrev pub word_from : List ℕ → List ℕ
word_from b = take (word_at b length_at) (drop bytes_at b)

unfoldable pub carried_from : List ℕ → Carried
carried_from b = carried_with (reader_from b) (number_at 8 b taken_at) (number_at 8 b from_at) (word_from b) (flag_at b ended_at)

-- The known flags of the vector under way and of the five variables, and those of the stamp.
abbrev pub reader_flags : List ℕ → Bool
reader_flags b =
    is_flag_at b 7 && is_flag_at b 15 && is_flag_at b 23 && is_flag_at b 31 && is_flag_at b 39 && is_flag_at b 47 && is_flag_at b 50 && is_flag_at b 51

unfoldable pub is_carried : List ℕ → Bool
is_carried b =
    eqb (length b) carried_size && leb (get_or b 0 0) last_place && reader_flags b && is_flag_at b ended_at && leb (word_at b length_at) most_kept &&
    all (λ x. not (separator x)) (word_from b)
