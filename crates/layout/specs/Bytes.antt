-- A state, commands and answers as bytes, for hosts. Definitions only. Assumes nothing.
-- Numbers of 16 bits are two bytes, the lower first; a flag is one byte, 0 or 1. The page docs/ENCODING.md has the layout with an example.
--   state_bytes s        4 bytes of sizes, 128 sources of 9 bytes, 32 cores of 8 bytes: 1,412 in all
--   is_state b           b encodes a state: the length is right and each flag is 0 or 1; the state may still be unsound
--   state_from b         that state
--   command_bytes c      5 bytes: its number 0 to 7, the id or core, the priority
--   commands_in b        the commands in a row of such bytes; in_fives reads any such row
--   answer_bytes a       5 bytes: the number, the id, the cycles
--   entries_in cs b      the commands cs, each with the number and the id of its answer's bytes in the row b
--   packed a            an answer as one number; number_in, id_in, cycles_in are its parts
--   make_call, execute_call, run_call    what the exported calls answer and write
use Rattle.std.specs.Prelude.{ℕ, ◌+◌, ◌*◌, ◌/◌, ◌%◌, ◌≡◌, List, [], ◌∷◌, ◌++◌, Bool, ◌&&◌, cond, length, get_or, drop, leb, eqb, Option, Some, None}
use Rattle.std.proofs.lemmas.List.Edits.{sets}
use Rattle.lists.specs.Rows.{joined, tabulated}
use Rattle.model.specs.declared.Source.{Source}
use Rattle.model.specs.declared.Core.{Core}
use Rattle.model.specs.declared.Controller.{Controller}
use Rattle.model.specs.declared.Answer.{Answer}
use Rattle.model.specs.declared.Command.{Command}
use Rattle.model.specs.Records.{max_sources, max_cores, source_id, source_with, box_with, core_with, controller_with}
use Rattle.lists.specs.Walks.{every}
use Rattle.model.specs.Commands.{execute, make, run}
use Rattle.model.specs.Ledger.{Entry, entry_with, answers_to}
use Rattle.layout.specs.Commands.{command_of, number_of, target_of, level_of}

-- ---- single values

abbrev pub word : ℕ → List ℕ
word x = x % 256 ∷ x / 256 ∷ []

abbrev pub flag_byte : Bool → ℕ
flag_byte b = cond b 1 0

abbrev pub word_at : List ℕ → ℕ → ℕ
word_at b i = get_or b i 0 + 256 * get_or b (i + 1) 0

abbrev pub flag_at : List ℕ → ℕ → Bool
flag_at b i = eqb (get_or b i 0) 1

abbrev pub is_flag_at : List ℕ → ℕ → Bool
is_flag_at b i = leb (get_or b i 0) 1

-- ---- a state

abbrev pub source_size : ℕ
source_size = 9

abbrev pub core_size : ℕ
core_size = 8

-- Where the sources begin, where the cores begin, and where the state ends.
abbrev pub sources_from : ℕ
sources_from = 4

abbrev pub cores_from : ℕ
cores_from = sources_from + source_size * max_sources

abbrev pub state_size : ℕ
state_size = cores_from + core_size * max_cores

abbrev pub source_bytes : Source → List ℕ
source_bytes r =
    word r.configured ++
    (flag_byte r.masked ∷ flag_byte r.pending ∷ flag_byte r.delivered ∷ (word r.priority ++ word r.dropped))

abbrev pub core_bytes : Core → List ℕ
core_bytes c =
    word c.configured ++
    (flag_byte c.message.filled ∷ flag_byte c.message.dirty ∷ (word c.message.source.0 ++ word c.message.priority))

unfoldable pub state_bytes : Controller → List ℕ
state_bytes s = word s.n ++ (word s.m ++ (joined source_bytes s.sources ++ joined core_bytes s.cores))

abbrev pub source_from : List ℕ → ℕ → Source
source_from b i =
    source_with (word_at b i) (flag_at b (i + 2)) (flag_at b (i + 3)) (flag_at b (i + 4)) (word_at b (i + 5)) (word_at b (i + 7))

abbrev pub core_from : List ℕ → ℕ → Core
core_from b i =
    core_with (word_at b i) (box_with (flag_at b (i + 2)) (flag_at b (i + 3)) (source_id (word_at b (i + 4))) (word_at b (i + 6)))

-- Of a state's bytes: the source with id i + 1, and core k.
abbrev pub source_of : List ℕ → ℕ → Source
source_of b i = source_from b (sources_from + source_size * i)

abbrev pub core_of : List ℕ → ℕ → Core
core_of b k = core_from b (cores_from + core_size * k)

unfoldable pub state_from : List ℕ → Controller
state_from b = controller_with (word_at b 0) (word_at b 2) (tabulated max_sources (source_of b)) (tabulated max_cores (core_of b))

abbrev pub source_flags : List ℕ → ℕ → Bool
source_flags b i = is_flag_at b (i + 2) && is_flag_at b (i + 3) && is_flag_at b (i + 4)

abbrev pub core_flags : List ℕ → ℕ → Bool
core_flags b i = is_flag_at b (i + 2) && is_flag_at b (i + 3)

abbrev pub source_flags_of : List ℕ → ℕ → Bool
source_flags_of b i = source_flags b (sources_from + source_size * i)

abbrev pub core_flags_of : List ℕ → ℕ → Bool
core_flags_of b k = core_flags b (cores_from + core_size * k)

unfoldable pub is_state : List ℕ → Bool
is_state b = eqb (length b) state_size && every max_sources (source_flags_of b) && every max_cores (core_flags_of b)

-- ---- commands and answers

abbrev pub command_size : ℕ
command_size = 5

abbrev pub command_bytes : Command → List ℕ
command_bytes c = number_of c ∷ (word (target_of c) ++ word (level_of c))

-- What is read before what lies behind it; where nothing is read, the list ends.
abbrev pub or_end : {A : Type 0} → List A → List A → List A
or_end [] rest = []
or_end (x ∷ none) rest = x ∷ rest

-- What is read of a row of bytes, five at a time: of a number and two words, up to the first five that give nothing or the last whole
-- five.
unfoldable pub in_fives : {A : Type 0} → (ℕ → ℕ → ℕ → List A) → List ℕ → List A
in_fives read [] = []
in_fives read (a ∷ []) = []
in_fives read (a ∷ b ∷ []) = []
in_fives read (a ∷ b ∷ c ∷ []) = []
in_fives read (a ∷ b ∷ c ∷ d ∷ []) = []
in_fives read (a ∷ b ∷ c ∷ d ∷ e ∷ rest) = or_end (read a (b + 256 * c) (d + 256 * e)) (in_fives read rest)

abbrev pub one_command : Option Command → List Command
one_command None = []
one_command (Some c) = c ∷ []

-- The commands up to the first that cannot be read: a number above 7, or fewer than five bytes left.
abbrev pub commands_in : List ℕ → List Command
commands_in l = in_fives (λ number at p. one_command (command_of number at p)) l

abbrev pub answer_size : ℕ
answer_size = 5

abbrev pub answer_row : ℕ → ℕ → ℕ → List ℕ
answer_row number id cycles = number ∷ (word id ++ word cycles)

abbrev pub answer_bytes : Answer → List ℕ
answer_bytes a = answer_row a.number a.id.0 a.cycles

-- The commands with what they answered, the number and the id read from five bytes each.
unfoldable pub entries_in : List Command → List ℕ → List Entry
entries_in [] b = []
entries_in (c ∷ cs) b = entry_with c (get_or b 0 0) (word_at b 1) ∷ entries_in cs (drop answer_size b)

-- ---- the calls. `unreadable` is answered, and nothing is written, where bytes encode no state, a state's buffer is of another length, or
-- a command's number is above 7; for a list `no_count`, where it has no whole commands or the answers no room.

abbrev pub unreadable : ℕ
unreadable = 255

-- One answer as a number: number, id and cycles in 8, 16 and 16 binary digits.
abbrev pub packed_as : ℕ → ℕ → ℕ → ℕ
packed_as number id cycles = number + 256 * (id + 65536 * cycles)

abbrev pub packed : Answer → ℕ
packed a = packed_as a.number a.id.0 a.cycles

-- Its parts, from the number.
abbrev pub number_in : ℕ → ℕ
number_in x = x % 256

abbrev pub id_in : ℕ → ℕ
id_in x = x / 256 % 65536

abbrev pub cycles_in : ℕ → ℕ
cycles_in x = x / 16777216

-- What a call answers, and what the host's state bytes then are.
pub record Call : Type 0 where
  pub result : ℕ
  pub bytes : List ℕ

abbrev pub call_of : ℕ → List ℕ → Call
call_of result bytes = record { result = result; bytes = bytes }

-- A call answered the number r, and the host's state bytes then are b.
abbrev pub Does : ℕ → List ℕ → Call → Type 0
Does r b call = (r ≡ call.result) × (b ≡ call.bytes)

-- A fresh controller's bytes. Sizes out of range are refused as by value, and the bytes lent stay as they were.
unfoldable pub make_call : ℕ → ℕ → List ℕ → Call
make_call n m b =
    cond (eqb (length b) state_size)
    (call_of (packed (make n m)) (cond (eqb (make n m).number 0) (state_bytes (make n m).state) b))
    (call_of unreadable b)

-- A command on bytes that encode a state.
abbrev pub executed_on : List ℕ → Option Command → Call
executed_on b None = call_of unreadable b
executed_on b (Some c) = call_of (packed (execute (state_from b) c)) (state_bytes (execute (state_from b) c).state)

unfoldable pub execute_call : ℕ → ℕ → ℕ → List ℕ → Call
execute_call number at p b = cond (is_state b) (executed_on b (command_of number at p)) (call_of unreadable b)

-- The run of a list: how many commands were taken, the state after them, and their answers in the front of the answers' buffer.
pub record RunCall : Type 0 where
  pub result : ℕ
  pub bytes : List ℕ
  pub answers : List ℕ

abbrev pub run_call_of : ℕ → List ℕ → List ℕ → RunCall
run_call_of result bytes answers = record { result = result; bytes = bytes; answers = answers }

abbrev pub DoesRun : ℕ → List ℕ → List ℕ → RunCall → Type 0
DoesRun r b answers call = (r ≡ call.result) × (b ≡ call.bytes) × (answers ≡ call.answers)

-- What stands for `unreadable` where the answer is a count.
abbrev pub no_count : ℕ
no_count = 18446744073709551615

-- The list has whole commands, and an answer for each has room.
abbrev pub room_for : List ℕ → List ℕ → Bool
room_for commands answers = eqb (length commands % command_size) 0 && leb (length commands / command_size * answer_size) (length answers)

abbrev pub fits_run : List ℕ → List ℕ → List ℕ → Bool
fits_run b commands answers = is_state b && room_for commands answers

unfoldable pub run_call : List ℕ → List ℕ → List ℕ → RunCall
run_call b commands answers =
    cond (fits_run b commands answers)
    (run_call_of (length (commands_in commands)) (state_bytes (run (state_from b) (commands_in commands)))
    (sets answers 0 (joined answer_bytes (answers_to (state_from b) (commands_in commands)))))
    (run_call_of no_count b answers)
