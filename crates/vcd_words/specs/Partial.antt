-- What is kept of a word under way, byte by byte. Definitions only; nothing here needs to be believed. Assumes nothing.
--   run bs            the bytes before the first separator
--   partial_of w       what is kept of the word w
--   extended_by p bs   what is kept when the bytes bs are added to a word of which p is kept
use Rattle.std.specs.Prelude.{ℕ, ◌+◌, ◌*◌, ◌-◌, ◌/◌, ◌%◌, ◌<◌, ◌≤◌, min, ◌≡◌, List, [], ◌∷◌, Bool, true, ◌||◌, cond, length, take, drop, ltb, eqb, Option, None, Some}
use Prim.Native.String.{String}
use Rattle.recording.specs.Words.{separator, all}
use Rattle.recording.specs.Values.{numeral, is_digit, digit_of, is_bit, bit_of, is_definite, bit_number, value, unknown, value_of}
use Rattle.recording.specs.Stamps.{not_grammar, bad_variable, not_known, not_rising, too_many}
use Rattle.recording.specs.Reading.{max_time}
use Rattle.recording.specs.declared.Value.{Value}
use Rattle.recording.specs.declared.Vector.{Vector}
use Rattle.vcd_words.specs.declared.Number.{Number}
use Rattle.vcd_words.specs.declared.Number.TheVariants.{Decimal, Binary}
use Rattle.vcd_words.specs.declared.Partial.{Partial}
use Rattle.vcd_words.specs.declared.Spelling.{Spelling}
use Rattle.vcd_words.specs.declared.Misreading.{Misreading}
use Rattle.vcd_words.specs.declared.Misreading.TheVariants.{NotGrammar, BadVariable, NotKnown, NotRising, TooMany}
use Rattle.vcd_words.specs.declared.Keyword.{Keyword}
use Rattle.vcd_words.specs.declared.Keyword.TheVariants.{Date, Version, Comment, Timescale, Scope, Upscope, Var, EndDefinitions, End}
use Rattle.vcd_words.specs.declared.Keyword.TheVariants.{DumpVars, DumpAll, DumpOn, DumpOff, Wire, Stb, Cmd, Core, Arg, Prio}

abbrev pub run : List ℕ → List ℕ
run [] = []
run (b ∷ bs) = cond (separator b) [] (b ∷ run bs)

-- The bytes of t from an offset up to another.
abbrev pub between : List ℕ → ℕ → ℕ → List ℕ
between t from end = take (end - from) (drop from t)

-- ---- the last sixteen bytes

-- 2^56 and 2^64.
abbrev pub seven : ℕ
seven = 72057594037927936

abbrev pub low_after : ℕ → ℕ → ℕ
low_after l b = l % seven * 256 + b

abbrev pub high_after : ℕ → ℕ → ℕ
high_after h l = h % seven * 256 + l / seven

abbrev pub spell_low : ℕ → List ℕ → ℕ
spell_low l [] = l
spell_low l (b ∷ bs) = spell_low (low_after l b) bs

abbrev pub spell_high : ℕ → ℕ → List ℕ → ℕ
spell_high h l [] = h
spell_high h l (b ∷ bs) = spell_high (high_after h l) (low_after l b) bs

-- ---- numbers

-- A number, or none if it is above 2^64 - 1.
abbrev pub in_64 : ℕ → Option ℕ
in_64 v = cond (ltb max_time v) None (Some v)

unfoldable pub with_digit : Option ℕ → ℕ → Option ℕ
with_digit None b = None
with_digit (Some v) b = in_64 (10 * v + digit_of b)

abbrev pub more_digits : Option ℕ → List ℕ → Option Number
more_digits n [] = Some (Decimal n)
more_digits n (b ∷ bs) = cond (is_digit b) (more_digits (with_digit n b) bs) None

-- A number held at 65,535, or none where a bit isn't 0 or 1.
abbrev pub in_16 : Bool → ℕ → Option ℕ
in_16 known v = cond known (Some (min 65535 v)) None

unfoldable pub with_known_bit : Option ℕ → ℕ → Option ℕ
with_known_bit None b = None
with_known_bit (Some v) b = in_16 (is_definite (bit_of b)) (2 * v + bit_number (bit_of b))

abbrev pub more_bits : Option ℕ → List ℕ → Option Number
more_bits n [] = Some (Binary n)
more_bits n (b ∷ bs) = cond (is_bit b) (more_bits (with_known_bit n b) bs) None

-- After the first byte: a digit is one of the number.
unfoldable pub begun_with : ℕ → Option Number
begun_with b =
    cond (eqb b 98 || eqb b 66) (Some (Binary (Some 0)))
    (cond (eqb b 35) (Some (Decimal (Some 0)))
    (cond (is_digit b) (Some (Decimal (Some (digit_of b)))) None))

-- The bytes bs are added.
unfoldable pub counted_of : Option Number → List ℕ → Option Number
counted_of None bs = None
counted_of (Some (Decimal n)) bs = more_digits n bs
counted_of (Some (Binary n)) bs = more_bits n bs

-- ---- a word

abbrev pub partial_with : ℕ → ℕ → ℕ → ℕ → Option Number → Partial
partial_with length first high low n = record { length = length; first = first; high = high; low = low; number = n }

abbrev pub empty : Partial
empty = partial_with 0 0 0 0 None

unfoldable pub extended_by : Partial → List ℕ → Partial
extended_by p [] = p
extended_by p (b ∷ bs) =
    cond (eqb p.length 0)
    (partial_with (min 256 (p.length + length (b ∷ bs))) b (spell_high p.high p.low (b ∷ bs)) (spell_low p.low (b ∷ bs))
    (counted_of (begun_with b) bs))
    (partial_with (min 256 (p.length + length (b ∷ bs))) p.first (spell_high p.high p.low (b ∷ bs)) (spell_low p.low (b ∷ bs))
    (counted_of p.number (b ∷ bs)))

-- What is kept of a whole word.
abbrev pub partial_of : List ℕ → Partial
partial_of w = extended_by empty w

-- p is what is kept of the word w, which has a byte.
pub record Keeps (p : Partial) (w : List ℕ) : Type 0 where
  pub kept : p ≡ partial_of w
  pub small : all (λ b. ltb b 256) w ≡ true
  pub some : 0 < length w

abbrev pub vector_with : ℕ → Value → Vector
vector_with length v = record { length = length; value = v }

-- The value of a number, or of none.
abbrev pub kept_value : Option ℕ → Value
kept_value (Some n) = value true n
kept_value None = unknown

abbrev pub bit_value : ℕ → Value
bit_value b = value_of (bit_of b ∷ [])

-- ---- codes

-- A word of bytes ends with u, has n bytes of it if these are few, and its lowest bytes spell low.
pub record Ends (n low : ℕ) (u : List ℕ) : Type 0 where
  pub small : all (λ b. ltb b 256) u ≡ true
  pub same : n ≤ 4 → length u ≡ n
  pub more : 4 < n → 4 < length u
  pub before : ℕ
  pub exact : length u ≤ 4 → low ≡ numeral 256 before u

-- ---- keywords

abbrev pub spelling_with : ℕ → ℕ → ℕ → Spelling
spelling_with length high low = record { length = length; high = high; low = low }

abbrev pub spelling_of : List ℕ → Spelling
spelling_of w = spelling_with (length w) (spell_high 0 0 w) (spell_low 0 w)

abbrev pub text_of : Keyword → String
text_of Date = "$date"
text_of Version = "$version"
text_of Comment = "$comment"
text_of Timescale = "$timescale"
text_of Scope = "$scope"
text_of Upscope = "$upscope"
text_of Var = "$var"
text_of EndDefinitions = "$enddefinitions"
text_of End = "$end"
text_of DumpVars = "$dumpvars"
text_of DumpAll = "$dumpall"
text_of DumpOn = "$dumpon"
text_of DumpOff = "$dumpoff"
text_of Wire = "wire"
text_of Stb = "stb"
text_of Cmd = "cmd"
text_of Core = "core"
text_of Arg = "arg"
text_of Prio = "prio"

-- ---- faults

abbrev pub number_of : Misreading → ℕ
number_of NotGrammar = not_grammar
number_of BadVariable = bad_variable
number_of NotKnown = not_known
number_of NotRising = not_rising
number_of TooMany = too_many
