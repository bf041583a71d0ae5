-- Numbers, codes, bits and vectors, as a word spells them. Definitions only. Assumes nothing.
-- Source: document 01, "width in decimal, code of 1 to 4 bytes of 33 to 126", "one of 0, 1, x, z", "B, X and Z are read as small",
-- "zeros after 0 or 1, x after x, z after z".
--   decimal w            the number that decimal digits spell, of any length; leading zeros change nothing
--   code_of w             the number that the bytes of a code spell, 0 for a word that is no code
--   extended width bs    a vector made as long as its variable
--   value_of bs           the binary number, or not known where an x or z is in it
use Rattle.std.specs.Prelude.{ℕ, ◌+◌, ◌*◌, ◌-◌, min, List, [], ◌∷◌, ◌++◌, map, Bool, true, false, not, ◌&&◌, ◌||◌, cond, length, replicate, eqb}
use Rattle.lists.specs.Numbers.{between}
use Rattle.recording.specs.declared.Value.{Value}
use Rattle.recording.specs.declared.Vector.{Vector}
use Rattle.recording.specs.Words.{all, is_empty}

-- What a numeral spells after the digits that made v, highest digit first.
abbrev pub numeral : ℕ → ℕ → List ℕ → ℕ
numeral base v [] = v
numeral base v (d ∷ ds) = numeral base (base * v + d) ds

-- ---- decimal numbers

abbrev pub is_digit : ℕ → Bool
is_digit b = between 48 57 b

abbrev pub is_decimal : List ℕ → Bool
is_decimal w = not (is_empty w) && all is_digit w

abbrev pub digit_of : ℕ → ℕ
digit_of b = b - 48

unfoldable pub decimal : List ℕ → ℕ
decimal w = numeral 10 0 (map digit_of w)

-- ---- codes

abbrev pub is_code : List ℕ → Bool
is_code w = between 1 4 (length w) && all (between 33 126) w

-- Different codes spell different numbers, none of them 0.
unfoldable pub code_of : List ℕ → ℕ
code_of w = cond (is_code w) (numeral 256 0 w) 0

-- ---- bits

pub data Bit : Type 0 where
  b0 b1 bx bz : Bit

-- One of 0, 1, x, z, X, Z.
abbrev pub is_bit : ℕ → Bool
is_bit b = eqb b 48 || eqb b 49 || eqb b 120 || eqb b 88 || eqb b 122 || eqb b 90

-- Asked of a byte that is a bit.
abbrev pub bit_of : ℕ → Bit
bit_of b = cond (eqb b 48) b0 (cond (eqb b 49) b1 (cond (eqb b 120 || eqb b 88) bx bz))

abbrev pub is_definite : Bit → Bool
is_definite b0 = true
is_definite b1 = true
is_definite bx = false
is_definite bz = false

abbrev pub bit_number : Bit → ℕ
bit_number b0 = 0
bit_number b1 = 1
bit_number bx = 0
bit_number bz = 0

-- What a vector is extended by: zeros after 0 or 1, x after x, z after z.
abbrev pub filler : Bit → Bit
filler b0 = b0
filler b1 = b0
filler bx = bx
filler bz = bz

unfoldable pub extended : ℕ → List Bit → List Bit
extended width [] = []
extended width (b ∷ bs) = replicate (width - length (b ∷ bs)) (filler b) ++ (b ∷ bs)

-- ---- values

abbrev pub value : Bool → ℕ → Value
value known number = record { known = known; number = number }

abbrev pub unknown : Value
unknown = value false 0

-- Numbers are held at 65,535: no variable is wider than 16 bits.
unfoldable pub value_of : List Bit → Value
value_of bs = cond (all is_definite bs) (value true (min 65535 (numeral 2 0 (map bit_number bs)))) unknown

abbrev pub vector_with : ℕ → Value → Vector
vector_with length v = record { length = length; value = v }

-- The value of the bits given is that of the vector extended to its variable's width (`ExtensionValue`).
unfoldable pub vector_of : List ℕ → Vector
vector_of w = vector_with (min 255 (length w)) (value_of (map bit_of w))
