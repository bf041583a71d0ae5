-- Words of a text, with the offsets of their first bytes. Definitions only. Assumes nothing.
-- Source: document 01, "Words are parted by spaces, tabs, carriage returns and line feeds".
--   bytes_of s      the bytes of a quoted text of ASCII characters
--   words t        the words of t, first to last: the longest runs of bytes that are no separators (`WordsExact`)
-- Every byte that is no separator belongs to a word, 0, 127 and 255 too.
use Rattle.std.specs.Prelude.{ℕ, suc, ◌-◌, List, [], ◌∷◌, ◌++◌, Bool, true, false, ◌&&◌, ◌||◌, cond, length, eqb}
use Prim.Native.Char.{code}
use Prim.Native.String.{String, [] as []ˢ, ◌∷◌ as ◌∷ˢ◌}

abbrev pub bytes_of : String → List ℕ
bytes_of []ˢ = []
bytes_of (c ∷ˢ s) = code c ∷ bytes_of s

-- ---- lists of bytes, compared and tested

abbrev pub same_bytes : List ℕ → List ℕ → Bool
same_bytes [] [] = true
same_bytes [] (y ∷ ys) = false
same_bytes (x ∷ xs) [] = false
same_bytes (x ∷ xs) (y ∷ ys) = eqb x y && same_bytes xs ys

-- The word is this quoted text. Capitals and small letters differ.
abbrev pub is_text : String → List ℕ → Bool
is_text s w = same_bytes w (bytes_of s)

abbrev pub all : {A : Type 0} → (A → Bool) → List A → Bool
all f [] = true
all f (x ∷ xs) = f x && all f xs

abbrev pub any : {A : Type 0} → (A → Bool) → List A → Bool
any f [] = false
any f (x ∷ xs) = f x || any f xs

abbrev pub is_empty : List ℕ → Bool
is_empty [] = true
is_empty (x ∷ xs) = false

-- ---- words

-- Space, tab, carriage return, line feed.
abbrev pub separator : ℕ → Bool
separator b = eqb b 32 || eqb b 9 || eqb b 13 || eqb b 10

pub record Word : Type 0 where
  pub at : ℕ
  pub bytes : List ℕ

abbrev pub word_with : ℕ → List ℕ → Word
word_with at bytes = record { at = at; bytes = bytes }

-- The bytes w, which end before an offset, are a word unless there are none.
abbrev pub closed : ℕ → List ℕ → List Word → List Word
closed end [] ws = ws
closed end (b ∷ bs) ws = word_with (end - length (b ∷ bs)) (b ∷ bs) ∷ ws

-- From an offset on: w are the bytes of the word under way, then the bytes to come.
unfoldable pub cut : ℕ → List ℕ → List ℕ → List Word
cut at w [] = closed at w []
cut at w (b ∷ bs) = cond (separator b) (closed at w (cut (suc at) [] bs)) (cut (suc at) (w ++ (b ∷ [])) bs)

abbrev pub words : List ℕ → List Word
words t = cut 0 [] t
