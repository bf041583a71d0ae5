-- What is claimed of texts in chunks. Propositions only. Assumes nothing.
-- Source: document 02, 8/14, in its order.
use Rattle.std.specs.Prelude.{ℕ, ◌-◌, ◌^◌, ◌<◌, ◌≤◌, ◌≡◌, List, [], ◌∷◌, true, false, not, ◌&&◌, length, ltb}
use Rattle.lists.specs.Rows.{joined}
use Rattle.layout.specs.Statements.{AreBytes}
use Rattle.recording.specs.declared.Signal.{Signal}
use Rattle.recording.specs.declared.Variable.{Variable}
use Rattle.recording.specs.declared.Reader.{Reader}
use Rattle.recording.specs.Words.{all, separator, word_with}
use Rattle.recording.specs.Records.{variable}
use Rattle.recording.specs.Reading.{read_word, Reading, reading_with, reading, times_of}
use Rattle.recording.specs.Carrying.{is_carried, carried_bytes, carried_from}
use Rattle.recording.specs.Chunks.{most_kept, kept, Carried, begun, is_over, Fed, nothing_fed, place_in, feed, feed_all, end_text, chunked}

-- The chunks as one text.
abbrev pub whole_text : List (List ℕ) → List ℕ
whole_text chunks = joined (λ (c : List ℕ). c) chunks

-- ---- words

-- What is carried of a word has at most so many bytes, and means the same as the word, at every place, whatever follows.
abbrev pub KeptBounded : Type 0
KeptBounded = (w : List ℕ) → length (kept w) ≤ most_kept

abbrev pub KeptMeansSame : Type 0
KeptMeansSame = (r : Reader) (at : ℕ) (w : List ℕ) → read_word r (word_with at (kept w)) ≡ read_word r (word_with at w)

-- ---- chunks

-- Number and offset after some calls, and the commands of all of them.
abbrev pub told_by : Fed → Reading
told_by f =
    reading_with f.commands f.carried.reader.fault.number
    (place_in f.carried.reader f.carried.taken)

-- "Wherever it is cut .. commands, refusal and the refusal's place in the whole text are those of one reading", and the times.
abbrev pub ChunksAreOne : Type 0
ChunksAreOne =
    (chunks : List (List ℕ)) → length (whole_text chunks) < 2 ^ 64 →
    (told_by (chunked chunks) ≡ reading (whole_text chunks)) × ((chunked chunks).times ≡ times_of (whole_text chunks))

-- "After a refusal or the end, each further call repeats that refusal or end and gives no command": nothing is altered.
abbrev pub OverRepeats : Type 0
OverRepeats =
    (c : Carried) → is_over c ≡ true → ((bs : List ℕ) → feed c bs ≡ nothing_fed c) × (end_text c ≡ nothing_fed c)

-- The end is told once: after it everything is over.
abbrev pub EndIsOver : Type 0
EndIsOver = (c : Carried) → is_over (end_text c).carried ≡ true

-- "A byte after the first 2^64 - 1 is 11, at its offset", unless a fault came before; no command is given, and a word under way isn't
-- judged.
abbrev pub ByteTooMany : Type 0
ByteTooMany =
    (c : Carried) (b : ℕ) (bs : List ℕ) → is_over c ≡ false → c.taken ≡ 2 ^ 64 - 1 →
    told_by (feed c (b ∷ bs)) ≡ reading_with [] 11 (2 ^ 64 - 1)

-- "With nothing in a chunk": it changes nothing. And how a text is cut doesn't matter, to the byte.
abbrev pub CutAnywhere : Type 0
CutAnywhere =
    (c : Carried) →
    (feed c [] ≡ nothing_fed c) × ((chunks : List (List ℕ)) → feed_all c chunks ≡ feed c (whole_text chunks))

-- ---- bytes

-- What fits the bytes: numbers of 8, 16, 32 and 64 bits, and a word of at most 256 bytes that has no separator.
pub record VariableFits (v : Variable) : Type 0 where
  pub code : v.code < 2 ^ 32
  pub width : v.width < 2 ^ 8
  pub number : v.value.number < 2 ^ 16

pub record ReaderFits (r : Reader) : Type 0 where
  pub width : r.pending.width < 2 ^ 8
  pub code : r.pending.code < 2 ^ 32
  pub vector_length : r.pending.vector.length < 2 ^ 8
  pub vector_number : r.pending.vector.value.number < 2 ^ 16
  pub variables : (s : Signal) → VariableFits (variable r s)
  pub time : r.stamp.time < 2 ^ 64
  pub taken : r.taken < 2 ^ 16
  pub number : r.fault.number < 2 ^ 8
  pub offset : r.fault.offset < 2 ^ 64

pub record CarriedFits (c : Carried) : Type 0 where
  pub reader : ReaderFits c.reader
  pub taken : c.taken < 2 ^ 64
  pub from : c.from < 2 ^ 64
  pub length_le : length c.word ≤ most_kept
  pub bytes : all (λ b. ltb b 256 && not (separator b)) c.word ≡ true

-- It is read back from its bytes, which are bytes.
abbrev pub CarriedReadBack : Type 0
CarriedReadBack =
    (c : Carried) → CarriedFits c →
    (is_carried (carried_bytes c) ≡ true) × (carried_from (carried_bytes c) ≡ c) × AreBytes (carried_bytes c)

-- What is carried from the start on fits, after every chunk of bytes and after the end.
abbrev pub CarriedFitsOn : Type 0
CarriedFitsOn =
    CarriedFits begun ×
    ((c : Carried) (bs : List ℕ) → CarriedFits c → all (λ b. ltb b 256) bs ≡ true → CarriedFits (feed c bs).carried) ×
    ((c : Carried) → CarriedFits c → CarriedFits (end_text c).carried)
