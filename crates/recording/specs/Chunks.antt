-- A text that comes in chunks, with what is carried between them. Definitions only. Assumes nothing.
-- Source: document 02, 8/14. The readings of words, of the end and of times are those of one text (`Reading`).
--   kept w            a word as it is carried: its bytes, and of a longer one as many that mean the same (`KeptMeansSame`)
--   take_byte c b      one more byte: a separator ends the word under way; a byte after the first 2^64 - 1 is 11, at its offset
--   feed c bs         a chunk, byte by byte
--   end_text c         the end of the text: the word under way ends, then the text does
-- After a fault or the end nothing is taken any more, so that a call repeats what the one before told.
use Rattle.std.specs.Prelude.{ℕ, suc, Bool, true, false, not, ◌&&◌, ◌||◌, cond, length, get_or, take, drop, ltb, eqb}
use mathlib.Core.List.{List, [], ◌∷◌, ◌++◌}
use Rattle.model.specs.declared.Command.{Command}
use Rattle.recording.specs.declared.Reader.{Reader}
use Rattle.recording.specs.declared.Read.{Read}
use Rattle.recording.specs.Words.{is_empty, separator, word_with}
use Rattle.recording.specs.Values.{is_digit, is_bit, is_definite, bit_of}
use Rattle.recording.specs.Records.{start, refused, only}
use Rattle.recording.specs.Stamps.{not_grammar, commands_of}
use Rattle.recording.specs.Reading.{is_good, is_vector, max_time, read_word, finish, times_at}

-- ---- a word under way

-- The most bytes that are carried of a word. No keyword, name or code is longer, and the length of a vector is held below it.
abbrev pub most_kept : ℕ
most_kept = 256

abbrev pub is_binary : ℕ → Bool
is_binary b = eqb b 98 || eqb b 66

-- Its digits or bits begin with a 0 that changes nothing, and stand after #, b, B or another 0.
abbrev pub leads_zero : List ℕ → Bool
leads_zero w =
    eqb (get_or w 1 0) 48 && (eqb (get_or w 0 0) 35 || eqb (get_or w 0 0) 48 || is_binary (get_or w 0 0))

-- The last byte becomes b.
abbrev pub ending_in : List ℕ → ℕ → List ℕ
ending_in w b = take 255 w ++ (b ∷ [])

-- Digits without a leading 0 spell more than any number that is asked for; a byte that is no digit ends that.
abbrev pub held_digits : List ℕ → ℕ → List ℕ
held_digits w b = cond (is_digit b) w (ending_in w b)

-- So do bits; an x or z among them makes the value unknown, and a byte that is no bit makes the word no vector.
abbrev pub held_bits : List ℕ → ℕ → List ℕ
held_bits w b = cond (is_bit b && (is_definite (bit_of b) || not (is_vector w))) w (ending_in w b)

-- One more byte of a word of which w is carried.
unfoldable pub kept_with : List ℕ → ℕ → List ℕ
kept_with w b =
    cond (ltb (length w) most_kept) (w ++ (b ∷ []))
    (cond (leads_zero w) ((get_or w 0 0 ∷ drop 2 w) ++ (b ∷ []))
    (cond (is_binary (get_or w 0 0)) (held_bits w b) (held_digits w b)))

unfoldable pub kept_after : List ℕ → List ℕ → List ℕ
kept_after w [] = w
kept_after w (b ∷ bs) = kept_after (kept_with w b) bs

abbrev pub kept : List ℕ → List ℕ
kept w = kept_after [] w

-- ---- what is carried

-- The reader after the words so far; how many bytes were taken; of a word under way the offset of its first byte, and its bytes, none if
-- there is none; and whether the end was told.
pub record Carried : Type 0 where
  pub reader : Reader
  pub taken : ℕ
  pub from : ℕ
  pub word : List ℕ
  pub ended : Bool

abbrev pub carried_with : Reader → ℕ → ℕ → List ℕ → Bool → Carried
carried_with reader taken from word ended =
    record { reader = reader; taken = taken; from = from; word = word; ended = ended }

abbrev pub begun : Carried
begun = carried_with start 0 0 [] false

-- The most bytes of a text: 2^64 - 1.
abbrev pub most_bytes : ℕ
most_bytes = max_time

-- There was a fault, or the end.
abbrev pub is_over : Carried → Bool
is_over c = c.ended || not (is_good c.reader)

-- What a call gives: what is carried on, the commands taken, and the times of the stamps at whose ends they were.
pub record Fed : Type 0 where
  pub carried : Carried
  pub commands : List Command
  pub times : List ℕ

abbrev pub fed_with : Carried → List Command → List ℕ → Fed
fed_with carried commands times = record { carried = carried; commands = commands; times = times }

abbrev pub nothing_fed : Carried → Fed
nothing_fed c = fed_with c [] []

-- The second after the first.
abbrev pub then_fed : Fed → Fed → Fed
then_fed a b = fed_with b.carried (a.commands ++ b.commands) (a.times ++ b.times)

-- What a reader gives where a word or the text ends.
abbrev pub gives : Reader → Read → Carried → Fed
gives r a c = fed_with c (commands_of a.strobe) (times_at r a)

-- ---- one byte

-- What the word under way does where it ends.
unfoldable pub closing : Carried → Read
closing c = cond (is_empty c.word) (only c.reader) (read_word c.reader (word_with c.from c.word))

-- The bytes taken, and after a fault its place.
abbrev pub place_in : Reader → ℕ → ℕ
place_in r n = cond (is_good r) n r.fault.offset

-- No word is under way, at a place.
abbrev pub between : Reader → ℕ → Carried
between r n = carried_with r n n [] false

abbrev pub end_word : Carried → Fed
end_word c = gives c.reader (closing c) (between (closing c).reader (place_in (closing c).reader (suc c.taken)))

abbrev pub with_byte : Carried → ℕ → Carried
with_byte c b =
    carried_with c.reader (suc c.taken) (cond (is_empty c.word) c.taken c.from) (kept_with c.word b) false

-- A word under way isn't judged.
abbrev pub too_long : Carried → Carried
too_long c = carried_with (refused not_grammar most_bytes c.reader) c.taken c.from c.word false

unfoldable pub take_byte : Carried → ℕ → Fed
take_byte c b =
    cond (is_over c) (nothing_fed c)
    (cond (not (ltb c.taken most_bytes)) (nothing_fed (too_long c))
    (cond (separator b) (end_word c) (nothing_fed (with_byte c b))))

-- ---- chunks, and the end

unfoldable pub feed : Carried → List ℕ → Fed
feed c [] = nothing_fed c
feed c (b ∷ bs) = then_fed (take_byte c b) (feed (take_byte c b).carried bs)

unfoldable pub feed_all : Carried → List (List ℕ) → Fed
feed_all c [] = nothing_fed c
feed_all c (bs ∷ rest) = then_fed (feed c bs) (feed_all (feed c bs).carried rest)

abbrev pub at_end : Carried → Read → Fed
at_end c a = gives a.reader (finish c.taken a.reader)
    (carried_with (finish c.taken a.reader).reader c.taken c.taken [] true)

unfoldable pub end_text : Carried → Fed
end_text c = cond (is_over c) (nothing_fed c) (then_fed (gives c.reader (closing c) c) (at_end c (closing c)))

-- All chunks of a text, and its end.
unfoldable pub chunked : List (List ℕ) → Fed
chunked chunks = then_fed (feed_all begun chunks) (end_text (feed_all begun chunks).carried)
