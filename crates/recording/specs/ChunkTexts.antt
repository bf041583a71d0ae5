-- Worked texts in chunks, and worked words as they are carried. Definitions only; that they hold is computed in
-- proofs/ChunkExamples.antt.
-- Source: document 02, 8/14: "wherever it is cut, also inside a number or with nothing in a chunk".
--   ChunkCases    document 01's text, a text with a fault, and one whose end is cut, each cut in several ways
--   KeptCases     words of more than 256 bytes: a time, a width, vectors, and what is none of them
--   LongCases     a byte after the first 2^64 - 1
use Rattle.std.specs.Prelude.{ℕ, ◌≡◌, true, false, length, take, drop}
use Prim.Native.String.{String, ◌++◌ as ◌++ˢ◌}
use mathlib.Core.List.{List, [], ◌∷◌, ◌++◌, map, tail}
use Rattle.model.specs.declared.Command.TheVariants.{OnSource}
use Rattle.model.specs.declared.SourceAction.TheVariants.{Trigger}
use Rattle.model.specs.Records.{source_id}
use Rattle.layout.specs.BytesCases.{times}
use Rattle.recording.specs.Words.{bytes_of}
use Rattle.recording.specs.Values.{is_decimal, decimal, vector_of}
use Rattle.recording.specs.Records.{start}
use Rattle.recording.specs.Reading.{Reading, reading_with, is_vector, is_time}
use Rattle.recording.specs.Chunks.{kept, carried_with, feed, chunked}
use Rattle.recording.specs.ChunkStatements.{told_by}
use Rattle.recording.specs.Texts.{trigger4, definitions}

-- ---- chunks

-- A chunk for each byte.
abbrev pub by_bytes : List ℕ → List (List ℕ)
by_bytes t = map (λ b. b ∷ []) t

-- Two chunks, with nothing before, between and behind them.
abbrev pub cut_at : ℕ → List ℕ → List (List ℕ)
cut_at n t = [] ∷ take n t ∷ [] ∷ drop n t ∷ [] ∷ []

-- A command at the text's end, in the middle of a word; and a fault in the last word, which only the end shows.
unfoldable pub unended : String
unended = definitions ++ˢ "#3 b100 \" b100 $ 1!"

unfoldable pub faulty_end : String
faulty_end = definitions ++ˢ "#3 b100 \" b100 $ 1! #x"

abbrev pub trigger4_said : Reading
trigger4_said = reading_with (OnSource (source_id 4) Trigger ∷ []) 0 233

abbrev pub ChunkCases : Type 0
ChunkCases =
    -- each byte a chunk, all in one, nothing at all
    (told_by (chunked (by_bytes (bytes_of trigger4))) ≡ trigger4_said) × (told_by (chunked (bytes_of trigger4 ∷ [])) ≡ trigger4_said) ×
    (told_by (chunked []) ≡ reading_with [] 11 0) ×
    -- inside a keyword, between a vector and its code, before the last byte
    (told_by (chunked (cut_at 3 (bytes_of trigger4))) ≡ trigger4_said) × (told_by (chunked (cut_at 216 (bytes_of trigger4))) ≡ trigger4_said) ×
    (told_by (chunked (cut_at 232 (bytes_of trigger4))) ≡ trigger4_said) ×
    -- the last word ends with the text
    (told_by (chunked (by_bytes (bytes_of unended))) ≡
    reading_with (OnSource (source_id 4) Trigger ∷ []) 0 (length (bytes_of unended))) ×
    (told_by (chunked (by_bytes (bytes_of faulty_end))) ≡
    reading_with (OnSource (source_id 4) Trigger ∷ []) 11 (length (bytes_of unended ++ (32 ∷ []))))

-- ---- words

abbrev pub zeros : ℕ → List ℕ
zeros k = times k (48 ∷ [])

-- # and 300 zeros before 42; a width as long; a vector of as many bits, with and without an x behind a 1.
abbrev pub KeptCases : Type 0
KeptCases =
    (length (kept (35 ∷ (zeros 300 ++ (52 ∷ 50 ∷ [])))) ≡ 256) ×
    (is_time (kept (35 ∷ (zeros 300 ++ (52 ∷ 50 ∷ [])))) ≡ true) × (decimal (tail (kept (35 ∷ (zeros 300 ++ (52 ∷ 50 ∷ []))))) ≡ 42) ×
    (decimal (kept (zeros 300 ++ (57 ∷ []))) ≡ 9) ×
    -- above every time, and no number at all
    (is_time (kept (35 ∷ 49 ∷ zeros 300)) ≡ false) × (is_decimal (kept (49 ∷ (zeros 300 ++ (120 ∷ [])))) ≡ false) ×
    (vector_of (tail (kept (98 ∷ (zeros 300 ++ (49 ∷ []))))) ≡ vector_of (zeros 300 ++ (49 ∷ []))) ×
    (vector_of (tail (kept (98 ∷ 49 ∷ (zeros 300 ++ (120 ∷ []))))) ≡ vector_of (49 ∷ (zeros 300 ++ (120 ∷ [])))) ×
    -- a byte that is no bit, and then bits
    (is_vector (kept (98 ∷ 49 ∷ (zeros 300 ++ (50 ∷ 120 ∷ 49 ∷ [])))) ≡ false)

-- ---- the longest text

-- The last byte that is taken, and the next.
abbrev pub LongCases : Type 0
LongCases =
    (told_by (feed (carried_with start 18446744073709551614 0 [] false) (32 ∷ [])) ≡ reading_with [] 0 18446744073709551615) ×
    (told_by (feed (carried_with start 18446744073709551615 0 [] false) (32 ∷ 32 ∷ [])) ≡ reading_with [] 11 18446744073709551615)
