-- Words that are told by their spelling, and words that are skipped up to the next $end. A helper of contracts; nothing here needs to be
-- believed. Assumes nothing.
--   Spelled      whether the word at an offset has these bytes, and where it ends
--   Told         the word at an offset passes a test, and ends here
--   opens_block   the words that begin a block
--   Passes p     a reader in the place p is as it was after the words from an offset up to another
--   SkipsTo p q   in the place p words are skipped up to $end, and then the place is q
use Rattle.std.specs.Prelude.{ℕ, ◌+◌, ◌<◌, ◌≤◌, ◌≡◌, List, Bool, true, false, not, ◌&&◌, length, Option, is_some, IfSome}
use Rattle.recording.specs.declared.Place.{Place}
use Rattle.recording.specs.declared.Place.TheVariants.{Body, Block}
use Rattle.recording.specs.declared.Reader.{Reader}
use Rattle.recording.specs.Words.{same_bytes, is_text, Word}
use Rattle.recording.specs.Records.{at, only}
use Rattle.recording.specs.Reading.{starts_time, is_dump, skipping, read_at}
use Rattle.vcd_reader.specs.declared.Turned.{Turned}
use Rattle.vcd_reader.specs.Advances.{Follows}
use Rattle.vcd_reader.specs.Runs.{word_from}

-- ---- spelling

pub record Spelled (t : List ℕ) (i : ℕ) (letters : List ℕ) (e : Option ℕ) : Type 0 where
  pub found : is_some e ≡ same_bytes (word_from t i) letters
  pub end : IfSome e (λ end. end ≡ i + length (word_from t i))

pub record Told (test : List ℕ → Bool) (t : List ℕ) (i j : ℕ) : Type 0 where
  pub passes : test (word_from t i) ≡ true
  pub end : j ≡ i + length (word_from t i)

-- begins a block, and is nothing else
abbrev pub opens_block : List ℕ → Bool
opens_block w = not (starts_time w) && (not (is_text "$comment" w) && is_dump w)

-- ---- skipping

abbrev pub Passes : Place → List ℕ → ℕ → ℕ → Type 0
Passes p t i j = (r : Reader) → r.place ≡ p → r.fault.number ≡ 0 → Follows t i r j r

pub record PassedBy (p : Place) (t : List ℕ) (i end : ℕ) : Type 0 where
  pub inside : i < length t
  pub moves : i < end
  pub passes : Passes p t i end

abbrev pub SkipsTo : Place → Place → Type 0
SkipsTo p q = (r : Reader) (w : Word) → read_at p r w ≡ only (skipping q r w)

-- up to the first $end, and where there is none
pub record ToEnd (t : List ℕ) (from end : ℕ) : Type 0 where
  pub least : from ≤ end
  pub moves : from < length t → from < end
  pub ends : (p q : Place) → SkipsTo p q → (r : Reader) → r.place ≡ p → r.fault.number ≡ 0 → Follows t from r end (at q r)

pub record NoEnd (t : List ℕ) (from end : ℕ) : Type 0 where
  pub least : from ≤ end
  pub moves : from < length t → from < end
  pub passes : (p q : Place) → SkipsTo p q → Passes p t from end

-- ---- blocks

-- where changes may stand, in a block or not
abbrev pub change_place : Bool → Place
change_place true = Block
change_place false = Body

abbrev pub in_block : Place → Bool
in_block Block = true
in_block _ = false

pub record Turns (t : List ℕ) (i : ℕ) (block : Bool) (k : Turned) : Type 0 where
  pub moves : i < k.end
  pub follows :
      (r : Reader) → r.place ≡ change_place block → r.fault.number ≡ 0 →
      Follows t i r k.end (at (change_place k.block) r)
