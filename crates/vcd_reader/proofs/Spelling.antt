-- The word at an offset, told by its spelling. Assumes nothing.
--   SpelledTo    the first bytes of the word are the first letters
--   told_by      a word of this spelling passes a test
use Prim.Native.Nat.{ℕ, ◌+◌}
use mathlib.Core.Path.{◌≡◌, sym, ap, ◌∙◌}
use mathlib.Core.List.{List}
use mathlib.Core.Bool.{Bool, true}
use lib.ListN.{length, drop}
use lib.Dec.{ltb}
use Rattle.std.specs.Prelude.{Option, Some, None, is_some, IfSome}
use Rattle.recording.specs.Words.{same_bytes, all}
use Rattle.vcd_words.proofs.Spells.{same_eq}
use Rattle.vcd_reader.specs.Runs.{word_from}
use Rattle.vcd_reader.specs.Skipping.{Spelled, Told}
use Rattle.vcd_reader.proofs.Reaching.{Within}

-- the first letters are the first bytes of the word
pub record SpelledTo (t : List ℕ) (from : ℕ) (letters : List ℕ) (i j : ℕ) : Type 0 where
  pub inside : Within t from i
  pub above : all (ltb 32) (drop j letters) ≡ true
  pub same : same_bytes (word_from t i) (drop j letters) ≡ same_bytes (word_from t from) letters

-- a word that has these letters is these letters
pub told_by :
    {t : List ℕ} {i : ℕ} {e : Option ℕ} (test : List ℕ → Bool) (letters : List ℕ) → Spelled t i letters e → test letters ≡ true →
    IfSome e (λ end. Told test t i end)
told_by {t} {i} {e} test letters s h = go e s.found s.end
  where
    go : (e : Option ℕ) → is_some e ≡ same_bytes (word_from t i) letters → IfSome e (λ end. end ≡ i + length (word_from t i)) →
        IfSome e (λ end. Told test t i end)
    go None f k = tt
    go (Some end) f k = record { passes = ap test (same_eq (word_from t i) letters (sym f)) ∙ h; end = k }
