-- What is kept of a word tells what the definitions ask of the word. Assumes nothing.
--   kept_length, kept_first, kept_low, kept_high, kept_number    what is kept of a word, field by field
--   said                                                         a keyword is told by what is kept
use Prim.Native.Nat.{ℕ, ◌<◌, min}
use mathlib.Core.Path.{◌≡◌, refl, sym, ap, ◌∙◌}
use mathlib.Core.List.{List, [], ◌∷◌, tail}
use mathlib.Core.Bool.{◌&&◌}
use lib.ListN.{length, get_or}
use lib.Dec.{eqb}
use native.Mathlib.Omega.{arith}
use Rattle.recording.specs.Words.{bytes_of, is_text}
use Rattle.vcd_words.specs.declared.Partial.{Partial}
use Rattle.vcd_words.specs.declared.Spelling.{Spelling}
use Rattle.vcd_words.specs.declared.Keyword.{Keyword}
use Rattle.vcd_words.specs.Partial.{spell_high, spell_low, begun_with, counted_of, extended_by, partial_of, Keeps, spelling_of, text_of}
use Rattle.vcd_words.proofs.Spells.{same_spelling, keyword_fits}

module _ {p : Partial} {w : List ℕ} (k : Keeps p w) where
  pub kept_length : p.length ≡ min 256 (length w)
  unfolding extended_by
  kept_length = ap (λ (x : Partial). x.length) k.kept ∙ go w k.some
    where
      go : (v : List ℕ) → 0 < length v → (partial_of v).length ≡ min 256 (length v)
      go [] h = absurd (omega arith)
      go (b ∷ v) h = omega arith

  pub kept_first : p.first ≡ get_or w 0 0
  unfolding extended_by
  kept_first = ap (λ (x : Partial). x.first) k.kept ∙ go w k.some
    where
      go : (v : List ℕ) → 0 < length v → (partial_of v).first ≡ get_or v 0 0
      go [] h = absurd (omega arith)
      go (b ∷ v) h = refl

  pub kept_low : p.low ≡ spell_low 0 w
  unfolding extended_by
  kept_low = ap (λ (x : Partial). x.low) k.kept ∙ go w k.some
    where
      go : (v : List ℕ) → 0 < length v → (partial_of v).low ≡ spell_low 0 v
      go [] h = absurd (omega arith)
      go (b ∷ v) h = refl

  pub kept_high : p.high ≡ spell_high 0 0 w
  unfolding extended_by
  kept_high = ap (λ (x : Partial). x.high) k.kept ∙ go w k.some
    where
      go : (v : List ℕ) → 0 < length v → (partial_of v).high ≡ spell_high 0 0 v
      go [] h = absurd (omega arith)
      go (b ∷ v) h = refl

  pub kept_number : p.number ≡ counted_of (begun_with (get_or w 0 0)) (tail w)
  unfolding extended_by
  kept_number = ap (λ (x : Partial). x.number) k.kept ∙ go w k.some
    where
      go : (v : List ℕ) → 0 < length v → (partial_of v).number ≡ counted_of (begun_with (get_or v 0 0)) (tail v)
      go [] h = absurd (omega arith)
      go (b ∷ v) h = refl

  -- a keyword is told by its spelling
  pub said :
      {s : Spelling} (word : Keyword) → s ≡ spelling_of (bytes_of (text_of word)) →
      (eqb p.length s.length && (eqb p.high s.high && eqb p.low s.low)) ≡ is_text (text_of word) w
  said word e =
      rw (e, kept_length, kept_high, kept_low)
      (sym (same_spelling w (bytes_of (text_of word)) k.small (keyword_fits word).0 (keyword_fits word).1))
