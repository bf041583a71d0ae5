-- Bytes and their tests. Assumes nothing.
--   above_separators         a byte above the space is no separator
--   definite                 the bits that are definite
--   top_byte                 the uppermost of eight bytes is one
--   run_more, run_separator, run_end    a run of bytes, a byte at a time
use Prim.Native.Nat.{ℕ, ◌+◌, ◌/◌, ◌<◌, ◌≤◌}
use mathlib.Core.Path.{◌≡◌, ap, ◌∙◌}
use mathlib.Core.List.{List, [], ◌∷◌}
use mathlib.Core.Bool.{true, false, ◌||◌}
use lib.ListN.{length, get_or, drop, drop_of_length-le}
use lib.Seq.{drop-cons}
use native.Mathlib.Numerals.{add-one}
use native.Mathlib.Omega.{arith}
use borrow.Author.Tests.{ne_eqb}
use lib.Dec.{eqb}
use Rattle.lists.proofs.Bools.{Flag, on, off, flag}
use Rattle.recording.specs.Words.{separator}
use Rattle.recording.specs.Values.{bit_of, is_definite}
use Rattle.vcd_words.specs.Partial.{run, seven}

pub above_separators : (b : ℕ) → 32 < b → separator b ≡ false
above_separators b h =
    rw (ne_eqb b 32 (λ e. omega arith), ne_eqb b 9 (λ e. omega arith), ne_eqb b 13 (λ e. omega arith), ne_eqb b 10 (λ e. omega arith))

-- ---- bits

-- only 0 and 1 are definite
pub definite : (b : ℕ) → is_definite (bit_of b) ≡ (eqb b 48 || eqb b 49)
definite b = go (flag (eqb b 48)) (flag (eqb b 49)) (flag (eqb b 120 || eqb b 88))
  where
    go : Flag (eqb b 48) → Flag (eqb b 49) → Flag (eqb b 120 || eqb b 88) → is_definite (bit_of b) ≡ (eqb b 48 || eqb b 49)
    go (on e) f g = rw e
    go (off e) (on f) g = rw (e, f)
    go (off e) (off f) (on g) = rw (e, f, g)
    go (off e) (off f) (off g) = rw (e, f, g)

-- ---- the last sixteen bytes, and a run of bytes

-- the uppermost of eight bytes is one
pub top_byte : (l : ℕ) → l < 18446744073709551616 → l / seven < 256
top_byte l h = omega arith

-- a run from i on has the byte at i; there is none at a separator, nor at the end
module _ (t : List ℕ) (i : ℕ) where
  pub run_more : i < length t → separator (get_or t i 0) ≡ false → run (drop i t) ≡ get_or t i 0 ∷ run (drop (i + 1) t)
  run_more h e = ap run (drop-cons t i 0 h) ∙ rw (e, add-one)

  pub run_separator : i < length t → separator (get_or t i 0) ≡ true → run (drop i t) ≡ []
  run_separator h e = ap run (drop-cons t i 0 h) ∙ rw e

  pub run_end : length t ≤ i → run (drop i t) ≡ []
  run_end h = ap run (drop_of_length-le t h)
