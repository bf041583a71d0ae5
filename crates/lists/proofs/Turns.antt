-- A loop that tests each record from a first one on, and keeps in a flag whether all have passed. Assumes nothing.
--   since f from              no number below `from` is tested
--   since_begin, since_end    the flag where the loop begins, and where all numbers below a bound have been tested
--   since_turn, since_fails   the flag after one turn; it falls at a number from the first on that fails its test
use Prim.Native.Nat.{ℕ, ◌+◌, ◌<◌, ◌≤◌}
use mathlib.Core.Path.{◌≡◌, sym, ◌∙◌, ap}
use mathlib.Core.Bool.{Bool, true, false, ◌||◌, ◌&&◌}
use native.Mathlib.Omega.{arith}
use native.Mathlib.Numerals.{add-one}
use lib.Dec.{ltb}
use borrow.Author.Tests.{lt-ltb, le-ltb}
use Rattle.lists.specs.Walks.{every}
use Rattle.lists.proofs.Bools.{or_in_l, or_off, refuted, clash}
use Rattle.lists.proofs.Walks.{every_in, every_out}

abbrev pub since : (ℕ → Bool) → ℕ → ℕ → Bool
since f from i = ltb i from || f i

module _ (f : ℕ → Bool) (from k : ℕ) where
  pub since_fails : from ≤ k → (n : ℕ) → k < n → f k ≡ false → false ≡ every n (since f from)
  since_fails h n g e =
      sym (refuted (every n (since f from)) (λ all. clash (or_off (ltb k from) (f k) (every_out n (since f from) all k g) (le-ltb k from h)) e))

  pub since_begin : k ≤ from → true ≡ every k (since f from)
  since_begin h = sym (every_in k (since f from) (λ i g. or_in_l (f i) (lt-ltb i from (omega arith))))

  module _ {fresh : Bool} (p : fresh ≡ every k (since f from)) where
    pub since_end : (n : ℕ) → k ≡ n → fresh ≡ every n (since f from)
    since_end n e = p ∙ ap (λ (i : ℕ). every i (since f from)) e

    pub since_turn : from ≤ k → fresh && f k ≡ every (k + 1) (since f from)
    unfolding every
    since_turn h = rw (add-one, le-ltb k from h, p)
