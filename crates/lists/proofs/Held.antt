-- Counts that are held at a most (`one_more_up_to`). Assumes nothing.
--   held_by_lem    one more, held, is the count of one more, held; a test says whether one more is counted
use Prim.Native.Nat.{ℕ, ◌+◌, min}
use mathlib.Core.Path.{◌≡◌, ◌∙◌, ap}
use mathlib.Core.Bool.{Bool, true, false, cond}
use lib.Dec.{ltb}
use native.Mathlib.Omega.{arith}
use borrow.Author.Tests.{ltb-true, ltb-false}
use Rattle.lists.specs.Numbers.{one_more_up_to}
use Rattle.lists.proofs.Bools.{Flag, on, off, flag}

module _ (most x y : ℕ) (e : x ≡ min most y) where
  one_more_held : one_more_up_to most x ≡ min most (y + 1)
  one_more_held = go (flag (ltb x most))
    where
      go : Flag (ltb x most) → one_more_up_to most x ≡ min most (y + 1)
      go (on p) = rw p (omega (arith, ltb-true x most p))
      go (off p) = rw p (omega (arith, ltb-false x most p))

  pub held_by_lem : (b : Bool) → cond b (one_more_up_to most x) x ≡ min most (y + cond b 1 0)
  held_by_lem true = one_more_held
  held_by_lem false = e ∙ ap (min most) (omega arith)
