-- Tests on numbers, and counts that are held. Definitions only. Assumes nothing.
use Rattle.std.specs.Prelude.{ℕ, suc, Bool, ◌&&◌, cond, leb, ltb}

-- From low to high, both included.
abbrev pub between : ℕ → ℕ → ℕ → Bool
between low high x = leb low x && leb x high

-- One more, held at the most.
abbrev pub one_more_up_to : ℕ → ℕ → ℕ
one_more_up_to most x = cond (ltb x most) (suc x) x
