-- The test of what is carried. Assumes nothing.
--   all_list     std's test of each element is that of the definitions
use Prim.Native.Nat.{ℕ}
use mathlib.Core.Path.{◌≡◌, refl, ap}
use mathlib.Core.List.{List, [], ◌∷◌}
use mathlib.Core.Bool.{Bool, ◌&&◌}
use Rattle.std.specs.List.{list_all}
use Rattle.recording.specs.Words.{all}

pub all_list : (f : ℕ → Bool) (l : List ℕ) → list_all f l ≡ all f l
all_list f [] = refl
all_list f (x ∷ xs) = ap (λ (b : Bool). f x && b) (all_list f xs)
