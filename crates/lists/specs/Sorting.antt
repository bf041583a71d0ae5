-- Sorting from the top, repeats kept. Definitions only. Assumes nothing.
use Rattle.std.specs.Prelude.{ℕ, List, [], ◌∷◌, cond, ltb}

unfoldable pub insert_down : ℕ → List ℕ → List ℕ
insert_down x [] = x ∷ []
insert_down x (y ∷ ys) = cond (ltb x y) (y ∷ insert_down x ys) (x ∷ y ∷ ys)

unfoldable pub sort_down : List ℕ → List ℕ
sort_down [] = []
sort_down (x ∷ xs) = insert_down x (sort_down xs)
