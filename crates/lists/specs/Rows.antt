-- Values laid in a row. Definitions only. Assumes nothing.
--   row n f                the numbers f 0, .., f (n - 1); `gather` joins lists so, `tabulated` takes values of any type
--   joined f l             the lists f x of each x of l, joined
--   filter f l             the values of l that pass f, in their order
--   write f at v           the function f with the value at one place replaced
--   FilledBy f d l n ks    the first n numbers of ks are what f says of the first n elements of l, each with its index
use Rattle.std.specs.Prelude.{ℕ, zero, suc, ◌<◌, ◌≡◌, List, [], ◌∷◌, ◌++◌, Bool, cond, eqb, get_or}

-- The lists f 0, f 1, .., f (n - 1), joined.
unfoldable pub gather : ℕ → (ℕ → List ℕ) → List ℕ
gather zero f = []
gather (suc k) f = gather k f ++ f k

-- The numbers f 0, f 1, .., f (n - 1).
abbrev pub row : ℕ → (ℕ → ℕ) → List ℕ
row n f = gather n (λ k. f k ∷ [])

-- The values f 0, .., f (n - 1).
unfoldable pub tabulated : {A : Type 0} → ℕ → (ℕ → A) → List A
tabulated zero f = []
tabulated (suc k) f = tabulated k f ++ (f k ∷ [])

-- The bytes of each record of a list, joined.
unfoldable pub joined : {A : Type 0} → (A → List ℕ) → List A → List ℕ
joined f [] = []
joined f (x ∷ xs) = f x ++ joined f xs

unfoldable pub filter : {A : Type 0} → (A → Bool) → List A → List A
filter f [] = []
filter f (x ∷ xs) = cond (f x) (x ∷ filter f xs) (filter f xs)

-- f with the value at one place replaced
abbrev pub write {ℓ} : {A : Type ℓ} → (ℕ → A) → ℕ → A → ℕ → A
write f at v x = cond (eqb x at) v (f x)

-- Past its end the list reads as d, and ks as 0.
abbrev pub FilledBy : {A : Type 0} → (ℕ → A → ℕ) → A → List A → ℕ → List ℕ → Type 0
FilledBy f d l n ks = (i : ℕ) → i < n → get_or ks i 0 ≡ f i (get_or l i d)
