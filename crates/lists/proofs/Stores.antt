-- Stores into a part of a list, and into one of several records laid end to end. Assumes nothing.
--   sets_front, sets_behind    a run of stores in the first, in the second of two lists joined
--   sets_whole                 one over all of a list leaves what is stored
--   sets_joined                one over the i-th of several records of one size is the record replaced
use Prim.Native.Nat.{ℕ, zero, suc, ◌+◌, ◌*◌, ◌<◌, ◌≤◌}
use mathlib.Core.Path.{◌≡◌, refl, sym, ap, ◌∙◌}
use mathlib.Core.List.{List, [], ◌∷◌, ◌++◌, append-nil}
use lib.ListN.{length, set, drop, length-set}
use lib.Seq.{sets, sets-eq}
use native.Mathlib.Omega.{arith}
use Rattle.lists.specs.Rows.{joined}

module _ {A : Type 0} where
  set_front : (xs ys : List A) (i : ℕ) (a : A) → i < length xs → set (xs ++ ys) i a ≡ set xs i a ++ ys
  set_front [] ys i a h = absurd (omega arith)
  set_front (x ∷ xs) ys zero a h = refl
  set_front (x ∷ xs) ys (suc i) a h = ap (λ (l : List A). x ∷ l) (set_front xs ys i a (omega arith))

  pub sets_front : (xs ys vs : List A) (i : ℕ) → i + length vs ≤ length xs → sets (xs ++ ys) i vs ≡ sets xs i vs ++ ys
  sets_front xs ys [] i h = refl
  sets_front xs ys (a ∷ vs) i h =
      ap (λ (l : List A). sets l (suc i) vs) (set_front xs ys i a (omega arith)) ∙
      sets_front (set xs i a) ys vs (suc i) (omega (arith, length-set xs i a))

  -- k is i behind the first list
  set_behind : (xs ys : List A) (i k : ℕ) (a : A) → k ≡ length xs + i → set (xs ++ ys) k a ≡ xs ++ set ys i a
  set_behind [] ys i k a e = ap (λ (j : ℕ). set ys j a) (omega arith)
  set_behind (x ∷ xs) ys i zero a e = absurd (omega arith)
  set_behind (x ∷ xs) ys i (suc k) a e = ap (λ (l : List A). x ∷ l) (set_behind xs ys i k a (omega arith))

  pub sets_behind : (xs ys vs : List A) (i k : ℕ) → k ≡ length xs + i → sets (xs ++ ys) k vs ≡ xs ++ sets ys i vs
  sets_behind xs ys [] i k e = refl
  sets_behind xs ys (a ∷ vs) i k e =
      ap (λ (l : List A). sets l (suc k) vs) (set_behind xs ys i k a e) ∙ sets_behind xs (set ys i a) vs (suc i) (suc k) (omega arith)

  drop_all : (l : List A) (n : ℕ) → length l ≡ n → drop n l ≡ []
  drop_all [] zero e = refl
  drop_all [] (suc n) e = absurd (omega arith)
  drop_all (x ∷ xs) zero e = absurd (omega arith)
  drop_all (x ∷ xs) (suc n) e = drop_all xs n (omega arith)

  pub sets_whole : (l vs : List A) → length l ≡ length vs → sets l 0 vs ≡ vs
  sets_whole l vs e =
      sets-eq vs l 0 (omega arith) ∙
      ap (λ (r : List A). vs ++ r) (drop_all l (0 + length vs) (omega arith)) ∙ append-nil vs

module _ {A : Type 0} (f : A → List ℕ) (size : ℕ) (each : (x : A) → length (f x) ≡ size) where
  pub sets_joined : (l : List A) (i k : ℕ) (x : A) → i < length l → k ≡ size * i → sets (joined f l) k (f x) ≡ joined f (set l i x)
  unfolding joined
  sets_joined [] i k x h e = absurd (omega arith)
  sets_joined (y ∷ ys) zero k x h e =
      let first : k ≡ 0 = omega arith in
      ap (λ (j : ℕ). sets (f y ++ joined f ys) j (f x)) first ∙
      sets_front (f y) (joined f ys) (f x) 0 (omega (arith, each x, each y)) ∙
      ap (λ (r : List ℕ). r ++ joined f ys) (sets_whole (f y) (f x) (each y ∙ sym (each x)))
  sets_joined (y ∷ ys) (suc i) k x h e =
      sets_behind (f y) (joined f ys) (f x) (size * i) k (omega (arith, each y)) ∙
      ap (λ (r : List ℕ). f y ++ r) (sets_joined ys i (size * i) x (omega arith) refl)
