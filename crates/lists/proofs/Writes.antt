-- What is read after one element of a list is written, whatever the index read; and runs of stores. Assumes nothing.
--   read_set        a property of it: of the element written where that is read, else of the element that was there
--   read_kept       the element written reads as the one before it: what is read stays, past the list's end too
--   read_written    a choice by whether the place written is read, between what the two elements read
--   sets_append     two runs of stores, one right behind the other, are one run
--   sets_before     the same where the one behind is stored first
--   take_sets       a run of stores right behind a front makes the front longer
use Prim.Native.Nat.{ℕ, suc, ◌+◌, ◌<◌, ◌≤◌}
use mathlib.Core.Path.{◌≡◌, refl, ap, ◌∙◌}
use mathlib.Core.Logic.{◌↔◌, ◌≢◌}
use mathlib.Core.List.{List, [], ◌∷◌, ◌++◌}
use mathlib.Core.Bool.{cond}
use lib.Dec.{eqb}
use lib.ListN.{length, get_or, set, take, drop, length-append, length-take}
use lib.Seq.{set_out, set_comm, get_or-set_same, get_or-set_other, sets, sets-eq, take_at}
use native.Mathlib.Omega.{arith}
use native.Mathlib.Decide.{dec_lt, ℕ_discrete}
use borrow.Author.Tests.{eq-eqb, ne_eqb}

module _ {A : Type 0} (P : A → Type 0) (l : List A) (i j : ℕ) (a d : A) where
  pub read_set : i < length l → (j ≡ i → P a) → (j ≢ i → P (get_or l j d)) → P (get_or (set l i a) j d)
  read_set fits same other = go (ℕ_discrete j i)
    where
      go : Dec (j ≡ i) → P (get_or (set l i a) j d)
      go (yes e) = rw (e, get_or-set_same l i a d fits) (same e)
      go (no h) = rw (get_or-set_other l i j a d h) (other h)

module _ {A B : Type 0} (read : ℕ → A → B) (l : List A) (i j : ℕ) (a d : A) where
  pub read_kept : read i a ≡ read i (get_or l i d) → read j (get_or (set l i a) j d) ≡ read j (get_or l j d)
  read_kept same = go (dec_lt i (length l))
    where
      go : Dec (i < length l) → read j (get_or (set l i a) j d) ≡ read j (get_or l j d)
      go (yes fits) = read_set (λ x. read j x ≡ read j (get_or l j d)) l i j a d fits (λ e. rw e same) (λ h. refl)
      go (no past) = rw (set_out l i a (omega arith))

  -- x and y are equal exactly where the place written is read
  pub read_written :
      i < length l → (x y : ℕ) → (x ≡ y) ↔ (j ≡ i) → {v u : B} → (j ≡ i → v ≡ read j a) → u ≡ read j (get_or l j d) →
      cond (eqb x y) v u ≡ read j (get_or (set l i a) j d)
  read_written fits x y place {v} {u} new old =
      read_set (λ q. cond (eqb x y) v u ≡ read j q) l i j a d fits
      (λ e. rw (eq-eqb x y (place.1 e)) (new e))
      (λ h. rw (ne_eqb x y (λ e. h (place.0 e))) old)

-- ---- runs of stores

module _ {A : Type 0} where
  pub sets_append :
      (b : List A) (i j : ℕ) (xs ys : List A) → j ≡ i + length xs → sets (sets b i xs) j ys ≡ sets b i (xs ++ ys)
  sets_append b i j [] ys e = ap (λ (k : ℕ). sets b k ys) (omega arith)
  sets_append b i j (x ∷ xs) ys e = sets_append (set b i x) (suc i) j xs ys (omega arith)

  set_past : (b xs : List A) (i j : ℕ) (y : A) → i + length xs ≤ j → sets (set b j y) i xs ≡ set (sets b i xs) j y
  set_past b [] i j y h = refl
  set_past b (x ∷ xs) i j y h =
      ap (λ (l : List A). sets l (suc i) xs) (set_comm b j i y x (λ e. omega arith)) ∙ set_past (set b i x) xs (suc i) j y (omega arith)

  sets_past : (b xs ys : List A) (i j : ℕ) → i + length xs ≤ j → sets (sets b j ys) i xs ≡ sets (sets b i xs) j ys
  sets_past b xs [] i j h = refl
  sets_past b xs (y ∷ ys) i j h =
      sets_past (set b j y) xs ys i (suc j) (omega arith) ∙ ap (λ (l : List A). sets l (suc j) ys) (set_past b xs i j y h)

  pub sets_before :
      (b : List A) (i j : ℕ) (xs ys : List A) → j ≡ i + length xs → sets (sets b j ys) i xs ≡ sets b i (xs ++ ys)
  sets_before b i j xs ys e = sets_past b xs ys i j (omega arith) ∙ sets_append b i j xs ys e

  pub take_sets : (l vs : List A) (i : ℕ) → i + length vs ≤ length l → take (i + length vs) (sets l i vs) ≡ take i l ++ vs
  take_sets l vs i h =
      let size : length (take i l ++ vs) ≡ i + length vs = simp (length-append, length-take) (omega arith) in
      ap (take (i + length vs)) (sets-eq vs l i h) ∙ take_at (take i l ++ vs) (drop (i + length vs) l) (i + length vs) size
