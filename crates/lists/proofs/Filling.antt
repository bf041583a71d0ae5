-- A list filled from the front: something is written to one element after another. Assumes nothing.
--   Filled P Q d size i l          a list of that size: P holds of each of the first i elements, Q of each of the others
--   filled_none, filled_more       nothing is written; the next element is
--   filled_tabulated               all are written: the list of a function's values
--   get_or-zeros, filled_zeros       a row of zeros, also past its end; all are written by 0
--   Filling f d l size i ks        a row of numbers filled so, one for each element of l (`FilledBy`)
--   filling_none, filling_more     the same of such a row
--   filled_written                 an element and its number written at the same index
use Prim.Native.Nat.{ℕ, zero, suc, ◌+◌, ◌<◌, ◌≤◌}
use mathlib.Core.Path.{◌≡◌, refl, sym, ◌∙◌}
use mathlib.Core.List.{List}
use lib.ListN.{length, get_or, set, replicate, length-replicate, length-set}
use lib.Seq.{get_or-set_same, get_or-set_other, ext_get_or}
use native.Mathlib.Omega.{arith}
use native.Mathlib.Decide.{ℕ_discrete}
use borrow.Author.Count.{below_more}
use Rattle.lists.specs.Rows.{tabulated, FilledBy}
use Rattle.lists.proofs.Rows.{tabulated_all}

-- ---- a list

pub record Filled {A : Type 0} (P Q : ℕ → A → Type 0) (d : A) (size i : ℕ) (l : List A) : Type 0 where
  pub whole : length l ≡ size
  pub filled : (j : ℕ) → j < i → P j (get_or l j d)
  pub rest : (j : ℕ) → i ≤ j → Q j (get_or l j d)

module _ {A : Type 0} (P Q : ℕ → A → Type 0) (d : A) {size : ℕ} {l : List A} where
  pub filled_none : length l ≡ size → ((j : ℕ) → Q j (get_or l j d)) → Filled P Q d size 0 l
  filled_none e rest = record { whole = e; filled = λ j h. absurd (omega arith); rest = λ j h. rest j }

  pub filled_more : {i : ℕ} → Filled P Q d size i l → i < size → (v : A) → P i v → Filled P Q d size (i + 1) (set l i v)
  filled_more {i} r h v e =
      record {
        whole = length-set l i v ∙ r.whole;
        filled =
            below_more (λ (j : ℕ). P j (get_or (set l i v) j d)) i
            (λ j p. rw (get_or-set_other l i j v d (omega arith)) (r.filled j p))
            (rw (get_or-set_same l i v d (omega (arith, r.whole))) e);
        rest = λ j p. rw (get_or-set_other l i j v d (omega arith)) (r.rest j (omega arith));
      }

-- what the others are is not said
abbrev pub Anything : {A : Type 0} → ℕ → A → Type 0
Anything j x = Unit {0}

-- ---- all are written

abbrev pub ValueOf : {A : Type 0} → (ℕ → A) → ℕ → A → Type 0
ValueOf f j x = x ≡ f j

module _ {A : Type 0} (d : A) where
  pub filled_tabulated :
      (f : ℕ → A) {size i : ℕ} {l : List A} → Filled (ValueOf f) Anything d size i l → size ≤ i → l ≡ tabulated size f
  filled_tabulated f {size} {i} {l} r h = sym (tabulated_all size f l d r.whole (λ j p. sym (r.filled j (omega arith))))

pub get_or-zeros : (n i : ℕ) → get_or {A = ℕ} (replicate n 0) i 0 ≡ 0
get_or-zeros zero i = refl
get_or-zeros (suc n) zero = refl
get_or-zeros (suc n) (suc i) = get_or-zeros n i

pub filled_zeros : {size i : ℕ} {l : List ℕ} → Filled (ValueOf (λ j. 0)) Anything 0 size i l → size ≤ i → l ≡ replicate size 0
filled_zeros {size} {i} {l} r h =
    ext_get_or 0 l (replicate size 0) (r.whole ∙ sym (length-replicate {A = ℕ} size 0))
    (λ j k. r.filled j (omega (arith, k, r.whole)) ∙ sym (get_or-zeros size j))

-- ---- a row of numbers

pub record Filling {A : Type 0} (f : ℕ → A → ℕ) (d : A) (l : List A) (size i : ℕ) (ks : List ℕ) : Type 0 where
  pub whole : length ks ≡ size
  pub filled : FilledBy f d l i ks

module _ {A : Type 0} (f : ℕ → A → ℕ) (d : A) (l : List A) where
  abbrev Number : ℕ → ℕ → Type 0
  Number j v = v ≡ f j (get_or l j d)

  abbrev Row : ℕ → ℕ → List ℕ → Type 0
  Row size i ks = Filled Number Anything 0 size i ks

  filling : {size i : ℕ} {ks : List ℕ} → Row size i ks → Filling f d l size i ks
  filling r = record { whole = r.whole; filled = r.filled }

  pub filling_begin : {size : ℕ} {ks : List ℕ} → length ks ≡ size → Filling f d l size 0 ks
  filling_begin e = filling (filled_none Number Anything 0 e (λ j. tt))

  pub filling_none : (size : ℕ) → Filling f d l size 0 (replicate size 0)
  filling_none size = filling_begin (length-replicate size 0)

  pub filling_more :
      {size i : ℕ} {ks : List ℕ} → Filling f d l size i ks → i < size → (v : ℕ) → v ≡ f i (get_or l i d) →
      Filling f d l size (i + 1) (set ks i v)
  filling_more {size} {i} {ks} r h v e =
      let row : Row size i ks = record { whole = r.whole; filled = r.filled; rest = λ j p. tt } in
      filling (filled_more Number Anything 0 row h v e)

  pub filled_written :
      (n : ℕ) (ks : List ℕ) → FilledBy f d l n ks → (i : ℕ) (x : A) (v : ℕ) → i < length l → i < length ks → v ≡ f i x →
      FilledBy f d (set l i x) n (set ks i v)
  filled_written n ks filled i x v in_List in_row e j h = go (ℕ_discrete j i)
    where
      go : Dec (j ≡ i) → get_or (set ks i v) j 0 ≡ f j (get_or (set l i x) j d)
      go (yes p) = rw (p, get_or-set_same ks i v 0 in_row, get_or-set_same l i x d in_List) e
      go (no q) = rw (get_or-set_other ks i j v 0 q, get_or-set_other l i j x d q) (filled j h)
