-- Records of one length in a row of bytes, rows of one width joined, and the list of a function's values. Assumes nothing.
use Prim.Native.Nat.{ℕ, zero, suc, ◌+◌, ◌*◌, ◌<◌}
use native.Mathlib.Nat.{not-suc-le-zero, le_of_suc-le-suc, mul-zero, mul-suc, add_comm}
use native.Mathlib.Decide.{dec_lt}
use mathlib.Core.Path.{◌≡◌, refl, sym, ◌∙◌, ap}
use mathlib.Core.List.{List, [], ◌∷◌, ◌++◌, append-nil, append_assoc}
use native.Mathlib.Omega.{arith}
use native.Mathlib.Numerals.{add-one}
use lib.ListN.{length, get_or, take, drop, length-append, get_or-append}
use lib.Seq.{take-add, drop-drop, drop-append-add, get_or_at, get_or-append-add, ext_get_or}
use Rattle.lists.specs.Rows.{joined, tabulated}

-- ---- the first records of a row

joined_suc :
    {A : Type 0} (f : A → List ℕ) (l : List A) (i : ℕ) (d : A) → i < length l →
    joined f (take (suc i) l) ≡ joined f (take i l) ++ f (get_or l i d)
unfolding joined
joined_suc f [] i d h = absurd (not-suc-le-zero h)
joined_suc f (x ∷ l) zero d h = append-nil (f x)
joined_suc f (x ∷ l) (suc i) d h =
    ap (λ (r : List ℕ). f x ++ r) (joined_suc f l i d (le_of_suc-le-suc h)) ∙
    sym (append_assoc (f x) (joined f (take i l)) (f (get_or l i d)))

pub joined_more :
    {A : Type 0} (f : A → List ℕ) (l : List A) (i : ℕ) (d : A) → i < length l →
    joined f (take (i + 1) l) ≡ joined f (take i l) ++ f (get_or l i d)
joined_more f l i d h = rw add-one (joined_suc f l i d h)

joined_append :
    {A : Type 0} (f : A → List ℕ) (l k : List A) → joined f (l ++ k) ≡ joined f l ++ joined f k
unfolding joined
joined_append f [] k = refl
joined_append f (x ∷ l) k = ap (λ (r : List ℕ). f x ++ r) (joined_append f l k) ∙ sym (append_assoc (f x) (joined f l) (joined f k))

-- ---- a row of records of w bytes

module _ {A : Type 0} (f : A → List ℕ) (w : ℕ) (size : (x : A) → length (f x) ≡ w) where
  pub length_joined : (l : List A) → length (joined f l) ≡ w * length l
  unfolding joined
  length_joined [] = sym (mul-zero w)
  length_joined (x ∷ l) = rw (length-append (f x) (joined f l), size x, length_joined l, mul-suc) (add_comm w (w * length l))

  -- behind i records stands the next one
  drop_joined :
      (l : List A) (rest : List ℕ) (i : ℕ) (d : A) → i < length l →
      drop (w * i) (joined f l ++ rest) ≡ f (get_or l i d) ++ (joined f (drop (suc i) l) ++ rest)
  unfolding joined
  drop_joined [] rest i d h = absurd (not-suc-le-zero h)
  drop_joined (x ∷ l) rest zero d h = rw mul-zero (append_assoc (f x) (joined f l) rest)
  drop_joined (x ∷ l) rest (suc i) d h =
      let e : w * suc i ≡ length (f x) + w * i = mul-suc w i ∙ add_comm (w * i) w ∙ ap (λ (n : ℕ). n + w * i) (sym (size x)) in
      rw (e, append_assoc (f x) (joined f l) rest)
      (drop-append-add (f x) (joined f l ++ rest) (w * i) ∙ drop_joined l rest i d (le_of_suc-le-suc h))

  -- record i of a row that stands at a place of b
  pub record_at :
      (b : List ℕ) (from : ℕ) (l : List A) (rest : List ℕ) (i : ℕ) (d : A) → drop from b ≡ joined f l ++ rest → i < length l →
      drop (from + w * i) b ≡ f (get_or l i d) ++ (joined f (drop (suc i) l) ++ rest)
  record_at b from l rest i d e h = sym (drop-drop (w * i) from b) ∙ ap (drop (w * i)) e ∙ drop_joined l rest i d h

-- ---- rows of one width, joined

-- a number stands behind the rows before its own
pub get_or-joined :
    (w : ℕ) (t : List (List ℕ)) → ((r : ℕ) → r < length t → length (get_or t r []) ≡ w) → (r c : ℕ) → r < length t → c < w →
    get_or (joined (λ (l : List ℕ). l) t) (w * r + c) 0 ≡ get_or (get_or t r []) c 0
unfolding joined
get_or-joined w [] wide r c r-lt c_lt = absurd (omega arith)
get_or-joined w (x ∷ t) wide zero c r-lt c_lt =
    let first : w * 0 + c ≡ c = omega arith in
    let fits : c < length x = omega (arith, wide 0 r-lt) in
    rw first (get_or-append x (joined (λ (l : List ℕ). l) t) 0 c fits)
get_or-joined w (x ∷ t) wide (suc r) c r-lt c_lt =
    let behind : w * suc r + c ≡ length x + (w * r + c) = rw (wide 0 (omega arith), mul-suc w r) (omega arith) in
    rw behind
    (get_or-append-add x (joined (λ (l : List ℕ). l) t) (w * r + c) 0 ∙
    get_or-joined w t (λ i l. wide (suc i) (omega (arith, l))) r c (omega (arith, r-lt)) c_lt)

-- ---- the list of a function's values

pub length_tabulated : {A : Type 0} (n : ℕ) (f : ℕ → A) → length (tabulated n f) ≡ n
unfolding tabulated
length_tabulated zero f = refl
length_tabulated (suc n) f = length-append (tabulated n f) (f n ∷ []) ∙ omega (arith, length_tabulated n f)

pub get_or-tabulated : {A : Type 0} (n : ℕ) (f : ℕ → A) (i : ℕ) (d : A) → i < n → get_or (tabulated n f) i d ≡ f i
unfolding tabulated
get_or-tabulated zero f i d h = absurd (not-suc-le-zero h)
get_or-tabulated (suc n) f i d h = go (dec_lt i n) (get_or-tabulated n f i d)
  where
    go : Dec (i < n) → (i < n → get_or (tabulated n f) i d ≡ f i) → get_or (tabulated n f ++ f n ∷ []) i d ≡ f i
    go (yes p) below = get_or-append (tabulated n f) (f n ∷ []) d i (omega (arith, length_tabulated n f)) ∙ below p
    go (no q) below =
        let e : n ≡ i = omega arith in
        get_or_at (tabulated n f) (f n) [] d i (length_tabulated n f ∙ e) ∙ ap f e

pub tabulated_all :
    {A : Type 0} (n : ℕ) (f : ℕ → A) (l : List A) (d : A) → length l ≡ n → ((i : ℕ) → i < n → f i ≡ get_or l i d) → tabulated n f ≡ l
tabulated_all n f l d e h =
    ext_get_or d (tabulated n f) l (length_tabulated n f ∙ sym e)
    (λ i p. let q : i < n = omega (arith, length_tabulated n f) in get_or-tabulated n f i d q ∙ h i q)

-- records that are each the part of b where they stand are together the part from the first on
pub joined_tabulated :
    {A : Type 0} (f : A → List ℕ) (g : ℕ → A) (w from : ℕ) (b : List ℕ) (n : ℕ) →
    ((i : ℕ) → i < n → f (g i) ≡ take w (drop (from + w * i) b)) → joined f (tabulated n g) ≡ take (w * n) (drop from b)
unfolding joined tabulated
joined_tabulated f g w from b zero h = rw mul-zero
joined_tabulated f g w from b (suc n) h =
    rw (
      joined_append f (tabulated n g) (g n ∷ []),
      append-nil,
      joined_tabulated f g w from b n (λ i p. h i (omega arith)),
      h n (omega arith),
      mul-suc,
      take-add (w * n) w (drop from b),
      drop-drop (w * n) from b,
    )
