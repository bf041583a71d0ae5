-- The table of handovers from its words, and its words from it. Assumes nothing.
--   rows_read    the rows into which the words are cut are the table's
--   rows_laid    the rows one behind the other are its words
use Prim.Native.Nat.{ℕ, zero, suc, ◌+◌, ◌*◌, ◌/◌, ◌<◌, ◌≤◌}
use mathlib.Core.Path.{◌≡◌, refl, sym, ◌∙◌, ap}
use mathlib.Core.List.{List, [], ◌∷◌, ◌++◌}
use lib.ListN.{length, get_or, take, drop, length-drop}
use lib.Seq.{drop-drop, length-take-le, get_or-take, get_or-drop}
use native.Mathlib.Nat.{mul-zero, mul-suc, add_comm}
use native.Mathlib.Omega.{arith}
use Rattle.std.specs.List.{flat_map}
use Rattle.std.specs.Simd.{first_chunks}
use Rattle.lists.specs.Rows.{joined, tabulated}
use Rattle.lists.proofs.Rows.{tabulated_all}
use Rattle.model.specs.Records.{max_cores}
use Rattle.routines.specs.Routines.{Handovers}
use Rattle.routines.specs.Calls.{table_size, table_in, table_words}

-- ---- reading

module _ (n : ℕ) where
  length_cut : (k : ℕ) (l : List ℕ) → length (first_chunks n k l) ≡ k
  length_cut zero l = refl
  length_cut (suc k) l = ap (λ (j : ℕ). suc j) (length_cut k (drop n l))

  cut_row : (k : ℕ) (l : List ℕ) (r : ℕ) → r < k → get_or (first_chunks n k l) r [] ≡ take n (drop (n * r) l)
  cut_row zero l r h = absurd (omega arith)
  cut_row (suc k) l zero h = rw mul-zero refl
  cut_row (suc k) l (suc r) h =
      cut_row k (drop n l) r (omega arith) ∙ ap (take n) (drop-drop (n * r) n l ∙ ap (λ (i : ℕ). drop i l) (add_comm n (n * r) ∙ sym (mul-suc n r)))

pub rows_read : (w : List ℕ) {t : Handovers} → length w ≡ table_size → t ≡ first_chunks max_cores (length w / max_cores) w → t ≡ table_in w
unfolding table_in
rows_read w {t} size cut =
    let count : length w / max_cores ≡ max_cores = omega (arith, size) in
    cut ∙ ap (λ (k : ℕ). first_chunks max_cores k w) count ∙
    sym (tabulated_all max_cores _ (first_chunks max_cores max_cores w) [] (length_cut max_cores max_cores w) (λ r h. row r h ∙ sym (cut_row max_cores max_cores w r h)))
  where
    row : (r : ℕ) → r < max_cores → tabulated max_cores (λ c. get_or w (max_cores * r + c) 0) ≡ take max_cores (drop (max_cores * r) w)
    row r h =
        let behind = drop (max_cores * r) w in
        let fits : max_cores ≤ length behind = omega (arith, length-drop (max_cores * r) w, size, h) in
        tabulated_all max_cores _ (take max_cores behind) 0 (length-take-le max_cores behind fits)
        (λ c l. sym (get_or-take max_cores behind c 0 l ∙ get_or-drop (max_cores * r) w c 0))

-- ---- writing

pub rows_laid : (t : Handovers) → flat_map (λ (row : List ℕ). row) t ≡ table_words t
unfolding joined
rows_laid [] = refl
rows_laid (row ∷ t) = ap (λ (l : List ℕ). row ++ l) (rows_laid t)
