-- The cells of the table of handovers. Assumes nothing.
--   Whole t          it has a row for each core, with a cell for each core
--   cell_by t r c b   the cell, or one more of it, held
--   cell_counted     a count changes one cell, if any: that of the last holder's row and the claiming core's column
--   whole_counted    and leaves the table whole
use Prim.Native.Nat.{ℕ, zero, suc, pred, ◌<◌, ◌≤◌}
use mathlib.Core.Path.{◌≡◌, refl, sym, ◌∙◌, ap, subst}
use mathlib.Core.Logic.{◌≢◌}
use mathlib.Core.List.{List, []}
use mathlib.Core.Bool.{Bool, false, not, ◌&&◌, cond}
use lib.Dec.{eqb}
use lib.ListN.{length, get_or, set, length-set}
use lib.Seq.{get_or-set_same, get_or-set_other}
use native.Mathlib.Omega.{arith}
use native.Mathlib.Decide.{ℕ_discrete}
use borrow.Author.Tests.{eq-eqb, ne_eqb}
use Rattle.lists.specs.Numbers.{one_more_up_to}
use Rattle.lists.proofs.Bools.{Flag, on, off, flag, clash, refuted}
use Rattle.lists.proofs.Exact.{Exact, ◌and◌, ltb_exact, eqb_exact, refuted_exact}
use Rattle.lists.proofs.Writes.{read_set}
use Rattle.model.specs.Records.{max_cores}
use Rattle.routines.specs.Routines.{Handovers, row_at, cell_at, most_handovers, raised, handed_over, counted}

pub record Whole (t : Handovers) : Type 0 where
  pub rows : length t ≡ max_cores
  pub columns : (r : ℕ) → r < max_cores → length (row_at t r) ≡ max_cores

-- Core r held the request last, as `holder` says, and core c, another one, claims it.
abbrev pub counts : ℕ → ℕ → ℕ → ℕ → Bool
counts holder k r c = eqb k c && not (eqb r c) && eqb holder (suc r)

abbrev pub cell_by : Handovers → ℕ → ℕ → Bool → ℕ
cell_by t r c b = cond b (one_more_up_to most_handovers (cell_at t r c)) (cell_at t r c)

same_number : {a b : ℕ} → suc a ≡ suc b → a ≡ b
same_number e = omega arith

counts_exact : (holder k r c : ℕ) → Exact (counts holder k r c) (((k ≡ c) × ¬ (r ≡ c)) × (holder ≡ suc r))
counts_exact holder k r c = eqb_exact k c and refuted_exact (eqb_exact r c) and eqb_exact holder (suc r)

handed_exact : (holder k : ℕ) → Exact (handed_over holder k) ((0 < holder) × ¬ (holder ≡ suc k))
handed_exact holder k = ltb_exact 0 holder and refuted_exact (eqb_exact holder (suc k))

module _ (t : Handovers) (whole : Whole t) (h k : ℕ) (h-lt : h < max_cores) (k_lt : k < max_cores) where
  row_fits : h < length t
  row_fits = omega (arith, whole.rows)

  cell_fits : k < length (row_at t h)
  cell_fits = omega (arith, whole.columns h h-lt)

  abbrev new : List ℕ
  new = set (row_at t h) k (one_more_up_to most_handovers (cell_at t h k))

  raised_row : row_at (raised t h k) h ≡ new
  raised_row = get_or-set_same t h new [] row_fits

  raised_here : cell_at (raised t h k) h k ≡ one_more_up_to most_handovers (cell_at t h k)
  raised_here = ap (λ l. get_or l k 0) raised_row ∙ get_or-set_same (row_at t h) k (one_more_up_to most_handovers (cell_at t h k)) 0 cell_fits

  raised_beside : (c : ℕ) → c ≢ k → cell_at (raised t h k) h c ≡ cell_at t h c
  raised_beside c d = ap (λ l. get_or l c 0) raised_row ∙ get_or-set_other (row_at t h) k c (one_more_up_to most_handovers (cell_at t h k)) 0 d

  raised_apart : (r c : ℕ) → r ≢ h → cell_at (raised t h k) r c ≡ cell_at t r c
  raised_apart r c d = ap (λ l. get_or l c 0) (get_or-set_other t h r new [] d)

  whole_raised : Whole (raised t h k)
  whole_raised =
      record {
        rows = length-set t h new ∙ whole.rows;
        columns = λ r l.
            read_set (λ x. length x ≡ max_cores) t h r new [] row_fits
            (λ e. length-set (row_at t h) k (one_more_up_to most_handovers (cell_at t h k)) ∙ whole.columns h h-lt)
            (λ d. whole.columns r l);
      }

  cell_raised : h ≢ k → (r c : ℕ) → cell_at (raised t h k) r c ≡ cell_by t r c (counts (suc h) k r c)
  cell_raised ne r c = go (ℕ_discrete r h) (ℕ_discrete c k)
    where
      go : Dec (r ≡ h) → Dec (c ≡ k) → cell_at (raised t h k) r c ≡ cell_by t r c (counts (suc h) k r c)
      go (yes p) (yes q) =
          rw (p, q, eq-eqb k k refl, ne_eqb h k ne, eq-eqb (suc h) (suc h) refl) raised_here
      go (yes p) (no q) = rw (p, ne_eqb k c (λ e. q (sym e))) (raised_beside c q)
      go (no p) q =
          let apart : counts (suc h) k r c ≡ false =
          refuted (counts (suc h) k r c) (λ e. p (sym (same_number ((counts_exact (suc h) k r c).0 e).1))) in
          rw apart (raised_apart r c p)

module _ (t : Handovers) (whole : Whole t) (k : ℕ) (k_lt : k < max_cores) where
  -- no handover: nobody held it, or core k itself
  quiet : (holder : ℕ) → handed_over holder k ≡ false → (r c : ℕ) → counts holder k r c ≡ false
  quiet holder e r c =
      refuted (counts holder k r c)
      (λ p.
      let ((same, apart), held) = (counts_exact holder k r c).0 p in
      clash ((handed_exact holder k).1 (omega (arith, held), λ z. apart (omega (arith, z, held, same)))) e)

  pub cell_counted :
      (holder : ℕ) → holder ≤ max_cores → (r c : ℕ) → cell_at (counted t holder k) r c ≡ cell_by t r c (counts holder k r c)
  unfolding counted
  cell_counted holder le r c = go (flag (handed_over holder k)) holder refl
    where
      go : Flag (handed_over holder k) → (x : ℕ) → holder ≡ x →
          cell_at (cond (handed_over holder k) (raised t (pred holder) k) t) r c ≡ cell_by t r c (counts holder k r c)
      go (off e) x is = rw (e, quiet holder e r c)
      go (on e) zero is = absurd (omega (arith, is, ((handed_exact holder k).0 e).0))
      go (on e) (suc h) is =
          let ne : h ≢ k = λ z. ((handed_exact holder k).0 e).1 (omega arith) in
          rw e (subst (λ y. cell_at (raised t (pred y) k) r c ≡ cell_by t r c (counts y k r c)) (sym is)
          (cell_raised t whole h k (omega arith) k_lt ne r c))

  pub whole_counted : (holder : ℕ) → holder ≤ max_cores → Whole (counted t holder k)
  unfolding counted
  whole_counted holder le = go (flag (handed_over holder k))
    where
      go : Flag (handed_over holder k) → Whole (cond (handed_over holder k) (raised t (pred holder) k) t)
      go (off e) = rw e whole
      go (on e) =
          let some : 0 < holder = ((handed_exact holder k).0 e).0 in
          let lt : pred holder < max_cores = omega arith in
          rw e (whole_raised t whole (pred holder) k lt k_lt)
