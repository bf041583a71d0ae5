-- Spare records that have the same bytes, one behind another: they are reset just if the first is. Assumes nothing.
--   by_first                 a test of every record from n on is the test of record n, where each is the same as the next
--   spare_cores_by_first, spare_sources_by_first    the same of the records that bytes hold, where the bytes repeat
use Prim.Native.Nat.{ℕ, zero, suc, ◌+◌, ◌-◌, ◌*◌, ◌<◌, ◌≤◌}
use mathlib.Core.Path.{◌≡◌, sym, ◌∙◌, ap, ap₂}
use mathlib.Core.List.{List}
use mathlib.Core.Bool.{Bool, true, ◌||◌}
use native.Mathlib.Omega.{arith}
use native.Mathlib.Decide.{ℕ_discrete}
use lib.ListN.{get_or}
use lib.Dec.{ltb, eqb}
use Rattle.model.specs.Records.{max_sources, max_cores, no_source, no_core, reset_source, reset_core, source_id, source_with, box_with, core_with}
use Rattle.model.specs.WellFormed.{is_reset_source, is_reset_core}
use Rattle.lists.specs.Walks.{every}
use Rattle.lists.proofs.Exact.{Exact, agree, eqb_exact, from_exact, every_exact}
use Rattle.layout.specs.Bytes.{word_at, flag_at, source_size, core_size, sources_from, cores_from, state_size}
use Rattle.layout.specs.Bytes.{source_from, core_from, source_of, core_of, state_from}
use Rattle.layout.proofs.InPlace.{source_read, core_read}
use Rattle.well_formed.specs.Loops.{spare_source, spare_core}
use Rattle.state_test.specs.OnBytes.{repeating}
use Rattle.well_formed.proofs.Clauses.{reset_source_exact, reset_core_exact}

-- ---- any records

module _ {A : Type 0} (f : ℕ → A) (n max : ℕ) (turn : (i : ℕ) → n ≤ i → suc i < max → f i ≡ f (suc i)) where
  same_as_first : (i : ℕ) → n ≤ i → i < max → f i ≡ f n
  same_as_first zero h g = let e : 0 ≡ n = omega arith in ap f e
  same_as_first (suc i) h g = go (ℕ_discrete (suc i) n) (same_as_first i)
    where
      go : Dec (suc i ≡ n) → (n ≤ i → i < max → f i ≡ f n) → f (suc i) ≡ f n
      go (yes e) rest = ap f e
      go (no d) rest = sym (turn i (omega arith) g) ∙ rest (omega arith) (omega arith)

  module _ (l : List A) (none fresh : A) (test : A → Bool) (exact : (x : A) → Exact (test x) (x ≡ fresh))
      (read : (i : ℕ) → i < max → get_or l i none ≡ f i) where
    pub by_first : n < max → test (f n) ≡ every max (λ i. ltb i n || test (get_or l i none))
    by_first h =
        agree (exact (f n)) (every_exact max (λ i. from_exact i n (exact (get_or l i none))))
        (λ e i g p. read i g ∙ same_as_first i p g ∙ e) (λ all. sym (read n h) ∙ all n h (omega arith))

-- ---- bytes

module _ (b : List ℕ) where
  -- bytes from one place up to another, each the same as the one a step further on
  module _ (step from to : ℕ) (e : every to (repeating b step from) ≡ true) where
    byte : (p q : ℕ) → from ≤ p → p < to → q ≡ p + step → get_or b p 0 ≡ get_or b q 0
    byte p q h g s =
        (every_exact to (λ i. from_exact i from (eqb_exact (get_or b i 0) (get_or b (i + step) 0)))).0 e p g h ∙
        ap (λ (i : ℕ). get_or b i 0) (sym s)

    word_same : (p q : ℕ) → from ≤ p → p + 1 < to → q ≡ p + step → word_at b p ≡ word_at b q
    word_same p q h g s =
        ap₂ (λ (x y : ℕ). x + 256 * y) (byte p q h (omega arith) s) (byte (p + 1) (q + 1) (omega arith) g (omega arith))

    flag_same : (p q : ℕ) → from ≤ p → p < to → q ≡ p + step → flag_at b p ≡ flag_at b q
    flag_same p q h g s = ap (λ (x : ℕ). eqb x 1) (byte p q h g s)

    source_same : (p q : ℕ) → from ≤ p → p + source_size ≤ to → q ≡ p + step → source_from b p ≡ source_from b q
    source_same p q h g s =
        let configured = word_same p q h (omega arith) s in
        let masked = flag_same (p + 2) (q + 2) (omega arith) (omega arith) (omega arith) in
        let pending = flag_same (p + 3) (q + 3) (omega arith) (omega arith) (omega arith) in
        let delivered = flag_same (p + 4) (q + 4) (omega arith) (omega arith) (omega arith) in
        let priority = word_same (p + 5) (q + 5) (omega arith) (omega arith) (omega arith) in
        let dropped = word_same (p + 7) (q + 7) (omega arith) (omega arith) (omega arith) in
        λ t. source_with (configured t) (masked t) (pending t) (delivered t) (priority t) (dropped t)

    core_same : (p q : ℕ) → from ≤ p → p + core_size ≤ to → q ≡ p + step → core_from b p ≡ core_from b q
    core_same p q h g s =
        let configured = word_same p q h (omega arith) s in
        let filled = flag_same (p + 2) (q + 2) (omega arith) (omega arith) (omega arith) in
        let dirty = flag_same (p + 3) (q + 3) (omega arith) (omega arith) (omega arith) in
        let source = word_same (p + 4) (q + 4) (omega arith) (omega arith) (omega arith) in
        let priority = word_same (p + 6) (q + 6) (omega arith) (omega arith) (omega arith) in
        λ t. core_with (configured t) (box_with (filled t) (dirty t) (source_id (source t)) (priority t))

  module _ (n : ℕ) (h : n < max_sources)
      (e : every (cores_from - source_size) (repeating b source_size (sources_from + source_size * n)) ≡ true) where
    source_turn : (i : ℕ) → n ≤ i → suc i < max_sources → source_of b i ≡ source_of b (suc i)
    source_turn i p q =
        source_same source_size (sources_from + source_size * n) (cores_from - source_size) e (sources_from + source_size * i)
        (sources_from + source_size * suc i) (omega arith) (omega arith) (omega arith)

    pub spare_sources_by_first : is_reset_source (source_of b n) ≡ every max_sources (spare_source (state_from b).sources n)
    spare_sources_by_first =
        by_first (source_of b) n max_sources source_turn (state_from b).sources no_source reset_source is_reset_source reset_source_exact
        (source_read b) h

  module _ (m : ℕ) (h : m < max_cores) (e : every (state_size - core_size) (repeating b core_size (cores_from + core_size * m)) ≡ true) where
    core_turn : (k : ℕ) → m ≤ k → suc k < max_cores → core_of b k ≡ core_of b (suc k)
    core_turn k p q =
        core_same core_size (cores_from + core_size * m) (state_size - core_size) e (cores_from + core_size * k) (cores_from + core_size * suc k)
        (omega arith) (omega arith) (omega arith)

    pub spare_cores_by_first : is_reset_core (core_of b m) ≡ every max_cores (spare_core (state_from b).cores m)
    spare_cores_by_first =
        by_first (core_of b) m max_cores core_turn (state_from b).cores no_core reset_core is_reset_core reset_core_exact (core_read b) h
