-- The test of a state's bytes. Assumes nothing.
--   every_all            a test of each number of a range, as `every`
--   wrong_size, right_size    the test of bytes of another length and of a state's length
use Prim.Native.Nat.{ℕ, zero, suc}
use mathlib.Core.Path.{◌≡◌, refl, sym, ap, ◌∙◌}
use mathlib.Core.List.{List, [], ◌∷◌, ◌++◌, map}
use mathlib.Core.Bool.{Bool, false, ◌&&◌, and-true}
use native.Mathlib.Nat.{zero-add}
use native.Mathlib.Numerals.{add-one}
use borrow.Author.Tests.{eq-eqb, ne_eqb}
use lib.ListN.{length}
use Rattle.std.specs.List.{list_all, range_with_len}
use Rattle.std.proofs.lemmas.List.Folds.{list_all-append, list_all-map}
use Rattle.std.proofs.lemmas.List.FromFn.{map-range_with_len_more}
use Rattle.model.specs.Records.{max_sources, max_cores}
use Rattle.lists.specs.Walks.{every}
use Rattle.layout.specs.Bytes.{state_size, source_flags_of, core_flags_of, is_state}

pub every_all : (n : ℕ) (f : ℕ → Bool) → list_all f (range_with_len 0 n) ≡ every n f
unfolding every
every_all zero f = refl
every_all (suc k) f =
    let id : Bool → Bool = λ b. b in
    let more : map f (range_with_len 0 (suc k)) ≡ map f (range_with_len 0 k) ++ f k ∷ [] =
    rw add-one at (map-range_with_len_more f 0 k k (zero-add k)) in
    sym (list_all-map id f (range_with_len 0 (suc k)))
    ∙ ap (list_all id) more
    ∙ list_all-append id (map f (range_with_len 0 k)) (f k ∷ [])
    ∙ rw (list_all-map id f (range_with_len 0 k), every_all k f, and-true)

module _ (b : List ℕ) where
  pub wrong_size : (length b ≡ state_size → ⊥) → false ≡ is_state b
  unfolding is_state
  wrong_size h = rw (ne_eqb _ _ h)

  pub right_size :
      length b ≡ state_size → (sources cores : Bool) →
      sources ≡ every max_sources (source_flags_of b) → cores ≡ every max_cores (core_flags_of b) → sources && cores ≡ is_state b
  unfolding is_state
  right_size h sources cores es ec = rw (eq-eqb _ _ h, es, ec)
