-- One record of a state's bytes, read and written where it lies. Assumes nothing.
--   source_read, core_read            the state that bytes encode has the records that are read at their places
--   source_in_place, core_in_place    what is read at its place is the record
--   source_stored, core_stored        its bytes stored there leave the bytes of the state with that record
use Prim.Native.Nat.{ℕ, ◌+◌, ◌*◌, ◌<◌}
use mathlib.Core.Path.{◌≡◌, refl, ap, ◌∙◌}
use mathlib.Core.List.{List, ◌++◌}
use lib.Seq.{sets}
use native.Mathlib.Omega.{arith}
use Rattle.model.specs.declared.Source.{Source}
use Rattle.model.specs.declared.Core.{Core}
use Rattle.model.specs.declared.Controller.{Controller}
use Rattle.model.specs.Records.{max_sources, max_cores, no_source, no_core, source_at, core_at, with_source, with_core}
use Rattle.lists.specs.Rows.{joined}
use Rattle.lists.proofs.Rows.{get_or-tabulated}
use Rattle.lists.proofs.Stores.{sets_front, sets_behind, sets_joined}
use Rattle.layout.specs.Bytes.{word, source_size, core_size, sources_from, cores_from, source_bytes, core_bytes, state_bytes, source_from}
use Rattle.layout.specs.Bytes.{core_from, state_from}
use Rattle.layout.specs.Statements.{Sized}
use Rattle.layout.proofs.Records.{source_back, core_back}
use Rattle.layout.proofs.RoundTrip.{sources_length, source_there, core_there}

module _ (b : List ℕ) where
  pub source_read : (i : ℕ) → i < max_sources → source_at (state_from b) i ≡ source_from b (sources_from + source_size * i)
  unfolding state_from
  source_read i h = get_or-tabulated max_sources (λ (j : ℕ). source_from b (sources_from + source_size * j)) i no_source h

  pub core_read : (k : ℕ) → k < max_cores → core_at (state_from b) k ≡ core_from b (cores_from + core_size * k)
  unfolding state_from
  core_read k h = get_or-tabulated max_cores (λ (j : ℕ). core_from b (cores_from + core_size * j)) k no_core h

module _ (s : Controller) (sized : Sized s) where
  abbrev sizes : List ℕ
  sizes = word s.n ++ word s.m

  abbrev sources : List ℕ
  sources = joined source_bytes s.sources

  abbrev cores : List ℕ
  cores = joined core_bytes s.cores

  pub source_in_place : (i : ℕ) → i < max_sources → source_from (state_bytes s) (sources_from + source_size * i) ≡ source_at s i
  source_in_place i h = source_back (state_bytes s) _ (sources_from + source_size * i) (source_at s i) (source_there s sized i h)

  pub core_in_place : (k : ℕ) → k < max_cores → core_from (state_bytes s) (cores_from + core_size * k) ≡ core_at s k
  core_in_place k h = core_back (state_bytes s) _ (cores_from + core_size * k) (core_at s k) (core_there s sized k h)

  pub source_stored :
      (i : ℕ) (r : Source) → i < max_sources →
      sets (state_bytes s) (sources_from + source_size * i) (source_bytes r) ≡ state_bytes (with_source s i r)
  unfolding state_bytes
  source_stored i r h =
      sets_behind sizes (sources ++ cores) (source_bytes r) (source_size * i) (sources_from + source_size * i) refl ∙
      ap (λ (l : List ℕ). sizes ++ l)
      (sets_front sources cores (source_bytes r) (source_size * i) (omega (arith, sources_length s sized)) ∙
      ap (λ (l : List ℕ). l ++ cores)
      (sets_joined source_bytes source_size (λ x. refl) s.sources i (source_size * i) r (omega (arith, sized.sources)) refl))

  pub core_stored :
      (k : ℕ) (c : Core) → k < max_cores →
      sets (state_bytes s) (cores_from + core_size * k) (core_bytes c) ≡ state_bytes (with_core s k c)
  unfolding state_bytes
  core_stored k c h =
      sets_behind sizes (sources ++ cores) (core_bytes c) (source_size * max_sources + core_size * k) (cores_from + core_size * k)
      (omega arith) ∙
      ap (λ (l : List ℕ). sizes ++ l)
      (sets_behind sources cores (core_bytes c) (core_size * k) (source_size * max_sources + core_size * k)
      (omega (arith, sources_length s sized)) ∙
      ap (λ (l : List ℕ). sources ++ l)
      (sets_joined core_bytes core_size (λ x. refl) s.cores k (core_size * k) c (omega (arith, sized.cores)) refl))
