-- Writing bytes: runs of stores written from the front make up a state's bytes. Assumes nothing.
--   Written, written_none, source_more, core_more                how far a state is written
--   all_written                                                  past the last source and the last core the bytes are the state's
use Prim.Native.Nat.{ℕ, ◌+◌, ◌*◌, ◌<◌, ◌≤◌}
use mathlib.Core.Path.{◌≡◌, refl, sym, ◌∙◌, ap}
use mathlib.Core.List.{List, [], ◌++◌, append-nil, append_assoc}
use native.Mathlib.Omega.{arith}
use lib.ListN.{length, take}
use lib.Seq.{sets, length-sets, take_all}
use Rattle.model.specs.declared.Controller.{Controller}
use Rattle.model.specs.Records.{max_sources, max_cores, no_source, no_core, source_at, core_at}
use Rattle.layout.specs.Bytes.{word, source_size, core_size, state_size, sources_from, cores_from, source_bytes, core_bytes, state_bytes}
use Rattle.lists.specs.Rows.{joined}
use Rattle.layout.specs.Statements.{Sized}
use Rattle.lists.proofs.Writes.{take_sets}
use Rattle.lists.proofs.Rows.{joined_more}

-- ---- what is written from the front

-- bytes stored right behind a front make it longer
front_more :
    (b b' p vs : List ℕ) (i j : ℕ) → b' ≡ sets b i vs → j ≡ i + length vs → j ≤ length b → take i b ≡ p → take j b' ≡ p ++ vs
front_more b b' p vs i j e ej h ep =
    rw (e, ej) (take_sets b vs i (omega arith) ∙ ap (λ (l : List ℕ). l ++ vs) ep)

-- ---- a state

-- the bytes up to source i and core k, and where they end
abbrev front : Controller → ℕ → ℕ → List ℕ
front s i k =
    word s.n ++ (word s.m ++ (joined source_bytes (take i s.sources) ++ joined core_bytes (take k s.cores)))

abbrev place : ℕ → ℕ → ℕ
place i k = sources_from + source_size * i + core_size * k

-- b has a state's length, and begins with the sizes, the first i sources and the first k cores of s
pub record Written (s : Controller) (b : List ℕ) (i k : ℕ) : Type 0 where
  pub sized : Sized s
  pub size : length b ≡ state_size
  pub sources_within : i ≤ max_sources
  pub cores_within : k ≤ max_cores
  pub bytes : take (place i k) b ≡ front s i k

module _ (s : Controller) where
  pub written_none :
      (b b₁ b₂ : List ℕ) → Sized s → length b ≡ state_size → b₁ ≡ sets b 0 (word s.n) → b₂ ≡ sets b₁ 2 (word s.m) →
      Written s b₂ 0 0
  unfolding joined
  written_none b b₁ b₂ sized size e₁ e₂ =
      let size₁ : length b₁ ≡ state_size = ap length e₁ ∙ length-sets b 0 (word s.n) ∙ size in
      let first : take 2 b₁ ≡ word s.n = front_more b b₁ [] (word s.n) 0 2 e₁ refl (omega arith) refl in
      record {
        sized = sized;
        size = ap length e₂ ∙ length-sets b₁ 2 (word s.m) ∙ size₁;
        sources_within = omega arith;
        cores_within = omega arith;
        bytes = front_more b₁ b₂ (word s.n) (word s.m) 2 4 e₂ refl (omega arith) first;
      }

  -- the bytes vs of a record, stored right behind the front
  written_more :
      (b b' vs : List ℕ) (at i k i' k' : ℕ) → Written s b i k → at ≡ place i k → b' ≡ sets b at vs →
      i' ≤ max_sources → k' ≤ max_cores → place i' k' ≡ at + length vs → front s i' k' ≡ front s i k ++ vs → Written s b' i' k'
  written_more b b' vs at i k i' k' p ea e hi hk ej ef =
      record {
        sized = p.sized;
        size = ap length e ∙ length-sets b at vs ∙ p.size;
        sources_within = hi;
        cores_within = hk;
        bytes = front_more b b' (front s i k) vs at (place i' k') e ej (omega (arith, p.size)) (rw ea p.bytes) ∙ sym ef;
      }

  pub source_more :
      (b b' : List ℕ) (i : ℕ) → Written s b i 0 → i < max_sources →
      b' ≡ sets b (sources_from + source_size * i) (source_bytes (source_at s i)) → Written s b' (i + 1) 0
  unfolding joined
  source_more b b' i p h e =
      let g : i < length s.sources = omega (arith, p.sized.sources) in
      let more = joined_more source_bytes s.sources i no_source g in
      written_more b b' (source_bytes (source_at s i)) (sources_from + source_size * i) i 0 (i + 1) 0 p (omega arith) e
      (omega arith) (omega arith) (omega arith) (simp (more, append-nil))

  pub core_more :
      (b b' : List ℕ) (i k : ℕ) → Written s b i k → max_sources ≤ i → k < max_cores →
      b' ≡ sets b (cores_from + core_size * k) (core_bytes (core_at s k)) → Written s b' i (k + 1)
  core_more b b' i k p h g e =
      let q : k < length s.cores = omega (arith, p.sized.cores) in
      let more = joined_more core_bytes s.cores k no_core q in
      written_more b b' (core_bytes (core_at s k)) (cores_from + core_size * k) i k i (k + 1) p (omega (arith, p.sources_within)) e
      p.sources_within (omega arith) (omega arith) (simp (more, append_assoc))

  pub all_written : (b : List ℕ) (i k : ℕ) → Written s b i k → max_sources ≤ i → max_cores ≤ k → b ≡ state_bytes s
  unfolding state_bytes
  all_written b i k p h g =
      let whole : length b ≤ place i k = omega (arith, p.size) in
      let sources : take i s.sources ≡ s.sources = take_all i s.sources (omega (arith, p.sized.sources)) in
      let cores : take k s.cores ≡ s.cores = take_all k s.cores (omega (arith, p.sized.cores)) in
      sym (take_all (place i k) b whole) ∙ p.bytes ∙ rw (sources, cores)
