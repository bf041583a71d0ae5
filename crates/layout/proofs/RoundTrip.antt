-- A state there and back, and bytes there and back. Assumes nothing.
use Prim.Native.Nat.{ℕ, suc, ◌+◌, ◌-◌, ◌*◌, ◌<◌}
use mathlib.Core.Path.{◌≡◌, refl, sym, ◌∙◌, ap, ap₂}
use mathlib.Core.List.{List, [], ◌++◌, append-nil}
use mathlib.Core.Bool.{Bool, true, ◌&&◌}
use native.Mathlib.Omega.{arith}
use borrow.Author.Tests.{eq-eqb, eqb-true}
use lib.ListN.{length, get_or, take, drop, length-append}
use lib.Seq.{take_all, take-add, drop-drop, drop_at}
use lib.Dec.{eqb}
use Rattle.model.specs.declared.Controller.{Controller}
use Rattle.model.specs.Records.{max_sources, max_cores, no_source, no_core, source_at, core_at}
use Rattle.lists.specs.Walks.{every}
use Rattle.layout.specs.Bytes.{word, word_at, source_size, core_size, state_size, sources_from, cores_from, source_bytes, core_bytes}
use Rattle.layout.specs.Bytes.{state_bytes, source_of, core_of, state_from, source_flags_of, core_flags_of, is_state}
use Rattle.lists.specs.Rows.{joined, tabulated}
use Rattle.lists.proofs.Bools.{and_l, and_r}
use Rattle.lists.proofs.Walks.{every_in, every_out}
use Rattle.layout.specs.Statements.{Sized, StateReadBack, StateEncoded, BytesWrittenBack}
use Rattle.layout.proofs.Octets.{state_bytes_lem, byte}
use Rattle.layout.proofs.Records.{word_back, source_back, source_flagged, core_back, core_flagged, word_part, source_part, core_part}
use Rattle.lists.proofs.Rows.{length_joined, record_at, tabulated_all, joined_tabulated}

-- bytes that encode a state have its length
pub state_size_lem : (b : List ℕ) → is_state b ≡ true → length b ≡ state_size
unfolding is_state
state_size_lem b e = eqb-true (length b) state_size (and_l _ _ (and_l _ _ e))

-- ---- a state there and back

module _ (s : Controller) (sized : Sized s) where
  pub sources_length : length (joined source_bytes s.sources) ≡ source_size * max_sources
  sources_length = length_joined source_bytes source_size (λ r. refl) s.sources ∙ ap (λ (n : ℕ). source_size * n) sized.sources

  pub cores_length : length (joined core_bytes s.cores) ≡ core_size * max_cores
  cores_length = length_joined core_bytes core_size (λ c. refl) s.cores ∙ ap (λ (n : ℕ). core_size * n) sized.cores

  pub state_length : length (state_bytes s) ≡ state_size
  unfolding state_bytes
  state_length = rw (length-append (joined source_bytes s.sources) (joined core_bytes s.cores), sources_length, cores_length)

  -- what stands where source i and core k begin
  pub source_there :
      (i : ℕ) → i < max_sources →
      drop (sources_from + source_size * i) (state_bytes s)
      ≡ source_bytes (source_at s i) ++ (joined source_bytes (drop (suc i) s.sources) ++ joined core_bytes s.cores)
  unfolding state_bytes
  source_there i h =
      record_at source_bytes source_size (λ r. refl) (state_bytes s) sources_from s.sources (joined core_bytes s.cores) i no_source refl
      (omega (arith, sized.sources))

  cores_there : drop cores_from (state_bytes s) ≡ joined core_bytes s.cores ++ []
  unfolding state_bytes
  cores_there =
      drop_at (joined source_bytes s.sources) (joined core_bytes s.cores) (source_size * max_sources) sources_length
      ∙ sym (append-nil (joined core_bytes s.cores))

  pub core_there :
      (k : ℕ) → k < max_cores →
      drop (cores_from + core_size * k) (state_bytes s) ≡ core_bytes (core_at s k) ++ (joined core_bytes (drop (suc k) s.cores) ++ [])
  core_there k h =
      record_at core_bytes core_size (λ c. refl) (state_bytes s) cores_from s.cores [] k no_core cores_there (omega (arith, sized.cores))

pub state_read_back : StateReadBack
unfolding state_from
state_read_back s sized = λ t. record { n = n t; m = m t; sources = sources t; cores = cores t }
  where
    b : List ℕ
    b = state_bytes s

    n : word_at b 0 ≡ s.n
    n = unfold state_bytes in word_back s.n

    m : word_at b 2 ≡ s.m
    m = unfold state_bytes in word_back s.m

    sources : tabulated max_sources (source_of b) ≡ s.sources
    sources =
        tabulated_all max_sources (source_of b) s.sources no_source sized.sources
        (λ i h. source_back b _ (sources_from + source_size * i) (source_at s i) (source_there s sized i h))

    cores : tabulated max_cores (core_of b) ≡ s.cores
    cores =
        tabulated_all max_cores (core_of b) s.cores no_core sized.cores
        (λ k h. core_back b _ (cores_from + core_size * k) (core_at s k) (core_there s sized k h))

is_encoded : (s : Controller) → Sized s → is_state (state_bytes s) ≡ true
unfolding is_state
is_encoded s sized =
    rw (eq-eqb (length b) state_size (state_length s sized), sources, cores)
  where
    b : List ℕ
    b = state_bytes s

    sources : every max_sources (source_flags_of b) ≡ true
    sources =
        every_in max_sources (source_flags_of b)
        (λ i h. source_flagged b _ (sources_from + source_size * i) (source_at s i) (source_there s sized i h))

    cores : every max_cores (core_flags_of b) ≡ true
    cores =
        every_in max_cores (core_flags_of b)
        (λ k h. core_flagged b _ (cores_from + core_size * k) (core_at s k) (core_there s sized k h))

pub state_encoded : StateEncoded
state_encoded s sized = (is_encoded s sized, state_bytes_lem s)

-- ---- bytes there and back

-- a part and the part right behind it
parts : (b : List ℕ) (from n m : ℕ) → take n (drop from b) ++ take m (drop (from + n) b) ≡ take (n + m) (drop from b)
parts b from n m = rw (take-add n m (drop from b), drop-drop n from b)

module _ (b : List ℕ) (are : (i : ℕ) → get_or b i 0 < 256) (size : length b ≡ state_size) where
  sources_part :
      every max_sources (source_flags_of b) ≡ true →
      joined source_bytes (tabulated max_sources (source_of b)) ≡ take (source_size * max_sources) (drop sources_from b)
  sources_part e =
      joined_tabulated source_bytes (source_of b) source_size sources_from b max_sources
      (λ i h. source_part b are (sources_from + source_size * i) (omega arith) (every_out max_sources (source_flags_of b) e i h))

  cores_part :
      every max_cores (core_flags_of b) ≡ true →
      joined core_bytes (tabulated max_cores (core_of b)) ≡ take (core_size * max_cores) (drop cores_from b)
  cores_part e =
      joined_tabulated core_bytes (core_of b) core_size cores_from b max_cores
      (λ k h. core_part b are (cores_from + core_size * k) (omega arith) (every_out max_cores (core_flags_of b) e k h))

  written_back :
      every max_sources (source_flags_of b) ≡ true → every max_cores (core_flags_of b) ≡ true → state_bytes (state_from b) ≡ b
  unfolding state_bytes state_from
  written_back es ec =
      ap (λ (l : List ℕ). word (word_at b 0) ++ (word (word_at b 2) ++ l))
      (ap₂ ◌++◌ (sources_part es) (cores_part ec) ∙ parts b sources_from (source_size * max_sources) (core_size * max_cores))
      ∙ ap (λ (l : List ℕ). word (word_at b 0) ++ (l ++ take (state_size - 4) (drop 4 b))) (word_part b are 2 (omega arith))
      ∙ ap (λ (l : List ℕ). word (word_at b 0) ++ l) (parts b 2 2 (state_size - 4))
      ∙ ap (λ (l : List ℕ). l ++ take (state_size - 2) (drop 2 b)) (word_part b are 0 (omega arith))
      ∙ parts b 0 2 (state_size - 2)
      ∙ take_all state_size b (omega arith)

pub bytes_written_back : BytesWrittenBack
unfolding is_state
bytes_written_back b are e =
    written_back b (byte b are) (eqb-true (length b) state_size (and_l size sources both)) (and_r size sources both)
    (and_r (size && sources) cores e)
  where
    size : Bool
    size = eqb (length b) state_size

    sources : Bool
    sources = every max_sources (source_flags_of b)

    cores : Bool
    cores = every max_cores (core_flags_of b)

    both : size && sources ≡ true
    both = and_l (size && sources) cores e
