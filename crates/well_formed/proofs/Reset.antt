-- A controller after a reset is well formed, and making answers one exactly for sizes in range. Assumes nothing.
--   top_positive               the top priority is at least 1, whatever n is
--   core_reset, source_reset   what a reset controller holds at an index
use Prim.Native.Nat.{ℕ, zero, suc, ◌+◌, ◌^◌, ◌<◌, ◌≤◌}
use mathlib.Core.Path.{◌≡◌, refl, ap}
use mathlib.Core.Bool.{false}
use lib.ListN.{get_or, replicate, length-replicate, get_or-replicate}
use native.Mathlib.Nat.{pow-le-pow_right}
use native.Mathlib.Omega.{arith}
use borrow.Author.Tests.{not-true}
use Rattle.model.specs.declared.Core.{Core}
use Rattle.model.specs.Records.{max_sources, max_cores, no_source, no_core, reset_source, reset_core, reset, source_at, core_at}
use Rattle.model.specs.Priorities.{floor_log2, priority_width, top_priority}
use Rattle.model.specs.Requests.{candidate}
use Rattle.model.specs.WellFormed.{sizes_in_range}
use Rattle.model.specs.Commands.{make}
use Rattle.model.specs.Statements.{ResetWellFormed, MakesExactly}
use Rattle.lists.proofs.Bools.{clash}
use Rattle.lists.proofs.Exact.{refuted_exact}
use Rattle.well_formed.proofs.Clauses.{sizes_exact, SourceFits}

pub top_positive : (n : ℕ) → 1 ≤ top_priority n
unfolding top_priority priority_width
top_positive n =
    let h : 2 ^ 1 ≤ 2 ^ (floor_log2 n + 2) = pow-le-pow_right (omega arith) {i = 1} (omega arith) in omega arith

-- at each index: past the end too, since the blank core is a reset one
core_of_replicate : (M k : ℕ) → get_or (replicate M reset_core) k no_core ≡ reset_core
core_of_replicate zero k = refl
core_of_replicate (suc M) zero = refl
core_of_replicate (suc M) (suc k) = core_of_replicate M k

pub core_reset : (n m k : ℕ) → core_at (reset n m) k ≡ reset_core
core_reset n m = core_of_replicate max_cores

pub source_reset : (n m i : ℕ) → i < max_sources → source_at (reset n m) i ≡ reset_source
source_reset n m i h = get_or-replicate max_sources i reset_source no_source h

reset_fits : (top : ℕ) → 1 ≤ top → SourceFits top reset_source
reset_fits top h = record { configured = (omega arith, h); request = λ e. clash e refl; idle = λ e. (refl, refl) }

pub reset-well_formed : ResetWellFormed
reset-well_formed n m r =
    let source : (i : ℕ) → i < n → source_at (reset n m) i ≡ reset_source = λ i h. source_reset n m i (omega arith) in
    let fits : (i : ℕ) → i < n → SourceFits (top_priority n) (source_at (reset n m) i)
    = λ i h. rw (source i h) (reset_fits (top_priority n) (top_positive n)) in
    let core = core_reset n m in
    let empty : (k : ℕ) → (core_at (reset n m) k).message.filled ≡ false = λ k. ap (λ (c : Core). c.message.filled) (core k) in
    record {
      consistent =
          record {
            some_source = r.some_source;
            n_le = r.n_le;
            some_core = r.some_core;
            m_le = r.m_le;
            sources_length = length-replicate max_sources reset_source;
            cores_length = length-replicate max_cores reset_core;
            configured_source = λ i h. (fits i h).configured;
            request_range = λ i h. (fits i h).request;
            idle_source = λ i h. (fits i h).idle;
            configured_core = λ k h. omega (arith, ap (λ (c : Core). c.configured) (core k));
            unfilled_box = λ k h e. ap (λ (c : Core). c.message) (core k);
            spare_source = λ i a b. source_reset n m i b;
            spare_core = λ k a b. core k;
            backed = λ k h e. clash e (empty k);
            distinct = λ j k g h e f q. clash e (empty j);
          };
      clean = λ k h. ap (λ (c : Core). c.message.dirty) (core k);
      quiet =
          record {
            candidates_below = λ i k g h e. clash e (ap candidate (source i g));
            covered_below = λ j k g h e. clash e (empty j);
          };
      frugal = λ j k g h e f. clash e (empty j);
    }

pub makes_exactly : MakesExactly
unfolding make
makes_exactly n m =
    (λ r. rw ((sizes_exact n m).1 r), λ h. rw (not-true (sizes_in_range n m) ((refuted_exact (sizes_exact n m)).1 h)))
