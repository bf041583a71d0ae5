-- What the test of a simulation asks of one core and of one source. Helpers of contracts; nothing here needs to be
-- believed. Assumes nothing.
--   Sizes b active holder n m    a simulation of n sources and m cores, in range, in a host's memory
--   core_stands s k               core k is idle at 0, or runs a claimed request at its priority and held it last
--   source_stands s i             the last holder of source i + 1 is below m and, if the request is claimed, runs it
use Rattle.std.specs.Prelude.{ℕ, suc, pred, ◌≤◌, ◌≡◌, List, Bool, not, ◌&&◌, ◌||◌, cond, length, ltb, leb, eqb}
use Rattle.model.specs.Records.{max_sources, max_cores, source_at, core_at}
use Rattle.model.specs.Requests.{claimed}
use Rattle.layout.specs.Bytes.{state_size, state_from}
use Rattle.routines.specs.declared.Routines.{Routines}
use Rattle.routines.specs.Routines.{active_at, holder_at, active_index, runs}

pub record Sizes (b active holder : List ℕ) (n m : ℕ) : Type 0 where
  pub bytes : length b ≡ state_size
  pub active_length : length active ≡ max_cores
  pub holder_length : length holder ≡ max_sources
  pub n_is : n ≡ (state_from b).n
  pub m_is : m ≡ (state_from b).m
  pub n_le : n ≤ max_sources
  pub m_le : m ≤ max_cores

unfoldable pub core_stands : Routines → ℕ → Bool
core_stands s k =
    cond (eqb (active_at s k) 0) (eqb (core_at s.controller k).configured 0)
    (runs s k && (eqb (core_at s.controller k).configured (source_at s.controller (active_index s k)).priority
    && eqb (holder_at s (active_index s k)) (suc k)))

unfoldable pub source_stands : Routines → ℕ → Bool
source_stands s i =
    leb (holder_at s i) s.controller.m
    && (not (ltb i s.controller.n && claimed s.controller i)
    || (ltb 0 (holder_at s i) && eqb (active_at s (pred (holder_at s i))) (suc i)))
