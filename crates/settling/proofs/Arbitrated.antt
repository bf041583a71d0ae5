-- When a delivery takes place: what arbitration has found of source i + 1 and core k, and what follows at once. Assumes nothing.
--   Arbitrated s i k       in the delivering phase source i + 1 has won, and core k takes its request
--   CandidateBefore s k j  what a candidate j after the delivery was: a candidate, or the request in core k's box
use Prim.Native.Nat.{ℕ, ◌<◌, ◌≤◌}
use mathlib.Core.Path.{◌≡◌}
use mathlib.Core.Bool.{true, false, not}
use lib.ListN.{length}
use native.Mathlib.Omega.{arith}
use borrow.Author.Tests.{not-true}
use Rattle.model.specs.declared.Controller.{Controller}
use Rattle.model.specs.Records.{source_at, core_at}
use Rattle.model.specs.Requests.{current_priority, waiting, candidate}
use Rattle.lists.proofs.Bools.{and_l, and_r, clash, Flag, on, off, flag}
use Rattle.model.proofs.Candidates.{candidate_pending}
use Rattle.model.specs.WellFormed.{Consistent}
use Rattle.settling.specs.Phases.{Delivering}
use Rattle.settling.proofs.Writes.{Names}
use Rattle.settling.proofs.Next.{Contest}

pub record Arbitrated (s : Controller) (i k : ℕ) : Type 0 where
  pub consistent : Consistent s
  pub delivering : Delivering s
  pub won : Contest s i k

pub data CandidateBefore (s : Controller) (k j : ℕ) : Type 0 where
  stayed : candidate (source_at s j) ≡ true → CandidateBefore s k j
  evicted : (source_at s j).priority ≡ current_priority (core_at s k) → CandidateBefore s k j

module _ {s : Controller} {i k : ℕ} (a : Arbitrated s i k) where
  pub index_in : i < length s.sources
  index_in = omega (arith, a.won.source_in, a.consistent.n_le, a.consistent.sources_length)

  pub number_in : k < length s.cores
  number_in = omega (arith, a.won.core_in, a.consistent.m_le, a.consistent.cores_length)

  pub was_pending : (source_at s i).pending ≡ true
  was_pending = candidate_pending (source_at s i) a.won.is_candidate

  pub was_undelivered : (source_at s i).delivered ≡ false
  was_undelivered =
      let waits : waiting (source_at s i) ≡ true = and_l (waiting (source_at s i)) (not (source_at s i).masked) a.won.is_candidate in
      not-true (source_at s i).delivered (and_r (source_at s i).pending (not (source_at s i).delivered) waits)

  -- no box holds the candidate
  pub not_held : (j : ℕ) → j < s.m → ¬ (Names (core_at s j).message i)
  not_held j h n = clash (a.consistent.backed j h n.0).delivered (rw (← n.1) was_undelivered)

  pub configured_le_current : (core_at s k).configured ≤ current_priority (core_at s k)
  configured_le_current = go (flag (core_at s k).message.filled)
    where
      go : Flag (core_at s k).message.filled → (core_at s k).configured ≤ current_priority (core_at s k)
      go (on f) = rw f (omega (arith, (a.consistent.backed k a.won.core_in f).above (a.delivering.clean k a.won.core_in)))
      go (off f) = rw f (omega arith)
