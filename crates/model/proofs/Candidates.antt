-- When a source is a candidate, read off its flags one at a time, and its rank. Assumes nothing.
use Prim.Native.Nat.{◌+◌}
use mathlib.Core.Path.{◌≡◌}
use mathlib.Core.Bool.{true, false, not, and-false, and-true}
use native.Mathlib.Numerals.{add-one}
use Rattle.model.specs.declared.Source.{Source}
use Rattle.model.specs.Requests.{waiting, candidate}
use Rattle.model.specs.Arbitration.{rank}
use Rattle.lists.proofs.Bools.{and_l}

module _ (r : Source) where
  pub delivered_no_candidate : r.delivered ≡ true → false ≡ candidate r
  delivered_no_candidate e = simp (e, and-false)

  pub masked_no_candidate : r.masked ≡ true → false ≡ candidate r
  masked_no_candidate e = simp (e, and-false)

  pub pending_candidate : r.delivered ≡ false → r.masked ≡ false → r.pending ≡ candidate r
  pending_candidate d m = simp (d, m, and-true)

  pub candidate_pending : candidate r ≡ true → r.pending ≡ true
  candidate_pending e = and_l r.pending (not r.delivered) (and_l (waiting r) (not r.masked) e)

  pub rank_candidate : candidate r ≡ true → r.priority + 1 ≡ rank r
  rank_candidate e = simp (e, add-one)

  pub rank_none : candidate r ≡ false → 0 ≡ rank r
  rank_none e = simp e
