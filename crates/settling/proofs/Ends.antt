-- Settling ends: 2m cycles are enough, from either phase. Assumes nothing.
--   phases_settle    the state then is sound and at rest; at most m retractions and m deliveries; what is claimed stays claimed
use Prim.Native.Nat.{◌*◌}
use native.Mathlib.Omega.{arith}
use Rattle.settling.specs.Phases.{retracting, delivering, PhasesSettle}
use Rattle.settling.proofs.Run.{ended_within}
use Rattle.settling.proofs.Deliveries.{deliveries_end}
use Rattle.settling.proofs.Retractions.{retractions_end}

pub phases_settle : PhasesSettle
phases_settle s c (retracting all) = retractions_end s c all (2 * s.m) (omega arith)
phases_settle s c (delivering d) =
    ended_within (deliveries_end s c d (2 * s.m) (omega arith)) s.m s.m (omega arith) (omega arith)
