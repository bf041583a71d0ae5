-- What the test reads from a simulation in a host's memory. Assumes nothing.
use Prim.Native.Nat.{ℕ, suc, pred, ◌-◌, ◌<◌}
use mathlib.Core.Path.{◌≡◌, sym, ◌∙◌}
use mathlib.Core.List.{List}
use mathlib.Core.Bool.{Bool, not, ◌&&◌}
use native.Mathlib.Omega.{arith}
use Rattle.model.specs.declared.Source.{Source}
use Rattle.model.specs.Records.{max_sources}
use Rattle.model.specs.Requests.{boxed, claimed}
use Rattle.layout.specs.Bytes.{source_of, state_from}
use Rattle.layout.proofs.InPlace.{source_read}
use Rattle.routine_test.specs.Standing.{Sizes}

-- an id's place, as the code and as the definitions count it
pub less_one : (x : ℕ) → x - 1 ≡ pred x
less_one x = omega arith

-- the answer x to whether the request of the source read at i is claimed
pub claimed_read :
    {b active holder : List ℕ} {n m : ℕ} → Sizes b active holder n m → {r : Source} (i id : ℕ) → i < max_sources → id ≡ suc i →
    r ≡ source_of b i → {x : Bool} → x ≡ r.pending && r.delivered && not (boxed (state_from b).cores m id) → x ≡ claimed (state_from b) i
claimed_read {b} z i id h d e x = x ∙ rw (e ∙ sym (source_read b i h), d, z.m_is)
