-- A claimed request, taken apart. Assumes nothing.
use Prim.Native.Nat.{ℕ, suc}
use mathlib.Core.Path.{◌≡◌}
use mathlib.Core.Bool.{true, false}
use borrow.Author.Tests.{not-true}
use Rattle.model.specs.declared.Controller.{Controller}
use Rattle.model.specs.Records.{source_at}
use Rattle.model.specs.Requests.{boxed, claimed}
use Rattle.lists.proofs.Bools.{and_l, and_r}

-- it is pending and delivered, and lies in no box
pub claimed_out :
    (s : Controller) (i : ℕ) → claimed s i ≡ true →
    ((source_at s i).pending ≡ true) × ((source_at s i).delivered ≡ true) × (boxed s.cores s.m (suc i) ≡ false)
claimed_out s i e = search (and_l, and_r, not-true) depth 8
