-- What a memory that encodes a simulation is: its lengths and its bytes. Assumes nothing.
use Prim.Native.Nat.{ℕ}
use mathlib.Core.Path.{◌≡◌}
use mathlib.Core.List.{List}
use mathlib.Core.Bool.{Bool, true, ◌&&◌}
use lib.ListN.{length}
use lib.Dec.{eqb}
use borrow.Author.Tests.{eqb-true}
use Rattle.lists.proofs.Bools.{and_l, and_r}
use Rattle.model.specs.Records.{max_sources, max_cores}
use Rattle.layout.specs.Bytes.{is_state}
use Rattle.routines.specs.Calls.{is_simulation}

module _ (b active holder : List ℕ) where
  pub encoded :
      is_simulation b active holder ≡ true → (is_state b ≡ true) × (length active ≡ max_cores) × (length holder ≡ max_sources)
  encoded e =
      let long : Bool = eqb (length active) max_cores in
      let held : Bool = eqb (length holder) max_sources in
      let lengths : long && held ≡ true = and_r (is_state b) (long && held) e in
      (and_l (is_state b) (long && held) e, eqb-true _ _ (and_l long held lengths), eqb-true _ _ (and_r long held lengths))
