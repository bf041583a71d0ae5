-- One count of a handover, by the tests of the code: no core held the request, the same core did, another did. Assumes nothing.
use Prim.Native.Nat.{ℕ, suc, ◌+◌, ◌≤◌, min}
use mathlib.Core.Path.{◌≡◌, refl, sym, ◌∙◌, ap}
use mathlib.Core.Logic.{◌≢◌}
use mathlib.Core.Bool.{true, and-false}
use lib.ListN.{set}
use native.Mathlib.Omega.{arith}
use borrow.Author.Tests.{eq-eqb, ne_eqb, lt-ltb}
use Rattle.std.proofs.Common.{Option, Some, None}
use Rattle.lists.proofs.Held.{held_by_lem}
use Rattle.model.specs.declared.CoreId.{CoreId}
use Rattle.routines.specs.Routines.{holder_number, Handovers, row_at, cell_at, most_handovers, counted}

module _ (t : Handovers) {from : Option CoreId} (to : ℕ) where
  pub no_core : from ≡ None → t ≡ counted t (holder_number from) to
  unfolding counted
  no_core e = rw e refl

  module _ {held : CoreId} (e : from ≡ Some held) where
    pub same_core : held.0 ≡ to → t ≡ counted t (holder_number from) to
    unfolding counted
    same_core same = rw (e, eq-eqb (suc held.0) (suc to) (ap suc same), and-false) refl

    pub other_core :
        held.0 ≢ to → cell_at t held.0 to ≤ most_handovers → {v : ℕ} → v ≡ min (cell_at t held.0 to + 1) most_handovers →
        set t held.0 (set (row_at t held.0) to v) ≡ counted t (holder_number from) to
    unfolding counted
    other_core other few {v} ev =
        let more = held_by_lem most_handovers (cell_at t held.0 to) (cell_at t held.0 to) (omega (arith, few)) true in
        let is : v ≡ min most_handovers (cell_at t held.0 to + 1) = ev ∙ omega arith in
        rw (e, lt-ltb 0 (suc held.0) (omega arith), ne_eqb (suc held.0) (suc to) (λ z. other (omega (arith, z))))
        (ap (λ (x : ℕ). set t held.0 (set (row_at t held.0) to x)) (is ∙ sym more))
