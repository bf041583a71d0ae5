-- Looking for a box through the cores, one after another. Assumes nothing.
--   holding                       a filled box of a source holds its request
--   holds_unfilled, holds_other   an empty box, and one of another source, doesn't
--   unboxed_none, unboxed_more    no box of the first k cores holds it: at 0, and one core further
use Prim.Native.Nat.{ℕ, ◌+◌}
use mathlib.Core.Path.{◌≡◌, refl}
use mathlib.Core.List.{List}
use mathlib.Core.Bool.{true, false}
use lib.ListN.{get_or}
use lib.Dec.{eqb}
use native.Mathlib.Numerals.{add-one}
use Rattle.lists.specs.Walks.{some}
use Rattle.model.specs.declared.Core.{Core}
use Rattle.model.specs.Records.{no_core}
use Rattle.model.specs.Requests.{holds, boxed}

module _ (c : Core) (id : ℕ) where
  pub holding : c.message.filled ≡ true → eqb c.message.source.0 id ≡ true → holds id c ≡ true
  holding e h = rw (e, h)

  pub holds_unfilled : c.message.filled ≡ false → holds id c ≡ false
  holds_unfilled e = rw e

  pub holds_other : c.message.filled ≡ true → eqb c.message.source.0 id ≡ false → holds id c ≡ false
  holds_other e h = rw (e, h)

module _ (l : List Core) (id : ℕ) where
  pub unboxed_none : boxed l 0 id ≡ false
  unfolding boxed some
  unboxed_none = refl

  pub unboxed_more : (k : ℕ) → boxed l k id ≡ false → holds id (get_or l k no_core) ≡ false → boxed l (k + 1) id ≡ false
  unfolding boxed some
  unboxed_more k before here = rw (add-one, before, here)
