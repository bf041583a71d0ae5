-- Which box names a source: `holds` and `boxed` as facts about the cores. Assumes nothing.
--   holds_in, holds_filled, holds_source    a box holds an id: it is filled, and its source has that id
--   boxed_in, boxed_out                     some box of the first m holds it
--   unboxed_in, unboxed_out                 no box of the first m holds it
--   boxed_agree                             the same ids are boxed where the boxes hold the same
use Prim.Native.Nat.{ℕ, ◌<◌}
use mathlib.Core.Path.{◌≡◌}
use mathlib.Core.List.{List}
use mathlib.Core.Bool.{true, false}
use lib.ListN.{get_or}
use lib.Dec.{eqb}
use borrow.Author.Tests.{eq-eqb, eqb-true}
use Rattle.model.specs.declared.Core.{Core}
use Rattle.model.specs.Records.{no_core}
use Rattle.model.specs.Requests.{holds, boxed}
use Rattle.lists.proofs.Bools.{and_in, and_l, and_r}
use Rattle.lists.proofs.Walks.{Witness, some_in, some_out, some_false_in, some_false_out, some_agree}

pub holds_in : (id : ℕ) (c : Core) → c.message.filled ≡ true → c.message.source.0 ≡ id → holds id c ≡ true
holds_in id c p q = and_in p (eq-eqb c.message.source.0 id q)

pub holds_filled : (id : ℕ) (c : Core) → holds id c ≡ true → c.message.filled ≡ true
holds_filled id c e = and_l c.message.filled (eqb c.message.source.0 id) e

pub holds_source : (id : ℕ) (c : Core) → holds id c ≡ true → c.message.source.0 ≡ id
holds_source id c e = eqb-true c.message.source.0 id (and_r c.message.filled (eqb c.message.source.0 id) e)

module _ (l : List Core) (m id : ℕ) where
  pub boxed_in : (k : ℕ) → k < m → holds id (get_or l k no_core) ≡ true → boxed l m id ≡ true
  unfolding boxed
  boxed_in k h e = some_in m (λ j. holds id (get_or l j no_core)) k h e

  pub boxed_out : boxed l m id ≡ true → Witness m (λ j. holds id (get_or l j no_core))
  unfolding boxed
  boxed_out e = some_out m (λ j. holds id (get_or l j no_core)) e

  pub unboxed_in : ((k : ℕ) → k < m → holds id (get_or l k no_core) ≡ false) → boxed l m id ≡ false
  unfolding boxed
  unboxed_in h = some_false_in m (λ j. holds id (get_or l j no_core)) h

  pub unboxed_out : boxed l m id ≡ false → (k : ℕ) → k < m → holds id (get_or l k no_core) ≡ false
  unfolding boxed
  unboxed_out e = some_false_out m (λ j. holds id (get_or l j no_core)) e

pub boxed_agree :
    (l l' : List Core) (m id : ℕ) → ((k : ℕ) → k < m → holds id (get_or l k no_core) ≡ holds id (get_or l' k no_core)) →
    boxed l m id ≡ boxed l' m id
unfolding boxed
boxed_agree l l' m id h = some_agree m (λ k. holds id (get_or l k no_core)) (λ k. holds id (get_or l' k no_core)) h
