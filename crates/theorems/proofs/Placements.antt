-- No placement reaches a threshold more often than the collection does. Assumes nothing.
--   offered             the priority of a request that competes, as a list of one number; no number for another
--   collection_count    the count over the collection: the cores' configured priorities, and what each source offers
--   Competing           what it takes to compete, in parts
use Prim.Native.Nat.{ℕ, zero, suc, ◌+◌, ◌≤◌, ◌<◌}
use mathlib.Core.Path.{◌≡◌, refl, sym, ◌∙◌}
use mathlib.Core.List.{List, [], ◌∷◌}
use mathlib.Core.Bool.{Bool, true, false, cond, ◌||◌, not}
use native.Mathlib.Omega.{arith}
use lib.ListN.{length, length-append}
use lib.Dec.{ltb}
use borrow.Author.Tests.{lt-ltb, leb-true, le-leb}
use Rattle.model.specs.declared.Controller.{Controller}
use Rattle.model.specs.Requests.{boxed}
use Rattle.model.specs.Ledger.{Ledger, is_open, competes, request_priority, collection, Placement, given}
use Rattle.lists.specs.Rows.{row}
use Rattle.lists.proofs.Bools.{and_in, and_l, and_r}
use Rattle.lists.proofs.Counting.{total, total_le, total_add, reach, reached}
use Rattle.lists.proofs.Counts.{Sent, nowhere, to, total_sent, count, count_append, count_gather, count_row, row_length}

abbrev pub offered : ℕ → ℕ → Ledger → Controller → ℕ → List ℕ
offered n m b s i = cond (competes n m b s (suc i)) (request_priority b (suc i) ∷ []) []

pub collection_count :
    (t n m : ℕ) (b : Ledger) (s : Controller) →
    count t (collection n m b s) ≡ reached m t b.core + total n (λ i. count t (offered n m b s i))
unfolding collection
collection_count t n m b s = simp (count_append, count_row, count_gather)

pub collection_length : (n m : ℕ) (b : Ledger) (s : Controller) → m ≤ length (collection n m b s)
unfolding collection
collection_length n m b s = simp (length-append, row_length) (omega arith)

pub record Competing (n m : ℕ) (b : Ledger) (s : Controller) (id : ℕ) : Type 0 where
  pub some_id : 1 ≤ id
  pub id_le : id ≤ n
  pub request_open : is_open (b.request id) ≡ true
  pub placed : boxed s.cores m id || not (b.masked id) ≡ true

module _ (n m : ℕ) (b : Ledger) (s : Controller) (id : ℕ) where
  pub competes_out : competes n m b s id ≡ true → Competing n m b s id
  unfolding competes
  competes_out e = search (and_l, and_r, leb-true) depth 14

  pub competes_in : Competing n m b s id → competes n m b s id ≡ true
  unfolding competes
  competes_in c = search (and_in, le-leb) depth 14

module _ (t n m : ℕ) (b : Ledger) (s : Controller) (P : ℕ → ℕ) (p : Placement n m b s P) where
  -- what the request with an id counts; id 0 is none
  abbrev worth : ℕ → ℕ
  worth id = cond (ltb 0 id) (reach t (request_priority b id)) 0

  given_le : (k : ℕ) → reach t (given b P k) ≤ reach t (b.core k) + worth (P k)
  given_le k = go (ltb 0 (P k))
    where
      go :
          (placed : Bool) →
          reach t (cond placed (request_priority b (P k)) (b.core k)) ≤
          reach t (b.core k) + cond placed (reach t (request_priority b (P k))) 0
      go true = omega arith
      go false = omega arith

  -- core k's request is that of source i + 1
  abbrev Uses : ℕ → ℕ → Type 0
  Uses k i = (k < m) × (P k ≡ suc i)

  uses_apart : (j k i : ℕ) → Uses j i → Uses k i → j ≡ k
  uses_apart j k i x y = p.once j k x.0 y.0 (omega (arith, x.1)) (x.1 ∙ sym y.1)

  sent : (k : ℕ) → k < m → Sent n (λ i. count t (offered n m b s i)) (Uses k) (worth (P k))
  unfolding count
  sent k below = go (P k) refl
    where
      go : (id : ℕ) → P k ≡ id → Sent n (λ i. count t (offered n m b s i)) (Uses k) (worth id)
      go zero e = nowhere refl
      go (suc i) e =
          let c : competes n m b s (suc i) ≡ true = rw e at (p.placed k below (omega arith)) in
          to i (omega (arith, competes_out n m b s (suc i) c)) (below, e) (rw (c, lt-ltb 0 (suc i) (omega arith)) (omega arith))

  pub placement_count : count t (row m (given b P)) ≤ count t (collection n m b s)
  placement_count =
      let cores : ℕ → ℕ = λ k. reach t (b.core k) in
      let requests : ℕ → ℕ = λ k. worth (P k) in
      let split = total_le (λ k. reach t (given b P k)) (λ k. cores k + requests k) m (λ k below. given_le k) in
      let uses = total_sent n Uses uses_apart m requests (λ i. count t (offered n m b s i)) sent in
      rw (count_row, collection_count) (omega (arith, total_add m cores requests))
