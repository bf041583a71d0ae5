-- The highest candidate by the comparator tree: what it finds. Assumes nothing.
--   tree_is_walk, tree_finds_first     the tree agrees with the plain walk, and finds the first highest source
--   highest_below, highest_ge          it is one of the n sources, and any candidate is at most a candidate there
--   highest_id_exact                   its id, 0 exactly when there is no candidate
use Prim.Native.Nat.{ℕ, suc, ◌<◌, ◌≤◌}
use mathlib.Core.Path.{◌≡◌, subst}
use mathlib.Core.List.{List}
use mathlib.Core.Bool.{true, false}
use native.Mathlib.Omega.{arith}
use lib.ListN.{get_or}
use borrow.Author.Tests.{ltb-true, ltb-false}
use Rattle.model.specs.declared.Source.{Source}
use Rattle.model.specs.Records.{no_source}
use Rattle.model.specs.Requests.{candidate}
use Rattle.model.specs.Arbitration.{rank, higher, highest, highest_by_walk, highest_id}
use Rattle.model.specs.Statements.{TreeIsWalk, TreeFindsFirst, HighestIdExact}
use Rattle.lists.proofs.Bools.{clash, refuted, confirmed, Flag, on, off, flag}
use Rattle.model.proofs.Candidates.{rank_candidate, rank_none}
use Rattle.lists.proofs.Winner.{WeakOrder, by_key, FirstIn, first_of, none_above, tree_first, tree_walk}

-- ---- the highest candidate

higher_order : (l : List Source) → WeakOrder (higher l)
higher_order l = by_key (λ (i : ℕ). rank (get_or l i no_source))

pub highest_first : (l : List Source) (n : ℕ) → 1 ≤ n → FirstIn (higher l) 0 n (highest l n)
unfolding highest
highest_first l n h = tree_first (higher l) (higher_order l) n 0 n h (omega arith)

pub tree_is_walk : TreeIsWalk
unfolding highest highest_by_walk
tree_is_walk l n = tree_walk (higher l) (higher_order l) n n (omega arith)

pub tree_finds_first : TreeFindsFirst
tree_finds_first l n h = first_of (highest_first l n h)

pub highest_below : (l : List Source) (n : ℕ) → 1 ≤ n → highest l n < n
highest_below l n h = (tree_finds_first l n h).inside

highest_rank_ge : (l : List Source) (n i : ℕ) → i < n → rank (get_or l i no_source) ≤ rank (get_or l (highest l n) no_source)
highest_rank_ge l n i h =
    ltb-false _ _ (none_above (higher l) (higher_order l) 0 n (highest l n) (highest_first l n (omega arith)) i (omega arith) (omega arith))

-- what is ranked at least as high as a candidate is one
candidate_rank_le : (r t : Source) → rank r ≤ rank t → candidate r ≡ true → candidate t ≡ true
candidate_rank_le r t h p = confirmed (candidate t) (λ q. omega (arith, rank_candidate r p, rank_none t q))

pub highest_ge :
    (l : List Source) (n i : ℕ) → i < n → candidate (get_or l i no_source) ≡ true →
    (candidate (get_or l (highest l n) no_source) ≡ true) × ((get_or l i no_source).priority ≤ (get_or l (highest l n) no_source).priority)
highest_ge l n i h p =
    let u : rank (get_or l i no_source) ≤ rank (get_or l (highest l n) no_source) = highest_rank_ge l n i h in
    let q : candidate (get_or l (highest l n) no_source) ≡ true = candidate_rank_le (get_or l i no_source) (get_or l (highest l n) no_source) u p in
    (q, omega (arith, u, rank_candidate (get_or l i no_source) p, rank_candidate (get_or l (highest l n) no_source) q))

-- ---- its id

module _ (l : List Source) (n : ℕ) where
  abbrev best : Source
  best = get_or l (highest l n) no_source

  id_on : candidate best ≡ true → highest_id l n ≡ suc (highest l n)
  unfolding highest_id
  id_on p = rw p

  id_off : candidate best ≡ false → highest_id l n ≡ 0
  unfolding highest_id
  id_off p = rw p

  id_none : highest_id l n ≡ 0 → candidate best ≡ false
  id_none e = refuted (candidate best) (λ p. omega (arith, id_on p))

  id_some : (w : ℕ) → highest_id l n ≡ suc w → (highest l n ≡ w) × (candidate best ≡ true)
  id_some w e = go (flag (candidate best))
    where
      go : Flag (candidate best) → (highest l n ≡ w) × (candidate best ≡ true)
      go (on p) = (omega (arith, id_on p), p)
      go (off p) = absurd (omega (arith, id_off p))

  -- an id names the highest, and that is a candidate
  by_id : (P : ℕ → Type 0) (w : ℕ) → highest_id l n ≡ suc w → (candidate best ≡ true → P (highest l n)) → P w
  by_id P w e f = subst P (id_some w e).0 (f (id_some w e).1)

  none_candidate : highest_id l n ≡ 0 → (i : ℕ) → i < n → candidate (get_or l i no_source) ≡ false
  none_candidate e i h = refuted (candidate (get_or l i no_source)) (λ p. clash (highest_ge l n i h p).0 (id_none e))

  -- a candidate of a lower id is strictly below: it would have kept a tie
  earlier_lt :
      1 ≤ n → candidate best ≡ true → (i : ℕ) → i < highest l n → candidate (get_or l i no_source) ≡ true →
      (get_or l i no_source).priority < best.priority
  earlier_lt h q i g p =
      let u : rank (get_or l i no_source) < rank best = ltb-true _ _ ((tree_finds_first l n h).before i g) in
      omega (arith, u, rank_candidate (get_or l i no_source) p, rank_candidate best q)

pub highest_id_exact : HighestIdExact
highest_id_exact l n h =
    record {
      none = none_candidate l n;
      inside = λ w e. by_id l n (λ (x : ℕ). (x < n) × (candidate (get_or l x no_source) ≡ true)) w e (λ q. (highest_below l n h, q));
      highest = λ w i e g p.
          by_id l n (λ (x : ℕ). (get_or l i no_source).priority ≤ (get_or l x no_source).priority) w e (λ q. (highest_ge l n i g p).1);
      lowest_id = λ w i e g p.
          by_id l n (λ (x : ℕ). i < x → (get_or l i no_source).priority < (get_or l x no_source).priority) w e
          (λ q v. earlier_lt l n h q i v p) g;
    }
