-- What is read after a retraction or a delivery: each core, each source. Assumes nothing.
--   BoxFilled s k            the box of core k is filled
--   Names b j                a filled box b names source j + 1
--   put_back_at b j r          source r at index j once box b is put back: the mark goes at the one index that a filled b names
--   core-.., source-..       a core and a source of `retract s k` and of `deliver s i k`, at the index written and at others
use Prim.Native.Nat.{ℕ, zero, suc, ◌<◌}
use mathlib.Core.Path.{◌≡◌, refl, sym, ◌∙◌}
use mathlib.Core.Logic.{◌≢◌}
use mathlib.Core.List.{List, [], ◌∷◌}
use mathlib.Core.Bool.{true, false, ◌&&◌, cond}
use lib.ListN.{length, get_or, set, length-set}
use lib.Seq.{get_or-set_same, get_or-set_other}
use lib.Dec.{eqb}
use borrow.Author.Tests.{eqb-true, eqb-false, eq-eqb}
use native.Mathlib.Decide.{ℕ_discrete}
use Rattle.model.specs.declared.Source.{Source}
use Rattle.model.specs.declared.MessageBox.{MessageBox}
use Rattle.model.specs.declared.Core.{Core}
use Rattle.model.specs.declared.Controller.{Controller}
use Rattle.model.specs.Records.{no_source, no_core, source_id, index_of, with_delivered, empty_box, holding, core_with, source_at, core_at}
use Rattle.model.specs.Settling.{put_back, retract, deliver}
use Rattle.lists.proofs.Bools.{clash, Flag, on, off, flag}

-- ---- a store of what becomes of an element

module _ {A : Type 0} where
  -- past the end too, where the blank value stays as it is
  changed_same : (f : A → A) (d : A) → f d ≡ d → (l : List A) (i : ℕ) → get_or (set l i (f (get_or l i d))) i d ≡ f (get_or l i d)
  changed_same f d e [] i = sym e
  changed_same f d e (x ∷ xs) zero = refl
  changed_same f d e (x ∷ xs) (suc i) = changed_same f d e xs i

  changed_at :
      (f : A → A) (d : A) → f d ≡ d → (l : List A) (i j : ℕ) →
      get_or (set l i (f (get_or l i d))) j d ≡ cond (eqb j i) (f (get_or l j d)) (get_or l j d)
  changed_at f d e l i j = go (flag (eqb j i))
    where
      go : Flag (eqb j i) → get_or (set l i (f (get_or l i d))) j d ≡ cond (eqb j i) (f (get_or l j d)) (get_or l j d)
      go (on p) = rw (p, eqb-true j i p) (changed_same f d e l i)
      go (off p) = rw p (get_or-set_other l i j (f (get_or l i d)) d (eqb-false j i p))

-- ---- the request of a box goes back

abbrev pub BoxFilled : Controller → ℕ → Type 0
BoxFilled s k = (core_at s k).message.filled ≡ true

-- a filled box names source j + 1
abbrev pub Names : MessageBox → ℕ → Type 0
Names b j = (b.filled ≡ true) × (j ≡ index_of b.source)

abbrev pub put_back_at : MessageBox → ℕ → Source → Source
put_back_at b j r = cond (b.filled && eqb j (index_of b.source)) (with_delivered false r) r

module _ (b : MessageBox) (j : ℕ) where
  pub names? : Dec (Names b j)
  names? = go (flag b.filled) (ℕ_discrete j (index_of b.source))
    where
      go : Flag b.filled → Dec (j ≡ index_of b.source) → Dec (Names b j)
      go (on p) (yes e) = yes (p, e)
      go (on p) (no q) = no (λ n. q n.1)
      go (off p) d = no (λ n. clash n.0 p)

  pub put_back_at_named : (r : Source) → Names b j → put_back_at b j r ≡ with_delivered false r
  put_back_at_named r n = rw (n.0, eq-eqb j (index_of b.source) n.1)

  pub put_back_at_unnamed : (r : Source) → ¬ (Names b j) → put_back_at b j r ≡ r
  put_back_at_unnamed r q = go (flag b.filled) (flag (eqb j (index_of b.source)))
    where
      go : Flag b.filled → Flag (eqb j (index_of b.source)) → put_back_at b j r ≡ r
      go (on p) (on e) = absurd (q (p, eqb-true j (index_of b.source) e))
      go (on p) (off e) = rw (p, e)
      go (off p) e = rw p

  -- a mark that is not there stays so
  pub put_back_at_undelivered : (r : Source) → r.delivered ≡ false → (put_back_at b j r).delivered ≡ false
  put_back_at_undelivered r e = go names?
    where
      go : Dec (Names b j) → (put_back_at b j r).delivered ≡ false
      go (yes n) = rw (put_back_at_named r n)
      go (no q) = rw (put_back_at_unnamed r q) e

pub source_put_back : (b : MessageBox) (l : List Source) (j : ℕ) → get_or (put_back b l) j no_source ≡ put_back_at b j (get_or l j no_source)
source_put_back b l j = go (flag b.filled)
  where
    go : Flag b.filled → get_or (put_back b l) j no_source ≡ put_back_at b j (get_or l j no_source)
    go (on p) = rw p (changed_at (with_delivered false) no_source refl l (index_of b.source) j)
    go (off p) = rw p

pub length-put_back : (b : MessageBox) (l : List Source) → length (put_back b l) ≡ length l
length-put_back b l = go (flag b.filled)
  where
    go : Flag b.filled → length (put_back b l) ≡ length l
    go (on p) = rw p (length-set l (index_of b.source) (with_delivered false (get_or l (index_of b.source) no_source)))
    go (off p) = rw p

-- ---- after a retraction

module _ (s : Controller) (k : ℕ) where
  pub core_retract_same : k < length s.cores → core_at (retract s k) k ≡ core_with (core_at s k).configured empty_box
  unfolding retract
  core_retract_same h = get_or-set_same s.cores k (core_with (core_at s k).configured empty_box) no_core h

  pub core_retract_other : (j : ℕ) → j ≢ k → core_at (retract s k) j ≡ core_at s j
  unfolding retract
  core_retract_other j q = get_or-set_other s.cores k j (core_with (core_at s k).configured empty_box) no_core q

  pub source_retract : (j : ℕ) → source_at (retract s k) j ≡ put_back_at (core_at s k).message j (source_at s j)
  unfolding retract
  source_retract j = source_put_back (core_at s k).message s.sources j

-- ---- after a delivery

-- core k as it is once it holds the request of source i + 1
abbrev pub delivered_to : Controller → ℕ → ℕ → Core
delivered_to s i k = core_with (core_at s k).configured (holding (source_id (suc i)) (source_at s i).priority)

module _ (s : Controller) (i k : ℕ) where
  pub core_deliver_same : k < length s.cores → core_at (deliver s i k) k ≡ delivered_to s i k
  unfolding deliver
  core_deliver_same h = get_or-set_same s.cores k (delivered_to s i k) no_core h

  pub core_deliver_other : (j : ℕ) → j ≢ k → core_at (deliver s i k) j ≡ core_at s j
  unfolding deliver
  core_deliver_other j q = get_or-set_other s.cores k j (delivered_to s i k) no_core q

  pub source_deliver_same : i < length s.sources → source_at (deliver s i k) i ≡ with_delivered true (source_at s i)
  unfolding deliver
  source_deliver_same h =
      get_or-set_same (put_back (core_at s k).message s.sources) i (with_delivered true (source_at s i)) no_source
      (rw length-put_back h)

  -- the evicted source, and every source that is neither it nor i + 1
  pub source_deliver_other : (j : ℕ) → j ≢ i → source_at (deliver s i k) j ≡ put_back_at (core_at s k).message j (source_at s j)
  unfolding deliver
  source_deliver_other j q =
      get_or-set_other (put_back (core_at s k).message s.sources) i j (with_delivered true (source_at s i)) no_source q ∙
      source_put_back (core_at s k).message s.sources j
