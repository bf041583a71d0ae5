-- A pending request of a sound state has exactly one owner, its source, one box or the software, and a request that is not
-- pending has none (`OneOwner`): the delivered mark and whether a box names the source tell the owners apart. Assumes nothing.
use Prim.Native.Nat.{ℕ, suc, pred}
use mathlib.Core.Path.{◌≡◌, refl, sym, ◌∙◌, ap}
use mathlib.Core.Bool.{Bool, true, false, not}
use borrow.Author.Tests.{not-true}
use Rattle.model.proofs.Claims.{claimed_out}
use Rattle.model.specs.declared.Controller.{Controller}
use Rattle.model.specs.Records.{index_of, source_at, core_at}
use Rattle.model.specs.Requests.{boxed, Owner, by_source, by_box, by_software, Owns}
use Rattle.model.specs.WellFormed.{WellFormed, Holding}
use Rattle.model.specs.Statements.{OneOwner}
use Rattle.lists.proofs.Bools.{and_in, and_l, and_r, not_in, Flag, on, off, flag}
use Rattle.model.proofs.Boxes.{holds_filled, holds_source, boxed_in, boxed_out}

module _ (s : Controller) (sound : WellFormed s) (i : ℕ) where
  abbrev pending : Bool
  pending = (source_at s i).pending

  abbrev delivered : Bool
  delivered = (source_at s i).delivered

  abbrev in_box : Bool
  in_box = boxed s.cores s.m (suc i)

  filled : (k : ℕ) → Owns s i (by_box k) → (core_at s k).message.filled ≡ true
  filled k h = holds_filled (suc i) (core_at s k) h.1

  source : (k : ℕ) → Owns s i (by_box k) → (core_at s k).message.source.0 ≡ suc i
  source k h = holds_source (suc i) (core_at s k) h.1

  -- a box that holds source i + 1 says of it that it is pending and delivered
  held : (k : ℕ) → Owns s i (by_box k) → (pending ≡ true) × (delivered ≡ true)
  held k h =
      let b : Holding s (core_at s k) = sound.consistent.backed k h.0 (filled k h) in
      let e : index_of (core_at s k).message.source ≡ i = ap pred (source k h) in
      (rw e at b.pending, rw e at b.delivered)

  -- the owner, by the delivered mark and whether a box names the source
  data Standing : Owner → Bool → Bool → Type 0 where
    waits : (b : Bool) → Standing by_source false b
    lies : (k : ℕ) → Owns s i (by_box k) → Standing (by_box k) true true
    taken : Standing by_software true false

  standing : (o : Owner) → Owns s i o → Standing o delivered in_box
  standing by_source h = rw (not-true delivered (and_r pending (not delivered) h)) (waits in_box)
  standing (by_box k) h = rw ((held k h).1, boxed_in s.cores s.m (suc i) k h.0 h.1) (lies k h)
  standing by_software h = let (p, d, b) = claimed_out s i h in rw (d, b) taken

  -- two owners of one standing are the same
  sole : {o o' : Owner} {d b : Bool} → Standing o d b → Standing o' d b → o' ≡ o
  sole (waits b) (waits b') = refl
  sole (lies k h) (lies j h') =
      ap by_box (sound.consistent.distinct j k h'.0 h.0 (filled j h') (filled k h) (source j h' ∙ sym (source k h)))
  sole taken taken = refl

  owned_pending : (o : Owner) → Owns s i o → pending ≡ true
  owned_pending by_source h = and_l _ _ h
  owned_pending (by_box k) h = (held k h).0
  owned_pending by_software h = (claimed_out s i h).0

  owner : pending ≡ true → (o : Owner) × Owns s i o
  owner p = go (flag delivered) (flag in_box)
    where
      go : Flag delivered → Flag in_box → (o : Owner) × Owns s i o
      go (off d) b = (by_source, and_in p (not_in d))
      go (on d) (on b) = let w = boxed_out s.cores s.m (suc i) b in (by_box w.at, (w.below, w.holds))
      go (on d) (off b) = (by_software, and_in (and_in p d) (not_in b))

pub one_owner : OneOwner
one_owner s sound i below = (only, owned_pending s sound i)
  where
    only : (source_at s i).pending ≡ true → (o : Owner) × Owns s i o × ((o' : Owner) → Owns s i o' → o' ≡ o)
    only p =
        let (o, h) = owner s sound i p in
        (o, h, λ o' h'. sole s sound i (standing s sound i o h) (standing s sound i o' h'))
