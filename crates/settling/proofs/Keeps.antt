-- Settling changes boxes and delivered marks only, in every state: `Kept s s'`. Assumes nothing.
--   retract_keeps, deliver_keeps    of one step
--   settling_leaves_bare            of a run of cycles, however long
--   kept-..                         what is read of s' is as in s
use Prim.Native.Nat.{ℕ, zero, suc}
use mathlib.Core.Path.{◌≡◌, refl, sym, ◌∙◌, ap}
use mathlib.Core.List.{List, map}
use mathlib.Core.Bool.{Bool, true, false, cond}
use lib.ListN.{length, get_or, set, length-map, get_or-map}
use lib.Seq.{map-set_same}
use Rattle.model.specs.declared.Source.{Source}
use Rattle.model.specs.declared.MessageBox.{MessageBox}
use Rattle.model.specs.declared.Core.{Core}
use Rattle.model.specs.declared.Controller.{Controller}
use Rattle.model.specs.declared.Cycle.{Cycle}
use Rattle.model.specs.declared.Cycle.TheVariants.{Rest, Retract, Deliver}
use Rattle.model.specs.Records.{no_source, no_core, index_of, with_delivered, emptied, source_at, core_at, controller_with}
use Rattle.model.specs.Settling.{put_back, retract, deliver, next, apply, cycle, settle}
use Rattle.model.specs.Statements.{SettlingLeavesBare}
use Rattle.settling.specs.Phases.{Kept}
use Rattle.settling.proofs.Writes.{delivered_to}

-- ---- what is read

-- the same element of two lists that a function maps to one
read_mapped : {A B : Type 0} (f : A → B) (d : A) (l l' : List A) → map f l' ≡ map f l → (i : ℕ) → f (get_or l' i d) ≡ f (get_or l i d)
read_mapped f d l l' e i =
    sym (get_or-map f l' i d) ∙ ap (λ x. get_or x i (f d)) e ∙ get_or-map f l i d

length_mapped : {A B : Type 0} (f : A → B) (l l' : List A) → map f l' ≡ map f l → length l' ≡ length l
length_mapped f l l' e = sym (length-map l' f) ∙ ap length e ∙ length-map l f

abbrev unmarked : List Source → List Source
unmarked l = map (with_delivered false) l

module _ (s s' : Controller) (kept : Kept s s') where
  pub kept_n : s'.n ≡ s.n
  kept_n = ap (λ (x : Controller). x.n) kept

  pub kept_m : s'.m ≡ s.m
  kept_m = ap (λ (x : Controller). x.m) kept

  unmarked_same : unmarked s'.sources ≡ unmarked s.sources
  unmarked_same = ap (λ (x : Controller). x.sources) kept

  emptied_same : map emptied s'.cores ≡ map emptied s.cores
  emptied_same = ap (λ (x : Controller). x.cores) kept

  pub kept_sources_length : length s'.sources ≡ length s.sources
  kept_sources_length = length_mapped (with_delivered false) s.sources s'.sources unmarked_same

  pub kept_cores_length : length s'.cores ≡ length s.cores
  kept_cores_length = length_mapped emptied s.cores s'.cores emptied_same

  -- all of a source but its mark
  pub kept_source : (i : ℕ) → with_delivered false (source_at s' i) ≡ with_delivered false (source_at s i)
  kept_source = read_mapped (with_delivered false) no_source s.sources s'.sources unmarked_same

  pub kept_configured : (i : ℕ) → (source_at s' i).configured ≡ (source_at s i).configured
  kept_configured i = ap (λ (r : Source). r.configured) (kept_source i)

  pub kept_masked : (i : ℕ) → (source_at s' i).masked ≡ (source_at s i).masked
  kept_masked i = ap (λ (r : Source). r.masked) (kept_source i)

  pub kept_pending : (i : ℕ) → (source_at s' i).pending ≡ (source_at s i).pending
  kept_pending i = ap (λ (r : Source). r.pending) (kept_source i)

  pub kept_priority : (i : ℕ) → (source_at s' i).priority ≡ (source_at s i).priority
  kept_priority i = ap (λ (r : Source). r.priority) (kept_source i)

  pub kept_dropped : (i : ℕ) → (source_at s' i).dropped ≡ (source_at s i).dropped
  kept_dropped i = ap (λ (r : Source). r.dropped) (kept_source i)

  -- all of a core but its box
  pub kept_core_configured : (k : ℕ) → (core_at s' k).configured ≡ (core_at s k).configured
  kept_core_configured k =
      ap (λ (c : Core). c.configured) (read_mapped emptied no_core s.cores s'.cores emptied_same k)

-- ---- one step

unmarked_put_back : (b : MessageBox) (l : List Source) → unmarked (put_back b l) ≡ unmarked l
unmarked_put_back b l = go b.filled (index_of b.source)
  where
    go : (t : Bool) (i : ℕ) → unmarked (cond t (set l i (with_delivered false (get_or l i no_source))) l) ≡ unmarked l
    go true i = map-set_same (with_delivered false) l i _ no_source refl
    go false i = refl

module _ (s : Controller) where
  pub retract_keeps : (k : ℕ) → Kept s (retract s k)
  unfolding retract
  retract_keeps k = λ t. controller_with s.n s.m
      (unmarked_put_back (core_at s k).message s.sources t)
      (map-set_same emptied s.cores k (emptied (core_at s k)) no_core refl t)

  pub deliver_keeps : (i k : ℕ) → Kept s (deliver s i k)
  unfolding deliver
  deliver_keeps i k =
      let old : List Source = put_back (core_at s k).message s.sources in
      let back : unmarked old ≡ unmarked s.sources = unmarked_put_back (core_at s k).message s.sources in
      let marked : unmarked (set old i (with_delivered true (source_at s i))) ≡ unmarked old =
      map-set_same (with_delivered false) old i _ no_source (read_mapped (with_delivered false) no_source old s.sources (sym back) i) in
      λ t. controller_with s.n s.m ((marked ∙ back) t)
      (map-set_same emptied s.cores k (delivered_to s i k) no_core refl t)

  cycle_keeps : Kept s (cycle s)
  unfolding cycle
  cycle_keeps = go (next s)
    where
      go : (c : Cycle) → Kept s (apply c s)
      go Rest = refl
      go (Retract k) = retract_keeps k.0
      go (Deliver id k) = deliver_keeps (index_of id) k.0

-- ---- a run of cycles

pub settling_leaves_bare : SettlingLeavesBare
unfolding settle
settling_leaves_bare zero s = refl
settling_leaves_bare (suc f) s = settling_leaves_bare f (cycle s) ∙ cycle_keeps s
