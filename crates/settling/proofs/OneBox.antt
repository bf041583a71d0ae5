-- A step that writes the box of one core keeps `Consistent`, if what it writes fits. Retraction and delivery cite it. Assumes nothing.
--   BoxWritten s s' k     only the box of core k and delivered marks differ; of the marks only that of the box's source is lost
--   BoxFits s s' k        the box that core k has in s' is empty, or its source backs it and lies in no other box
use Prim.Native.Nat.{ℕ, suc, ◌<◌, ◌≤◌}
use mathlib.Core.Path.{◌≡◌, sym, ◌∙◌, ap}
use mathlib.Core.Logic.{◌≢◌}
use mathlib.Core.Bool.{Bool, true, false}
use native.Mathlib.Nat.{suc-pred-eq_of_pos}
use native.Mathlib.Omega.{arith}
use native.Mathlib.Decide.{ℕ_discrete}
use Rattle.model.specs.declared.Source.{Source}
use Rattle.model.specs.declared.SourceId.{SourceId}
use Rattle.model.specs.declared.Core.{Core}
use Rattle.model.specs.declared.Controller.{Controller}
use Rattle.model.specs.Records.{reset_source, empty_box, index_of, with_delivered, source_at, core_at}
use Rattle.model.specs.WellFormed.{Holding, Consistent}
use Rattle.settling.specs.Phases.{Kept}
use Rattle.settling.proofs.Writes.{BoxFilled, Names}
use Rattle.settling.proofs.Keeps.{kept_n, kept_m, kept_sources_length, kept_cores_length, kept_source, kept_configured, kept_pending}
use Rattle.settling.proofs.Keeps.{kept_priority, kept_core_configured}

-- without its mark, a source that is not delivered is what it was
unmarked_is : (r : Source) → r.delivered ≡ false → with_delivered false r ≡ r
unmarked_is r e = ap (λ (d : Bool). with_delivered d r) (sym e)

-- two ids that are not 0 are told apart by their indices
same_id : (x y : SourceId) → 1 ≤ x.0 → 1 ≤ y.0 → index_of x ≡ index_of y → x.0 ≡ y.0
same_id x y h h' e = sym (suc-pred-eq_of_pos h) ∙ ap suc e ∙ suc-pred-eq_of_pos h'

abbrev SameSource : Core → Core → Type 0
SameSource c d = c.message.source.0 ≡ d.message.source.0

pub record BoxWritten (s s' : Controller) (k : ℕ) : Type 0 where
  pub kept : Kept s s'
  pub core_other : (j : ℕ) → j ≢ k → core_at s' j ≡ core_at s j
  pub stays_idle : (i : ℕ) → (source_at s i).pending ≡ false → (source_at s i).delivered ≡ false → (source_at s' i).delivered ≡ false
  pub stays_delivered : (i : ℕ) → (source_at s i).delivered ≡ true → ¬ (Names (core_at s k).message i) → (source_at s' i).delivered ≡ true

pub record BoxFits (s s' : Controller) (k : ℕ) : Type 0 where
  pub empty : (core_at s' k).message.filled ≡ false → (core_at s' k).message ≡ empty_box
  pub backed : BoxFilled s' k → Holding s' (core_at s' k)
  pub alone : (j : ℕ) → j < s.m → j ≢ k → BoxFilled s j → BoxFilled s' k → ¬ (SameSource (core_at s j) (core_at s' k))

module _ (s s' : Controller) (k : ℕ) (w : BoxWritten s s' k) where
  -- a law of the cores: of core k by what was written, of the others as they were
  pub each_core :
      (P : Core → Type 0) → P (core_at s' k) → ((j : ℕ) → j < s.m → j ≢ k → P (core_at s j)) → (j : ℕ) → j < s'.m → P (core_at s' j)
  each_core P here there j h = go (ℕ_discrete j k)
    where
      go : Dec (j ≡ k) → P (core_at s' j)
      go (yes e) = rw e here
      go (no q) = rw (w.core_other j q) (there j (omega (arith, kept_m s s' w.kept)) q)

module _ (s s' : Controller) (k : ℕ) (c : Consistent s) (k_in : k < s.m) (w : BoxWritten s s' k) where
  -- two boxes name two sources
  other_unnamed : (j : ℕ) → j < s.m → j ≢ k → BoxFilled s j → ¬ (Names (core_at s k).message (index_of (core_at s j).message.source))
  other_unnamed j h q f n =
      q (c.distinct j k h k_in f n.0
      (same_id (core_at s j).message.source (core_at s k).message.source
      (c.backed j h f).some_id (c.backed k k_in n.0).some_id n.1))

  other_backed : (j : ℕ) → j < s.m → j ≢ k → BoxFilled s j → Holding s' (core_at s j)
  other_backed j h q f = go (c.backed j h f)
    where
      go : Holding s (core_at s j) → Holding s' (core_at s j)
      go b =
          record {
            some_id = b.some_id;
            id_le = omega (arith, kept_n s s' w.kept);
            pending = kept_pending s s' w.kept (index_of (core_at s j).message.source) ∙ b.pending;
            delivered = w.stays_delivered (index_of (core_at s j).message.source) b.delivered (other_unnamed j h q f);
            same_priority = kept_priority s s' w.kept (index_of (core_at s j).message.source) ∙ b.same_priority;
            above = b.above;
          }

  still_spare : (i : ℕ) → source_at s i ≡ reset_source → source_at s' i ≡ reset_source
  still_spare i e =
      let idle : (source_at s' i).delivered ≡ false =
      w.stays_idle i (ap (λ (r : Source). r.pending) e) (ap (λ (r : Source). r.delivered) e) in
      sym (unmarked_is (source_at s' i) idle) ∙ kept_source s s' w.kept i ∙ ap (with_delivered false) e

  still_idle : (i : ℕ) → i < s.n → (source_at s i).pending ≡ false → ((source_at s' i).delivered ≡ false) × ((source_at s' i).priority ≡ 0)
  still_idle i h e = (w.stays_idle i e (c.idle_source i h e).0, kept_priority s s' w.kept i ∙ (c.idle_source i h e).1)

  module _ (b : BoxFits s s' k) where
    still_alone : (j : ℕ) → j < s.m → j ≢ k → BoxFilled s' j → BoxFilled s' k → ¬ (SameSource (core_at s' j) (core_at s' k))
    still_alone j h q f f' e =
        b.alone j h q (rw (w.core_other j q) at f) f' (rw (w.core_other j q) at e)

    still_distinct : (j l : ℕ) → j < s.m → l < s.m → BoxFilled s' j → BoxFilled s' l → SameSource (core_at s' j) (core_at s' l) → j ≡ l
    still_distinct j l h h' f f' e = go (ℕ_discrete j k) (ℕ_discrete l k)
      where
        go : Dec (j ≡ k) → Dec (l ≡ k) → j ≡ l
        go (yes p) (yes q) = p ∙ sym q
        go (yes p) (no q) = absurd (still_alone l h' q f' (rw p at f) (rw p at (sym e)))
        go (no p) (yes q) = absurd (still_alone j h p f (rw q at f') (rw q at e))
        go (no p) (no q) =
            c.distinct j l h h' (rw (w.core_other j p) at f) (rw (w.core_other l q) at f')
            (rw (w.core_other j p, w.core_other l q) at e)

    same_n : s'.n ≡ s.n
    same_n = kept_n s s' w.kept

    same_m : s'.m ≡ s.m
    same_m = kept_m s s' w.kept

    pub box_written_consistent : Consistent s'
    box_written_consistent =
        record {
          some_source = rw same_n c.some_source;
          n_le = rw same_n c.n_le;
          some_core = rw same_m c.some_core;
          m_le = rw same_m c.m_le;
          sources_length = kept_sources_length s s' w.kept ∙ c.sources_length;
          cores_length = kept_cores_length s s' w.kept ∙ c.cores_length;
          configured_source = λ i h. rw (same_n, kept_configured s s' w.kept i) (c.configured_source i (omega (arith, same_n)));
          request_range = λ i h p. rw (same_n, kept_priority s s' w.kept i)
              (c.request_range i (omega (arith, same_n)) (rw (kept_pending s s' w.kept i) at p));
          idle_source = λ i h p. still_idle i (omega (arith, same_n)) (rw (kept_pending s s' w.kept i) at p);
          configured_core = λ j h. rw (same_n, kept_core_configured s s' w.kept j) (c.configured_core j (omega (arith, same_m)));
          unfilled_box =
              each_core s s' k w (λ (d : Core). d.message.filled ≡ false → d.message ≡ empty_box)
              b.empty (λ j h q. c.unfilled_box j h);
          spare_source = λ i h h'. still_spare i (c.spare_source i (omega (arith, same_n)) h');
          spare_core = λ j h h'. w.core_other j (omega (arith, same_m)) ∙ c.spare_core j (omega (arith, same_m)) h';
          backed = each_core s s' k w (λ (d : Core). d.message.filled ≡ true → Holding s' d) b.backed other_backed;
          distinct = λ j l h h'. still_distinct j l (omega (arith, same_m)) (omega (arith, same_m));
        }
