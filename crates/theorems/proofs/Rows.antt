-- Before settling an accepted command changes just the fields of its row of "Eight commands" (`RowsMet`). Assumes nothing.
--   source_written, core_written    what is read where one record is written by a function of it
--   source_row_lem, core_row            each command's own, by the checks it has passed
use Prim.Native.Nat.{ℕ, suc, pred, ◌<◌}
use mathlib.Core.Path.{◌≡◌, refl, sym, ◌∙◌, ap}
use mathlib.Core.Bool.{Bool, true, false, cond}
use native.Mathlib.Omega.{arith}
use native.Mathlib.Decide.{dec_lt}
use lib.Dec.{eqb}
use lib.ListN.{set, get_or-map, get_or-eq_default}
use Rattle.model.specs.declared.SourceId.{SourceId}
use Rattle.model.specs.declared.CoreId.{CoreId}
use Rattle.model.specs.declared.Source.{Source}
use Rattle.model.specs.declared.MessageBox.{MessageBox}
use Rattle.model.specs.declared.Core.{Core}
use Rattle.model.specs.declared.Controller.{Controller}
use Rattle.model.specs.declared.Command.{Command}
use Rattle.model.specs.declared.Command.TheVariants.{OnSource, OnCore}
use Rattle.model.specs.declared.SourceAction.{SourceAction}
use Rattle.model.specs.declared.SourceAction.TheVariants.{SetSourcePriority, Mask, Unmask, Trigger, Redeliver, Complete}
use Rattle.model.specs.declared.CoreAction.TheVariants.{SetCorePriority, Claim}
use Rattle.model.specs.Records.{max_cores, no_source, no_core, index_of, box_with, core_with, source_at, core_at, with_source, with_core, bare}
use Rattle.model.specs.WellFormed.{WellFormed}
use Rattle.model.specs.Commands.{soiled, claimed_core, source_after, effect, refusal, settled, execute}
use Rattle.model.specs.Statements.{Change, keep, becomes, changed, core_by, source_row, source_in, core_in, RowsMet}
use Rattle.lists.proofs.Writes.{read_written}
use Rattle.effects.proofs.Accepted.{execute_accepted}
use Rattle.effects.proofs.Checked.{Named, Checked, accepted}
use Rattle.effects.proofs.Effects.{effect_sizes}
use Rattle.settling.proofs.Keeps.{settling_leaves_bare}

-- ---- one record written

module _ (s : Controller) (w : WellFormed s) where
  source_written : (id : SourceId) → Named s id → (f : Source → Source) (i : ℕ) →
      source_at (with_source s (index_of id) (f (source_at s (index_of id)))) i ≡ cond (eqb id.0 (suc i)) (f (source_at s i)) (source_at s i)
  source_written id h f i =
      sym (read_written (λ j r. r) s.sources (pred id.0) i (f (source_at s (index_of id))) no_source (omega arith) id.0 (suc i)
      (λ e. omega arith, λ e. omega arith) (λ e. rw e) refl)

  core_written : (j : ℕ) → j < s.m → (f : Core → Core) (k : ℕ) →
      core_at (with_core s j (f (core_at s j))) k ≡ cond (eqb j k) (f (core_at s k)) (core_at s k)
  core_written j h f k =
      sym (read_written (λ i c. c) s.cores j k (f (core_at s j)) no_core (omega arith) j k (λ e. sym e, λ e. sym e) (λ e. rw e) refl)

-- ---- the definition's record of an action is the row's

same_row : (a : SourceAction) (r : Source) → source_after a r ≡ source_row a r
same_row (SetSourcePriority p) r = refl
same_row Mask r = refl
same_row Unmask r = refl
same_row Trigger r = refl
same_row Redeliver r = refl
same_row Complete r = refl

-- ---- every filled box made dirty

-- the box's flag becomes on if it is filled, and is off before
dirty_by : (filled dirty : Bool) → dirty ≡ false → filled ≡ changed (cond filled (becomes true) keep) dirty
dirty_by true dirty e = refl
dirty_by false dirty e = sym e

soiled_by : (p : Change ℕ) (c : Core) → c.message.dirty ≡ false →
    soiled (core_with (changed p c.configured) c.message) ≡ core_by p keep (cond c.message.filled (becomes true) keep) keep keep c
soiled_by p c e =
    let b : MessageBox = c.message in
    λ t. core_with (changed p c.configured) (box_with b.filled (dirty_by b.filled b.dirty e t) b.source b.priority)

module _ (s : Controller) (w : WellFormed s) where
  -- spare cores, and what is read past the list's end, have empty boxes
  none_dirty : (k : ℕ) → (core_at s k).message.dirty ≡ false
  none_dirty k = go (dec_lt k s.m) (dec_lt k max_cores)
    where
      go : Dec (k < s.m) → Dec (k < max_cores) → (core_at s k).message.dirty ≡ false
      go (yes p) d = w.clean k p
      go (no q) (yes p) = rw (w.consistent.spare_core k (omega arith) p)
      go (no q) (no p) = rw (get_or-eq_default s.cores no_core {n = k} (omega arith))

  soiled_row : (j : CoreId) (p : ℕ) → j.0 < s.m → (k : ℕ) →
      core_at (effect s (OnCore j (SetCorePriority p))) k ≡ core_in (OnCore j (SetCorePriority p)) k (core_at s k)
  unfolding effect
  soiled_row j p h k =
      get_or-map soiled (set s.cores j.0 _) k no_core ∙
      ap soiled (core_written s w j.0 h (λ c. core_with p c.message) k) ∙ go (eqb j.0 k)
    where
      go : (b : Bool) →
          soiled (cond b (core_with p (core_at s k).message) (core_at s k)) ≡
          core_by (cond b (becomes p) keep) keep (cond (core_at s k).message.filled (becomes true) keep) keep keep (core_at s k)
      go true = soiled_by (becomes p) (core_at s k) (none_dirty k)
      go false = soiled_by keep (core_at s k) (none_dirty k)

  -- ---- the rows

  source_row_lem : (c : Command) → Checked s c → (i : ℕ) → source_at (effect s c) i ≡ source_in c (suc i) (source_at s i)
  unfolding effect
  source_row_lem (OnSource id a) h i =
      source_written s w id h.0 (source_after a) i ∙
      ap (λ (r : Source). cond (eqb id.0 (suc i)) r (source_at s i)) (same_row a (source_at s i))
  source_row_lem (OnCore j a) h i = refl

  core_row : (c : Command) → Checked s c → (k : ℕ) → core_at (effect s c) k ≡ core_in c k (core_at s k)
  unfolding effect
  core_row (OnSource id a) h k = refl
  core_row (OnCore j (SetCorePriority p)) h k = soiled_row j p h.0 k
  core_row (OnCore j Claim) h k = core_written s w j.0 h.0 claimed_core k

settled_bare : (s : Controller) (c : Command) → refusal s c ≡ 0 → bare (execute s c).state ≡ bare (effect s c)
unfolding settled
settled_bare s c e = rw (execute_accepted s c e) (settling_leaves_bare _ (effect s c))

pub rows_met : RowsMet
rows_met s c e =
    let (w, checks) = accepted s c e in
    record {
      sizes = effect_sizes s c;
      sources = source_row_lem s w c checks;
      cores = core_row s w c checks;
      settled = settled_bare s c e;
    }
