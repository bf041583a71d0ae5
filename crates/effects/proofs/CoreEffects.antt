-- A command that writes cores keeps the state consistent: claim and set core priority. Assumes nothing.
--   Carried c d             the box of d holds the request that the box of c held, above d's configured priority if it is clean
--   Recored s l             what cores l must satisfy to stand in state s: a filled box holds what it held
--   with_cores-consistent    such a write keeps `Consistent`
--   box_range               a filled box's priority is 1 to top
--   current_same            a claim leaves every core's current priority as it was
--   claimed_frugal          and no covered priority that reaches a box
-- and the cores after the two commands are such cores, in the phase that settling begins with.
use Prim.Native.Nat.{ℕ, pred, ◌<◌, ◌≤◌}
use mathlib.Core.Path.{◌≡◌, refl, sym, ap, ◌∙◌}
use mathlib.Core.List.{List, map}
use mathlib.Core.Bool.{true, false}
use lib.ListN.{length, get_or, set, length-set, length-map, get_or-map}
use native.Mathlib.Omega.{arith}
use Rattle.model.specs.declared.Core.{Core}
use Rattle.model.specs.declared.Controller.{Controller}
use Rattle.model.specs.Records.{max_cores, no_core, reset_core, empty_box, dirtied, core_with, index_of, core_at, with_cores}
use Rattle.model.specs.Priorities.{top_priority}
use Rattle.model.specs.Requests.{current_priority}
use Rattle.model.specs.Commands.{soiled, claimed_core}
use Rattle.lists.proofs.Bools.{clash}
use Rattle.lists.proofs.Writes.{read_set}
use Rattle.model.specs.WellFormed.{Consistent, Holding, Frugal}
use Rattle.settling.specs.Phases.{AllDirty, Delivering}
use Rattle.effects.proofs.Checked.{InTop}

pub record Carried (c d : Core) : Type 0 where
  pub filled : c.message.filled ≡ true
  pub same_source : d.message.source.0 ≡ c.message.source.0
  pub same_priority : d.message.priority ≡ c.message.priority
  pub above : d.message.dirty ≡ false → d.configured < d.message.priority

pub record Recored (s : Controller) (l : List Core) : Type 0 where
  pub cores_length : length l ≡ max_cores
  pub configured : (k : ℕ) → k < s.m → (get_or l k no_core).configured ≤ top_priority s.n
  pub empty : (k : ℕ) → k < s.m → (get_or l k no_core).message.filled ≡ false → (get_or l k no_core).message ≡ empty_box
  pub spare : (k : ℕ) → s.m ≤ k → k < max_cores → get_or l k no_core ≡ reset_core
  pub carried : (k : ℕ) → k < s.m → (get_or l k no_core).message.filled ≡ true → Carried (core_at s k) (get_or l k no_core)

module _ (s : Controller) (c : Consistent s) (l : List Core) (fit : Recored s l) where
  held : (k : ℕ) → k < s.m → (get_or l k no_core).message.filled ≡ true → Holding (with_cores s l) (get_or l k no_core)
  held k h f =
      let kept : Carried (core_at s k) (get_or l k no_core) = fit.carried k h f in
      let old : Holding s (core_at s k) = c.backed k h kept.filled in
      record {
        some_id = rw kept.same_source old.some_id;
        id_le = rw kept.same_source old.id_le;
        pending = rw kept.same_source old.pending;
        delivered = rw kept.same_source old.delivered;
        same_priority = rw (kept.same_source, kept.same_priority) old.same_priority;
        above = kept.above;
      }

  pub with_cores-consistent : Consistent (with_cores s l)
  with_cores-consistent =
      record {
        some_source = c.some_source;
        n_le = c.n_le;
        some_core = c.some_core;
        m_le = c.m_le;
        sources_length = c.sources_length;
        cores_length = fit.cores_length;
        configured_source = c.configured_source;
        request_range = c.request_range;
        idle_source = c.idle_source;
        configured_core = fit.configured;
        unfilled_box = fit.empty;
        spare_source = c.spare_source;
        spare_core = fit.spare;
        backed = held;
        distinct = λ j k h h' f f' e.
            let kept : Carried (core_at s j) (get_or l j no_core) = fit.carried j h f in
            let kept' : Carried (core_at s k) (get_or l k no_core) = fit.carried k h' f' in
            c.distinct j k h h' kept.filled kept'.filled (sym kept.same_source ∙ e ∙ kept'.same_source);
      }

-- ---- claim

-- the cores after a claim on core k
abbrev pub claimed_cores : Controller → ℕ → List Core
claimed_cores s k = set s.cores k (claimed_core (core_at s k))

module _ (s : Controller) (c : Consistent s) (k : ℕ) (k_lt : k < s.m) (filled : (core_at s k).message.filled ≡ true) where
  read_claimed :
      (P : Core → Type 0) (j : ℕ) → (j ≡ k → P (claimed_core (core_at s k))) → P (core_at s j) → P (get_or (claimed_cores s k) j no_core)
  read_claimed P j same old =
      let fits : k < length s.cores = omega arith in
      read_set P s.cores k j (claimed_core (core_at s k)) no_core fits same (λ h. old)

  -- the box's priority is that of a pending request
  pub box_range : InTop (top_priority s.n) (core_at s k).message.priority
  box_range =
      let old : Holding s (core_at s k) = c.backed k k_lt filled in
      let i_lt : pred (core_at s k).message.source.0 < s.n = omega arith in
      rw old.same_priority at (c.request_range (index_of (core_at s k).message.source) i_lt old.pending)

  pub claimed_recored : Recored s (claimed_cores s k)
  claimed_recored =
      record {
        cores_length = length-set s.cores k (claimed_core (core_at s k)) ∙ c.cores_length;
        configured = λ j h. read_claimed (λ d. d.configured ≤ top_priority s.n) j (λ e. box_range.1) (c.configured_core j h);
        empty = λ j h. read_claimed (λ d. d.message.filled ≡ false → d.message ≡ empty_box) j (λ e f. refl) (c.unfilled_box j h);
        spare = λ j h l. read_claimed (λ d. d ≡ reset_core) j (λ e. absurd (omega arith)) (c.spare_core j h l);
        carried = λ j h.
            read_claimed (λ d. d.message.filled ≡ true → Carried (core_at s j) d) j (λ e f. clash f refl)
            (λ f. record { filled = f; same_source = refl; same_priority = refl; above = (c.backed j h f).above });
      }

  -- the claimed core was interrupted by its box, at the priority that it rises to
  pub current_same : (j : ℕ) → current_priority (get_or (claimed_cores s k) j no_core) ≡ current_priority (core_at s j)
  current_same j = read_claimed (λ d. current_priority d ≡ current_priority (core_at s j)) j (λ e. rw (e, filled)) refl

  pub claimed_delivering : Delivering s → Delivering (with_cores s (claimed_cores s k))
  claimed_delivering old =
      record {
        clean = λ j h. read_claimed (λ d. d.message.dirty ≡ false) j (λ e. refl) (old.clean j h);
        covered = λ j i h h'. rw (current_same i)
            (read_claimed (λ d. d.message.filled ≡ true → d.configured ≤ current_priority (core_at s i)) j (λ e f. clash f refl)
            (old.covered j i h h'));
      }

  pub claimed_frugal : Frugal s → Frugal (with_cores s (claimed_cores s k))
  claimed_frugal f j i h h' =
      read_claimed
      (λ c. c.message.filled ≡ true → (get_or (claimed_cores s k) i no_core).message.filled ≡ true →
      c.configured < (get_or (claimed_cores s k) i no_core).message.priority) j
      (λ e u v. clash u refl)
      (read_claimed (λ d. (core_at s j).message.filled ≡ true → d.message.filled ≡ true →
      (core_at s j).configured < d.message.priority) i
      (λ e u v. clash v refl) (f j i h h'))

-- ---- set core priority

-- the cores after core k is set to priority p
abbrev pub set_cores : Controller → ℕ → ℕ → List Core
set_cores s k p = map soiled (set s.cores k (core_with p (core_at s k).message))

module _ (s : Controller) (c : Consistent s) (k : ℕ) (k_lt : k < s.m) (p : ℕ) (p-le : p ≤ top_priority s.n) where
  read_after :
      (P : Core → Type 0) (j : ℕ) → (j ≡ k → P (soiled (core_with p (core_at s k).message))) → P (soiled (core_at s j)) →
      P (get_or (set_cores s k p) j no_core)
  read_after P j same old =
      let fits : k < length s.cores = omega arith in
      let l : List Core = set s.cores k (core_with p (core_at s k).message) in
      rw (get_or-map soiled l j no_core)
      (read_set (λ d. P (soiled d)) s.cores k j (core_with p (core_at s k).message) no_core fits same (λ h. old))

  -- a core in use has some priority in range and its soiled box
  read_used :
      (P : Core → Type 0) (j : ℕ) → j < s.m → ((q : ℕ) → q ≤ top_priority s.n → P (soiled (core_with q (core_at s j).message))) →
      P (get_or (set_cores s k p) j no_core)
  read_used P j h each =
      read_after P j (λ e. rw (← e) (each p p-le)) (each (core_at s j).configured (c.configured_core j h))

  pub set_recored : Recored s (set_cores s k p)
  set_recored =
      record {
        cores_length = simp (length-map, length-set) c.cores_length;
        configured = λ j h. read_used (λ d. d.configured ≤ top_priority s.n) j h (λ q l. l);
        empty = λ j h. read_used (λ d. d.message.filled ≡ false → d.message ≡ empty_box) j h (λ q l f. ap dirtied (c.unfilled_box j h f));
        spare = λ j h l. read_after (λ d. d ≡ reset_core) j (λ e. absurd (omega arith)) (ap soiled (c.spare_core j h l));
        carried = λ j h.
            read_used (λ d. d.message.filled ≡ true → Carried (core_at s j) d) j h
            (λ q l f. record { filled = f; same_source = refl; same_priority = refl; above = clash f });
      }

  pub set-all_dirty : AllDirty (with_cores s (set_cores s k p))
  set-all_dirty j h = read_used (λ d. d.message.filled ≡ true → d.message.dirty ≡ true) j h (λ q l f. f)
