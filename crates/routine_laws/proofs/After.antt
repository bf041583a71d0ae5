-- What an accepted command of the controller does to claimed requests, to their priorities and to configured priorities. Assumes nothing.
--   n_after, m_after, configured_after, priority_after, pending_after, claimed_after
--                               of any command: as its effect has it before settling
--   SourceStep, source_step     of a command on a source: the cores stay, and the other sources
--   Claiming, claiming          of a claim: the box's request becomes claimed, at the core's configured priority
--   lowered-..                  of set core priority: no request is claimed or let go
use Prim.Native.Nat.{ℕ, suc, ◌*◌, ◌<◌}
use mathlib.Core.Path.{◌≡◌, refl, sym, ◌∙◌, ap}
use mathlib.Core.Logic.{◌≢◌}
use mathlib.Core.Bool.{true, false, not, ◌&&◌}
use lib.ListN.{length, set, get_or-map}
use lib.Seq.{get_or-set_same, get_or-set_other}
use native.Mathlib.Omega.{arith}
use borrow.Author.Tests.{ne_eqb}
use Rattle.lists.proofs.Bools.{and_in, not_in, clash, refuted}
use Rattle.lists.proofs.Writes.{read_set, read_kept}
use Rattle.model.specs.declared.SourceId.{SourceId}
use Rattle.model.specs.declared.CoreId.{CoreId}
use Rattle.model.specs.declared.Source.{Source}
use Rattle.model.specs.declared.Core.{Core}
use Rattle.model.specs.declared.Controller.{Controller}
use Rattle.model.specs.declared.Answer.{Answer}
use Rattle.model.specs.declared.Command.{Command}
use Rattle.model.specs.declared.Command.TheVariants.{OnSource, OnCore}
use Rattle.model.specs.declared.SourceAction.{SourceAction}
use Rattle.model.specs.declared.CoreAction.TheVariants.{SetCorePriority, Claim}
use Rattle.model.specs.Records.{no_source, no_core, index_of, core_with, source_at, core_at, with_source, with_core}
use Rattle.model.specs.Requests.{holds, boxed, claimed}
use Rattle.model.specs.WellFormed.{WellFormed, Holding}
use Rattle.model.specs.Settling.{settle}
use Rattle.model.specs.Commands.{soiled, claimed_core, source_after, effect, refusal, settled, execute}
use Rattle.model.proofs.Claims.{claimed_out}
use Rattle.model.proofs.Boxes.{holds_in, holds_filled, holds_source, boxed_in, unboxed_in, boxed_agree}
use Rattle.settling.specs.Phases.{Kept}
use Rattle.settling.proofs.Keeps.{kept_n, kept_m, kept_pending, kept_priority, kept_core_configured, settling_leaves_bare}
use Rattle.effects.proofs.Accepted.{execute_accepted}
use Rattle.effects.proofs.Checked.{accepted, named_index}
use Rattle.effects.proofs.Effects.{effect_sizes}
use Rattle.effects.proofs.CoreEffects.{claimed_cores, set_cores}
use Rattle.effects.proofs.Kept.{execute_settles}
use Rattle.effects.proofs.AtRest.{claim_answer}

-- ---- any command

module _ (s : Controller) (o : Command) (e : refusal s o ≡ 0) where
  abbrev t : Controller
  t = (execute s o).state

  is_settled : t ≡ settle (2 * (effect s o).m) (effect s o)
  unfolding settled
  is_settled = ap (λ (a : Answer). a.state) (execute_accepted s o e)

  kept : Kept (effect s o) t
  kept = rw is_settled (settling_leaves_bare (2 * (effect s o).m) (effect s o))

  pub n_after : t.n ≡ s.n
  n_after = kept_n (effect s o) t kept ∙ (effect_sizes s o).0

  pub m_after : t.m ≡ s.m
  m_after = kept_m (effect s o) t kept ∙ (effect_sizes s o).1

  pub configured_after : (k : ℕ) → (core_at t k).configured ≡ (core_at (effect s o) k).configured
  configured_after k = kept_core_configured (effect s o) t kept k

  pub priority_after : (i : ℕ) → (source_at t i).priority ≡ (source_at (effect s o) i).priority
  priority_after i = kept_priority (effect s o) t kept i

  pub pending_after : (i : ℕ) → (source_at t i).pending ≡ (source_at (effect s o) i).pending
  pending_after i = kept_pending (effect s o) t kept i

  pub claimed_after : (i : ℕ) → i < s.n → claimed t i ≡ claimed (effect s o) i
  claimed_after i h =
      rw is_settled ((execute_settles s o e).claimed_kept i (omega (arith, (effect_sizes s o).0)))

-- ---- a command on a source

-- From s to t only the record of the source at i was written.
pub record SourceStep (s t : Controller) (i : ℕ) (r : Source) : Type 0 where
  pub n_same : t.n ≡ s.n
  pub m_same : t.m ≡ s.m
  pub configured : (k : ℕ) → (core_at t k).configured ≡ (core_at s k).configured
  pub priority_here : (source_at t i).priority ≡ r.priority
  pub priority : (j : ℕ) → j ≢ i → (source_at t j).priority ≡ (source_at s j).priority
  pub claimed_here : claimed t i ≡ r.pending && r.delivered && not (boxed s.cores s.m (suc i))
  pub claimed_other : (j : ℕ) → j < s.n → j ≢ i → claimed t j ≡ claimed s j

module _ (s : Controller) (id : SourceId) (a : SourceAction) (e : refusal s (OnSource id a) ≡ 0) where
  abbrev at : ℕ
  at = index_of id

  abbrev after : Source
  after = source_after a (source_at s at)

  pub at_lt : index_of id < s.n
  at_lt = let (w, (h, g)) = accepted s (OnSource id a) e in named_index s id h

  fits : index_of id < length s.sources
  fits = let (w, c) = accepted s (OnSource id a) e in omega (arith, at_lt, w.consistent.sources_length, w.consistent.n_le)

  here : source_at (with_source s at after) at ≡ after
  here = get_or-set_same s.sources at after no_source fits

  other : (j : ℕ) → j ≢ at → source_at (with_source s at after) j ≡ source_at s j
  other j h = get_or-set_other s.sources at j after no_source h

  pub source_step : SourceStep s (execute s (OnSource id a)).state (index_of id) (source_after a (source_at s (index_of id)))
  unfolding effect
  source_step =
      record {
        n_same = n_after s (OnSource id a) e;
        m_same = m_after s (OnSource id a) e;
        configured = configured_after s (OnSource id a) e;
        priority_here = priority_after s (OnSource id a) e at ∙ ap (λ (r : Source). r.priority) here;
        priority = λ j h. priority_after s (OnSource id a) e j ∙ ap (λ (r : Source). r.priority) (other j h);
        claimed_here = claimed_after s (OnSource id a) e at at_lt ∙
            ap (λ (r : Source). r.pending && r.delivered && not (boxed s.cores s.m (suc at))) here;
        claimed_other = λ j l h. claimed_after s (OnSource id a) e j l ∙
            ap (λ (r : Source). r.pending && r.delivered && not (boxed s.cores s.m (suc j))) (other j h);
      }

-- ---- a claim

-- From s to t core k has taken the request of source i + 1 out of its box.
pub record Claiming (s t : Controller) (i k : ℕ) : Type 0 where
  pub n_same : t.n ≡ s.n
  pub m_same : t.m ≡ s.m
  pub source_in : i < s.n
  pub sources : (j : ℕ) → source_at t j ≡ source_at s j
  pub at_priority : (core_at t k).configured ≡ (source_at t i).priority
  pub configured : (j : ℕ) → j ≢ k → (core_at t j).configured ≡ (core_at s j).configured
  pub was_free : claimed s i ≡ false
  pub taken : claimed t i ≡ true
  pub others : (j : ℕ) → j ≢ i → claimed t j ≡ claimed s j

module _ (s : Controller) (w : WellFormed s) (k : CoreId) (k_lt : k.0 < s.m) (filled : (core_at s k.0).message.filled ≡ true)
    (i : ℕ) (names : (core_at s k.0).message.source.0 ≡ suc i) where
  inside : k.0 < length s.cores
  inside = omega (arith, w.consistent.cores_length, w.consistent.m_le)

  backed : Holding s (core_at s k.0)
  backed = w.consistent.backed k.0 k_lt filled

  boxed_here : boxed s.cores s.m (suc i) ≡ true
  boxed_here = boxed_in s.cores s.m (suc i) k.0 k_lt (holds_in (suc i) (core_at s k.0) filled names)

  unboxed : boxed (claimed_cores s k.0) s.m (suc i) ≡ false
  unboxed =
      unboxed_in (claimed_cores s k.0) s.m (suc i)
      (λ j h. read_set (λ c. holds (suc i) c ≡ false) s.cores k.0 j (claimed_core (core_at s k.0)) no_core inside (λ e. refl)
      (λ apart. refuted (holds (suc i) (core_at s j))
      (λ e. apart (w.consistent.distinct j k.0 h k_lt (holds_filled (suc i) (core_at s j) e) filled
      (holds_source (suc i) (core_at s j) e ∙ sym names)))))

  others_boxed : (j : ℕ) → j ≢ i → boxed (claimed_cores s k.0) s.m (suc j) ≡ boxed s.cores s.m (suc j)
  others_boxed j apart =
      boxed_agree (claimed_cores s k.0) s.cores s.m (suc j)
      (λ x h. read_kept (λ y c. holds (suc j) c) s.cores k.0 x (claimed_core (core_at s k.0)) no_core
      (rw (filled, names, ne_eqb (suc i) (suc j) (omega arith))))

  abbrev taking : Controller
  taking = with_core s k.0 (claimed_core (core_at s k.0))

  core_here : core_at taking k.0 ≡ claimed_core (core_at s k.0)
  core_here = get_or-set_same s.cores k.0 (claimed_core (core_at s k.0)) no_core inside

  core_other : (j : ℕ) → j ≢ k.0 → core_at taking j ≡ core_at s j
  core_other j h = get_or-set_other s.cores k.0 j (claimed_core (core_at s k.0)) no_core h

  priority_here : (source_at s i).priority ≡ (core_at s k.0).message.priority
  priority_here = rw names at backed.same_priority

  taking_claims : Claiming s taking i k.0
  taking_claims =
      record {
        n_same = refl;
        m_same = refl;
        source_in = omega (arith, names, backed.id_le);
        sources = λ j. refl;
        at_priority = ap (λ (c : Core). c.configured) core_here ∙ sym priority_here;
        configured = λ j h. ap (λ (c : Core). c.configured) (core_other j h);
        was_free = refuted (claimed s i) (λ e. clash boxed_here (claimed_out s i e).2);
        taken = and_in (and_in (rw names at backed.pending) (rw names at backed.delivered)) (not_in unboxed);
        others = λ j h. ap (λ b. (source_at s j).pending && (source_at s j).delivered && not b) (others_boxed j h);
      }

  pub claiming : Claiming s (execute s (OnCore k Claim)).state i k.0
  claiming = rw (claim_answer s w k k_lt filled) taking_claims

-- ---- set core priority

module _ (s : Controller) (k : CoreId) (p : ℕ) (e : refusal s (OnCore k (SetCorePriority p)) ≡ 0) where
  abbrev command : Command
  command = OnCore k (SetCorePriority p)

  -- core k with its new priority, before its box is soiled
  abbrev rewritten : Core
  rewritten = core_with p (core_at s k.0).message

  room : k.0 < length s.cores
  room =
      let (w, (h, g)) = accepted s command e in
      omega (arith, h, w.consistent.cores_length, w.consistent.m_le)

  soiled_boxed : (id : ℕ) → boxed (set_cores s k.0 p) s.m id ≡ boxed s.cores s.m id
  soiled_boxed id =
      boxed_agree (set_cores s k.0 p) s.cores s.m id
      (λ j h. rw (get_or-map soiled (set s.cores k.0 rewritten) j no_core)
      (read_kept (λ x c. holds id c) s.cores k.0 j rewritten no_core refl))

  pub lowered_claimed : (i : ℕ) → i < s.n → claimed (execute s (OnCore k (SetCorePriority p))).state i ≡ claimed s i
  unfolding effect
  lowered_claimed i h =
      claimed_after s command e i h ∙
      ap (λ b. (source_at s i).pending && (source_at s i).delivered && not b) (soiled_boxed (suc i))

  pub lowered_priority : (i : ℕ) → (source_at (execute s (OnCore k (SetCorePriority p))).state i).priority ≡ (source_at s i).priority
  unfolding effect
  lowered_priority i = priority_after s command e i

  pub lowered_here : (core_at (execute s (OnCore k (SetCorePriority p))).state k.0).configured ≡ p
  unfolding effect
  lowered_here =
      configured_after s command e k.0 ∙
      ap (λ (c : Core). c.configured)
      (get_or-map soiled (set s.cores k.0 rewritten) k.0 no_core ∙
      ap soiled (get_or-set_same s.cores k.0 rewritten no_core room))

  pub lowered_other :
      (j : ℕ) → j ≢ k.0 → (core_at (execute s (OnCore k (SetCorePriority p))).state j).configured ≡ (core_at s j).configured
  unfolding effect
  lowered_other j h =
      configured_after s command e j ∙
      ap (λ (c : Core). c.configured)
      (get_or-map soiled (set s.cores k.0 rewritten) j no_core ∙
      ap soiled (get_or-set_other s.cores k.0 j rewritten no_core h))
