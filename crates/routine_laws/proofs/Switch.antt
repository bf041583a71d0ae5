-- What a call does to one core keeps the simulation sound. Assumes nothing.
--   Switch s t k a    from s to t core k goes over to the request of id a, or to none (0); the one that was active on it is not claimed
--                     any more, unless it is a, and the other cores and their requests stay
--   switch_sound      such a step keeps the simulation sound
use Prim.Native.Nat.{ℕ, zero, suc, ◌<◌, ◌≤◌}
use mathlib.Core.Path.{◌≡◌, refl, sym, ◌∙◌}
use mathlib.Core.Logic.{◌≢◌}
use mathlib.Core.Bool.{true}
use lib.ListN.{length}
use native.Mathlib.Omega.{arith}
use native.Mathlib.Decide.{ℕ_discrete}
use Rattle.model.specs.Records.{max_sources, max_cores, source_at, core_at}
use Rattle.model.specs.Requests.{claimed}
use Rattle.model.specs.WellFormed.{WellFormed}
use Rattle.routines.specs.declared.Routines.{Routines}
use Rattle.routines.specs.Routines.{active_at, holder_at, Runs, RunsOnce, IdleAt, SoundRoutines}
use Rattle.routine_laws.proofs.Standing.{same_core}

-- The request of source i + 1 is claimed in t as in s, with the same priority and the same last holder.
pub record Stays (s t : Routines) (i : ℕ) : Type 0 where
  pub is_claimed : claimed t.controller i ≡ true
  pub same_priority : (source_at t.controller i).priority ≡ (source_at s.controller i).priority
  pub same_holder : holder_at t i ≡ holder_at s i

-- Core k has taken the request of source i + 1.
pub record TakenBy (t : Routines) (i k : ℕ) : Type 0 where
  pub is_claimed : claimed t.controller i ≡ true
  pub at_priority : (core_at t.controller k).configured ≡ (source_at t.controller i).priority
  pub held : holder_at t i ≡ suc k

pub record Switch (s t : Routines) (k a : ℕ) : Type 0 where
  pub is_well_formed : WellFormed t.controller
  pub n_same : t.controller.n ≡ s.controller.n
  pub m_same : t.controller.m ≡ s.controller.m
  pub core_in : k < s.controller.m
  pub active_length : length t.active ≡ max_cores
  pub holder_length : length t.holder ≡ max_sources
  -- core k
  pub here : active_at t k ≡ a
  pub id_le : a ≤ s.controller.n
  pub none : a ≡ 0 → (core_at t.controller k).configured ≡ 0
  pub taken : (i : ℕ) → suc i ≡ a → TakenBy t i k
  -- the other cores
  pub elsewhere : (j : ℕ) → j ≢ k → active_at t j ≡ active_at s j
  pub apart : (j : ℕ) → j < s.controller.m → j ≢ k → 1 ≤ a → active_at s j ≢ a
  pub configured : (j : ℕ) → j ≢ k → (core_at t.controller j).configured ≡ (core_at s.controller j).configured
  -- the other requests
  pub claimed_before :
      (i : ℕ) → i < s.controller.n → suc i ≢ a → claimed t.controller i ≡ true →
      (claimed s.controller i ≡ true) × (suc i ≢ active_at s k)
  pub stays : (i : ℕ) → i < s.controller.n → claimed s.controller i ≡ true → suc i ≢ active_at s k → Stays s t i
  pub holders_in_range : (i : ℕ) → i < max_sources → holder_at t i ≤ s.controller.m

module _ {s t : Routines} {k a : ℕ} (sound : SoundRoutines s) (x : Switch s t k a) where
  in_s : {i : ℕ} → i < t.controller.n → i < s.controller.n
  in_s h = omega (arith, x.n_same)

  core_of_lem : {j : ℕ} → j < t.controller.m → j < s.controller.m
  core_of_lem h = omega (arith, x.m_same)

  -- on another core a request ran before
  before : (i j : ℕ) → Runs t i j → j ≢ k → Runs s i j × (suc i ≢ active_at s k)
  before i j r p =
      let active : active_at s j ≡ suc i = sym (x.elsewhere j p) ∙ r.active in
      let ne : suc i ≢ a = λ z. x.apart j (core_of_lem r.core_in) p (omega arith) (active ∙ z) in
      let (e, q) = x.claimed_before i (in_s r.source_in) ne r.is_claimed in
      (record { core_in = core_of_lem r.core_in; source_in = in_s r.source_in; is_claimed = e; active = active }, q)

  -- and goes on there
  after : (i j : ℕ) → Runs s i j → j ≢ k → Runs t i j
  after i j r p =
      let ne : suc i ≢ active_at s k = λ e. p (sym (same_core s sound i j k r x.core_in (sym e))) in
      record {
        core_in = omega (arith, r.core_in, x.m_same);
        source_in = omega (arith, r.source_in, x.n_same);
        is_claimed = (x.stays i r.source_in r.is_claimed ne).is_claimed;
        active = x.elsewhere j p ∙ r.active;
      }

  taken_here : (i : ℕ) → suc i ≡ a → Runs t i k
  taken_here i e =
      record {
        core_in = omega (arith, x.core_in, x.m_same);
        source_in = omega (arith, x.id_le, x.n_same);
        is_claimed = (x.taken i e).is_claimed;
        active = x.here ∙ sym e;
      }

  runs_once : (i : ℕ) → i < t.controller.n → claimed t.controller i ≡ true → (j : ℕ) × RunsOnce t i j
  runs_once i h e = go (ℕ_discrete (suc i) a)
    where
      go : Dec (suc i ≡ a) → (j : ℕ) × RunsOnce t i j
      go (yes p) = (k, record { here = taken_here i p; only = λ j l q. only j l q (ℕ_discrete j k) })
        where
          only : (j : ℕ) → j < t.controller.m → active_at t j ≡ suc i → Dec (j ≡ k) → j ≡ k
          only j l q (yes d) = d
          only j l q (no d) = absurd (x.apart j (core_of_lem l) d (omega arith) (sym (x.elsewhere j d) ∙ q ∙ p))
      go (no p) =
          let (was, ne) = x.claimed_before i (in_s h) p e in
          let (j, once) = sound.runs_once i (in_s h) was in
          let d : j ≢ k = λ z. ne (sym once.here.active ∙ rw z) in
          (j, record { here = after i j once.here d; only = λ l q r. only j once l q r (ℕ_discrete l k) })
        where
          only : (j : ℕ) → RunsOnce s i j → (l : ℕ) → l < t.controller.m → active_at t l ≡ suc i → Dec (l ≡ k) → l ≡ j
          only j once l q r (yes d) = absurd (p (sym r ∙ rw d x.here))
          only j once l q r (no d) = once.only l (core_of_lem q) (sym (x.elsewhere l d) ∙ r)

  runs_at_its_priority : (i j : ℕ) → Runs t i j → (core_at t.controller j).configured ≡ (source_at t.controller i).priority
  runs_at_its_priority i j r = go (ℕ_discrete j k)
    where
      go : Dec (j ≡ k) → (core_at t.controller j).configured ≡ (source_at t.controller i).priority
      go (yes d) = rw d (x.taken i (sym r.active ∙ rw d x.here)).at_priority
      go (no d) =
          let (was, ne) = before i j r d in
          x.configured j d ∙ sound.runs_at_its_priority i j was ∙ sym (x.stays i was.source_in was.is_claimed ne).same_priority

  runs_where_held : (i j : ℕ) → Runs t i j → holder_at t i ≡ suc j
  runs_where_held i j r = go (ℕ_discrete j k)
    where
      go : Dec (j ≡ k) → holder_at t i ≡ suc j
      go (yes d) = rw d (x.taken i (sym r.active ∙ rw d x.here)).held
      go (no d) =
          let (was, ne) = before i j r d in
          (x.stays i was.source_in was.is_claimed ne).same_holder ∙ sound.runs_where_held i j was

  idle_here : ((i : ℕ) → ¬ Runs t i k) → IdleAt t k
  idle_here none = go a refl
    where
      go : (b : ℕ) → a ≡ b → IdleAt t k
      go zero e = record { none_active = x.here ∙ e; at_zero = x.none e }
      go (suc i) e = absurd (none i (taken_here i (sym e)))

  rest_idle : (j : ℕ) → j < max_cores → ((i : ℕ) → ¬ Runs t i j) → IdleAt t j
  rest_idle j h none = go (ℕ_discrete j k)
    where
      go : Dec (j ≡ k) → IdleAt t j
      go (yes d) = rw d (idle_here (rw d at none))
      go (no d) =
          let old : IdleAt s j = sound.rest_idle j h (λ i r. none i (after i j r d)) in
          record { none_active = x.elsewhere j d ∙ old.none_active; at_zero = x.configured j d ∙ old.at_zero }

  pub switch_sound : SoundRoutines t
  switch_sound =
      record {
        controller = x.is_well_formed;
        active_length = x.active_length;
        holder_length = x.holder_length;
        runs_once = runs_once;
        runs_at_its_priority = runs_at_its_priority;
        runs_where_held = runs_where_held;
        rest_idle = rest_idle;
        holders_in_range = λ i h. rw x.m_same (x.holders_in_range i h);
      }
