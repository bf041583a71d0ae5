-- A simulation is sound exactly when its controller is and each core and each source stands as the test asks. Assumes nothing.
--   idle_exact, running_exact    the test of one core: nothing is active on it, and something is
--   source_exact                 the test of one source
--   stands_exact                 the whole
use Prim.Native.Nat.{ℕ, suc, pred, ◌<◌, ◌≤◌}
use mathlib.Core.Path.{◌≡◌, ap}
use mathlib.Core.Logic.Iff
use mathlib.Core.Logic.{◌≢◌}
use mathlib.Core.Bool.{true, ◌&&◌}
use lib.Dec.{ltb}
use lib.ListN.{length}
use native.Mathlib.Omega.{arith}
use native.Mathlib.Decide.{ℕ_discrete}
use borrow.Author.Tests.{eq-eqb, ne_eqb}
use Rattle.lists.proofs.Bools.{Flag, on, off, flag, clash}
use Rattle.lists.proofs.Exact.{Exact, ◌and◌, flag_exact, ltb_exact, leb_exact, eqb_exact, implies_exact}
use Rattle.model.specs.declared.Controller.{Controller}
use Rattle.model.specs.Records.{max_sources, max_cores, source_at, core_at}
use Rattle.model.specs.Requests.{claimed}
use Rattle.model.specs.WellFormed.{well_formed, WellFormed}
use Rattle.well_formed.proofs.Test.{test_exact}
use Rattle.routines.specs.declared.Routines.{Routines}
use Rattle.routines.specs.Routines.{active_at, holder_at, active_index, runs, sound_routines, Runs, RunsOnce, IdleAt, SoundRoutines}
use Rattle.routine_laws.proofs.Test.{runs_out, runs_in, routines_test_exact}
use Rattle.routine_test.specs.Standing.{core_stands, source_stands}

-- ---- one core, one source

-- Core k is at the priority of source i + 1's request, and held it last.
abbrev pub Carries : Routines → ℕ → ℕ → Type 0
Carries s i k = ((core_at s.controller k).configured ≡ (source_at s.controller i).priority) × (holder_at s i ≡ suc k)

-- It runs a claimed request.
abbrev pub Running : Routines → ℕ → Type 0
Running s k = Runs s (active_index s k) k × Carries s (active_index s k) k

-- The request of source i + 1 has a last holder, which runs it.
abbrev pub Held : Routines → ℕ → Type 0
Held s i = (0 < holder_at s i) × (active_at s (pred (holder_at s i)) ≡ suc i)

abbrev pub SourceStands : Routines → ℕ → Type 0
SourceStands s i = (holder_at s i ≤ s.controller.m) × (i < s.controller.n → claimed s.controller i ≡ true → Held s i)

module _ (s : Routines) where
  abbrev c : Controller
  c = s.controller

  pub idle_exact : (k : ℕ) → active_at s k ≡ 0 → Exact (core_stands s k) ((core_at c k).configured ≡ 0)
  unfolding core_stands
  idle_exact k e = rw (eq-eqb (active_at s k) 0 e) (eqb_exact (core_at c k).configured 0)

  runs_exact : (k : ℕ) → Exact (runs s k) (Runs s (active_index s k) k)
  runs_exact k = (runs_out s k, runs_in s (active_index s k) k)

  pub running_exact : (k : ℕ) → active_at s k ≢ 0 → Exact (core_stands s k) (Running s k)
  unfolding core_stands
  running_exact k e =
      let at = active_index s k in
      rw (ne_eqb (active_at s k) 0 e)
      (runs_exact k and (eqb_exact (core_at c k).configured (source_at c at).priority and eqb_exact (holder_at s at) (suc k)))

  pub source_exact : (i : ℕ) → Exact (source_stands s i) (SourceStands s i)
  unfolding source_stands
  source_exact i =
      let in_use = ltb_exact i c.n and flag_exact (claimed c i) in
      let held = ltb_exact 0 (holder_at s i) and eqb_exact (active_at s (pred (holder_at s i))) (suc i) in
      leb_exact (holder_at s i) c.m and
      Iff.trans (implies_exact (ltb i c.n && claimed c i) held)
      (λ h l e. h (in_use.1 (l, e)), λ h e. let (l, q) = in_use.0 e in h l q)

-- ---- all of them

pub record Stands (s : Routines) : Type 0 where
  pub controller : well_formed s.controller ≡ true
  pub cores : (k : ℕ) → k < max_cores → core_stands s k ≡ true
  pub sources : (i : ℕ) → i < max_sources → source_stands s i ≡ true

module _ (s : Routines) where
  sound : Stands s → length s.active ≡ max_cores → length s.holder ≡ max_sources → SoundRoutines s
  sound p active_length holder_length =
      record {
        controller = well;
        active_length = active_length;
        holder_length = holder_length;
        runs_once = once;
        runs_at_its_priority = λ i k r. (there i k r.core_in r.active).0;
        runs_where_held = λ i k r. (there i k r.core_in r.active).1;
        rest_idle = λ k l apart. idle k l apart (ℕ_discrete (active_at s k) 0);
        holders_in_range = λ i l. ((source_exact s i).0 (p.sources i l)).0;
      }
    where
      well : WellFormed s.controller
      well = (test_exact s.controller).0 p.controller

      -- each core on which the request is active is at its priority, and is its last holder: so there is only one
      there : (i k : ℕ) → k < s.controller.m → active_at s k ≡ suc i → Carries s i k
      there i k l e =
          rw (ap pred e) at ((running_exact s k (omega arith)).0 (p.cores k (omega (arith, well.consistent.m_le)))).1

      once : (i : ℕ) → i < s.controller.n → claimed s.controller i ≡ true → (k : ℕ) × RunsOnce s i k
      once i l e =
          let (inside, held) = (source_exact s i).0 (p.sources i (omega (arith, well.consistent.n_le))) in
          let (some, active) = held l e in (
            pred (holder_at s i),
            record {
              here = record { core_in = omega arith; source_in = l; is_claimed = e; active = active };
              only = λ j h q. omega (arith, (there i j h q).1);
            },
          )

      idle : (k : ℕ) → k < max_cores → ((i : ℕ) → ¬ Runs s i k) → Dec (active_at s k ≡ 0) → IdleAt s k
      idle k l apart (yes e) = record { none_active = e; at_zero = (idle_exact s k e).0 (p.cores k l) }
      idle k l apart (no e) = absurd (apart (active_index s k) ((running_exact s k e).0 (p.cores k l)).0)

  stands : SoundRoutines s → Stands s
  stands r =
      record {
        controller = (test_exact s.controller).1 r.controller;
        cores = λ k l. core k l (ℕ_discrete (active_at s k) 0) (flag (runs s k));
        sources = λ i l. (source_exact s i).1 (r.holders_in_range i l, λ h e. held i h e);
      }
    where
      core : (k : ℕ) → k < max_cores → Dec (active_at s k ≡ 0) → Flag (runs s k) → core_stands s k ≡ true
      core k l (yes e) x = (idle_exact s k e).1 (r.rest_idle k l (λ i q. omega (arith, q.active))).at_zero
      core k l (no e) (on q) =
          let here = runs_out s k q in
          (running_exact s k e).1 (here, (r.runs_at_its_priority (active_index s k) k here, r.runs_where_held (active_index s k) k here))
      core k l (no e) (off q) = absurd (e (r.rest_idle k l (λ i h. clash (runs_in s i k h) q)).none_active)

      held : (i : ℕ) → i < s.controller.n → claimed s.controller i ≡ true → Held s i
      held i l e =
          let (k, one) = r.runs_once i l e in
          let last : holder_at s i ≡ suc k = r.runs_where_held i k one.here in
          (omega arith, rw last one.here.active)

  pub stands_exact : length s.active ≡ max_cores → length s.holder ≡ max_sources → Exact (sound_routines s) (Stands s)
  stands_exact active_length holder_length =
      Iff.trans (routines_test_exact s) (stands, λ p. sound p active_length holder_length)
