-- The computed test of the simulation's state means its proposition (`RoutinesTestExact`), clause by clause. Assumes nothing.
--   once_exact      a test holds of exactly one number below a bound if it counts 1
--   runs_exact      the test of a running core: some claimed request is active on it
--   routines_test_exact   the whole
use Prim.Native.Nat.{ℕ, suc, pred, ◌+◌, ◌-◌, ◌<◌, ◌≤◌}
use mathlib.Core.Path.{◌≡◌, ap}
use mathlib.Core.Logic.Iff
use mathlib.Core.Bool.{Bool, true, not, ◌||◌}
use lib.ListN.{length}
use lib.Dec.{eqb}
use native.Mathlib.Nat.{zero-add}
use native.Mathlib.Omega.{arith}
use native.Mathlib.Decide.{dec_lt}
use borrow.Author.Tests.{eqb-true, eq-eqb}
use Rattle.lists.specs.Walks.{tally, every}
use Rattle.lists.proofs.Bools.{clash, refuted}
use Rattle.lists.proofs.Walks.{Witness, some_out, some_false_in}
use Rattle.lists.proofs.Tallies.{tally_on, tally_rising, within_level, rise_within}
use Rattle.lists.proofs.Exact.{Exact, ◌and◌, flag_exact, leb_exact, ltb_exact, eqb_exact, between_exact, unless_exact, implies_exact}
use Rattle.lists.proofs.Exact.{every_exact}
use Rattle.model.specs.declared.Controller.{Controller}
use Rattle.model.specs.Records.{max_sources, max_cores, source_at, core_at}
use Rattle.model.specs.Requests.{claimed}
use Rattle.well_formed.proofs.Test.{test_exact}
use Rattle.routines.specs.declared.Routines.{Routines}
use Rattle.routines.specs.Routines.{active_at, holder_at, routine_lists, active_on, active_once, active_index, runs, at_its_priority, last_held_there}
use Rattle.routines.specs.Routines.{others_idle, holders_inside, sound_routines, Runs, RunsOnce, IdleAt}
use Rattle.routines.specs.Statements.{RoutinesTestExact}

-- ---- exactly one

pub record OnlyOne (m : ℕ) (f : ℕ → Bool) (k : ℕ) : Type 0 where
  pub below : k < m
  pub holds : f k ≡ true
  pub only : (j : ℕ) → j < m → f j ≡ true → j ≡ k

module _ (m : ℕ) (f : ℕ → Bool) where
  -- two numbers of which it holds count 2
  two : (i j : ℕ) → i < j → j < m → f i ≡ true → f j ≡ true → 2 ≤ tally m f
  two i j h l p q =
      omega (arith, tally_on f i p, tally_rising f (suc i) j h, tally_on f j q, tally_rising f (suc j) m l)

  one_out : tally m f ≡ 1 → (k : ℕ) × OnlyOne m f k
  unfolding tally
  one_out e =
      let differ : tally 0 f ≡ tally (0 + m) f → ⊥ = rw zero-add (λ z. omega arith) in
      let w : Witness m (λ i. f (0 + i)) = some_out m (λ i. f (0 + i)) (rise_within f 0 m differ) in
      let below : 0 + w.at < m = omega (arith, w.below) in
      (0 + w.at, record { below = below; holds = w.holds; only = λ j l p. same j l p (0 + w.at) below w.holds })
    where
      same : (j : ℕ) → j < m → f j ≡ true → (k : ℕ) → k < m → f k ≡ true → j ≡ k
      same j l p k h q = go (dec_lt j k) (dec_lt k j)
        where
          go : Dec (j < k) → Dec (k < j) → j ≡ k
          go (yes d) c = absurd (omega (arith, e, two j k d h p q))
          go (no d) (yes c) = absurd (omega (arith, e, two k j c l q p))
          go (no d) (no c) = omega arith

  none_between : (k lo len : ℕ) → OnlyOne m f k → lo + len ≤ m → ((i : ℕ) → i < len → lo + i ≡ k → ⊥) → tally (lo + len) f ≡ tally lo f
  none_between k lo len o l apart =
      within_level f lo len
      (some_false_in len (λ i. f (lo + i)) (λ i h. refuted (f (lo + i)) (λ p. apart i h (o.only (lo + i) (omega arith) p))))

  one_in : (k : ℕ) → OnlyOne m f k → tally m f ≡ 1
  unfolding tally
  one_in k o =
      let before : tally k f ≡ tally 0 f = rw zero-add at (none_between k 0 k o (omega (arith, o.below)) (λ i h e. omega arith)) in
      let whole : suc k + (m - suc k) ≡ m = omega (arith, o.below) in
      let after : tally m f ≡ tally (suc k) f =
      rw whole at (none_between k (suc k) (m - suc k) o (omega (arith, whole)) (λ i h e. omega arith)) in
      omega (arith, tally_on f k o.holds)

  one_exact : Exact (eqb (tally m f) 1) ((k : ℕ) × OnlyOne m f k)
  one_exact = Iff.trans (eqb_exact (tally m f) 1) (one_out, λ (k, o). one_in k o)

-- ---- the clauses

module _ (s : Routines) where
  abbrev c : Controller
  c = s.controller

  -- core k runs the request that is active on it
  pub runs_out : (k : ℕ) → runs s k ≡ true → Runs s (active_index s k) k
  runs_out k e =
      let x = ltb_exact k c.m and between_exact 1 c.n (active_at s k) and flag_exact (claimed c (active_index s k)) in
      let ((core_in, (low, high)), is_claimed) = x.0 e in
      let at : active_at s k ≡ suc (pred (active_at s k)) = omega arith in
      let source_in : pred (active_at s k) < s.controller.n = omega arith in
      record { core_in = core_in; source_in = source_in; is_claimed = is_claimed; active = at }

  index_of : (i k : ℕ) → active_at s k ≡ suc i → active_index s k ≡ i
  index_of i k e = ap pred e

  pub runs_in : (i k : ℕ) → Runs s i k → runs s k ≡ true
  runs_in i k r =
      let x = ltb_exact k c.m and between_exact 1 c.n (active_at s k) and flag_exact (claimed c (active_index s k)) in
      x.1 ((r.core_in, (omega (arith, r.active), omega (arith, r.active, r.source_in))), rw (index_of i k r.active) r.is_claimed)

  -- a test of the core that runs a request
  of_running : (P : ℕ → ℕ → Type 0) {f : ℕ → Bool} → ((k : ℕ) → Exact (f k) (P (active_index s k) k)) →
      Exact (every c.m (λ k. not (runs s k) || f k)) ((i k : ℕ) → Runs s i k → P i k)
  of_running P {f} x =
      Iff.trans (every_exact c.m (λ k. implies_exact (runs s k) (x k))) (
        λ h i k r. rw (index_of i k r.active) at (h k r.core_in (runs_in i k r)),
        λ h k l e. h (active_index s k) k (runs_out k e),
      )

  lists_exact : Exact (routine_lists s) ((length s.active ≡ max_cores) × (length s.holder ≡ max_sources))
  unfolding routine_lists
  lists_exact = eqb_exact (length s.active) max_cores and eqb_exact (length s.holder) max_sources

  once_exact : Exact (active_once s) ((i : ℕ) → i < c.n → claimed c i ≡ true → (k : ℕ) × RunsOnce s i k)
  unfolding active_once
  once_exact =
      Iff.trans (every_exact c.n (λ i. implies_exact (claimed c i) (one_exact c.m (active_on s i))))
      (λ h i l e. there i l e (h i l e), λ h i l e. back i (h i l e))
    where
      there : (i : ℕ) → i < c.n → claimed c i ≡ true → (k : ℕ) × OnlyOne c.m (active_on s i) k → (k : ℕ) × RunsOnce s i k
      there i l e (k, o) = (
        k,
        record {
          here = record { core_in = o.below; source_in = l; is_claimed = e; active = eqb-true (active_at s k) (suc i) o.holds };
          only = λ j h q. o.only j h (eq-eqb (active_at s j) (suc i) q);
        },
      )

      back : (i : ℕ) → (k : ℕ) × RunsOnce s i k → (k : ℕ) × OnlyOne c.m (active_on s i) k
      back i (k, o) = (
        k,
        record {
          below = o.here.core_in;
          holds = eq-eqb (active_at s k) (suc i) o.here.active;
          only = λ j h q. o.only j h (eqb-true (active_at s j) (suc i) q);
        },
      )

  priority_exact : Exact (at_its_priority s) ((i k : ℕ) → Runs s i k → (core_at c k).configured ≡ (source_at c i).priority)
  unfolding at_its_priority
  priority_exact =
      of_running (λ i k. (core_at c k).configured ≡ (source_at c i).priority)
      (λ k. eqb_exact (core_at c k).configured (source_at c (active_index s k)).priority)

  holder_exact : Exact (last_held_there s) ((i k : ℕ) → Runs s i k → holder_at s i ≡ suc k)
  unfolding last_held_there
  holder_exact = of_running (λ i k. holder_at s i ≡ suc k) (λ k. eqb_exact (holder_at s (active_index s k)) (suc k))

  idle_exact : Exact (others_idle s) ((k : ℕ) → k < max_cores → ((i : ℕ) → ¬ Runs s i k) → IdleAt s k)
  unfolding others_idle
  idle_exact =
      Iff.trans
      (every_exact max_cores (λ k. unless_exact (runs s k) (eqb_exact (active_at s k) 0 and eqb_exact (core_at c k).configured 0))) (
        λ h k l apart.
            let (p, q) = h k l (refuted (runs s k) (λ e. apart (active_index s k) (runs_out k e))) in
            record { none_active = p; at_zero = q },
        λ h k l e. let d = h k l (λ i r. clash (runs_in i k r) e) in (d.none_active, d.at_zero),
      )

  inside_exact : Exact (holders_inside s) ((i : ℕ) → i < max_sources → holder_at s i ≤ c.m)
  unfolding holders_inside
  inside_exact = every_exact max_sources (λ i. leb_exact (holder_at s i) c.m)

pub routines_test_exact : RoutinesTestExact
unfolding sound_routines
routines_test_exact s =
    Iff.trans
    (test_exact s.controller and
    lists_exact s and once_exact s and priority_exact s and holder_exact s and idle_exact s and inside_exact s) (
      λ ((((((w, lists), once), priority), held), idle), inside).
          record {
            controller = w;
            active_length = lists.0;
            holder_length = lists.1;
            runs_once = once;
            runs_at_its_priority = priority;
            runs_where_held = held;
            rest_idle = idle;
            holders_in_range = inside;
          },
      λ r. (
        (
          ((((r.controller, (r.active_length, r.holder_length)), r.runs_once), r.runs_at_its_priority), r.runs_where_held),
          r.rest_idle,
        ),
        r.holders_in_range,
      ),
    )
