-- A fresh simulation is sound (`FreshSound`), and both clauses hold after every run from it (`EveryRunStrict`). Assumes nothing.
--   sound_strict     both clauses of a sound simulation with no box filled: the current priorities are the configured ones
use Prim.Native.Nat.{ℕ, ◌<◌, ◌≤◌}
use mathlib.Core.Path.{◌≡◌, ap}
use mathlib.Core.Bool.{true, false}
use lib.ListN.{length-replicate}
use native.Mathlib.Omega.{arith}
use Rattle.lists.proofs.Bools.{and_l, clash, refuted}
use Rattle.lists.proofs.Filling.{get_or-zeros}
use Rattle.model.specs.declared.Answer.{Answer}
use Rattle.model.specs.declared.Source.{Source}
use Rattle.model.specs.declared.Core.{Core}
use Rattle.model.specs.Records.{max_sources, max_cores, source_at, core_at, reset}
use Rattle.model.specs.Requests.{current_priority, candidate, claimed}
use Rattle.model.specs.Statements.{InRange}
use Rattle.model.proofs.Claims.{claimed_out}
use Rattle.well_formed.proofs.Reset.{core_reset, source_reset, reset-well_formed, makes_exactly}
use Rattle.routines.specs.declared.Routines.{Routines}
use Rattle.routines.specs.Routines.{active_at, active_index, idle_beside, fresh_routines, SoundRoutines}
use Rattle.routines.specs.Statements.{FreshSound, StrictlyRun, NoneFilled, EveryRunStrict}
use Rattle.routine_laws.proofs.Standing.{running, idle_at_zero}
use Rattle.routine_laws.proofs.Kept.{run_sound}

reset_sound : (n m : ℕ) → InRange n m → SoundRoutines (idle_beside (reset n m))
reset_sound n m range =
    let unclaimed : (i : ℕ) → i < n → claimed (reset n m) i ≡ false = λ i h.
    refuted (claimed (reset n m) i)
    (λ e. clash (claimed_out (reset n m) i e).0 (ap (λ (r : Source). r.pending) (source_reset n m i (omega (arith, range.n_le))))) in
    record {
      controller = reset-well_formed n m range;
      active_length = length-replicate {A = ℕ} max_cores 0;
      holder_length = length-replicate {A = ℕ} max_sources 0;
      runs_once = λ i h e. clash e (unclaimed i h);
      runs_at_its_priority = λ i k r. clash r.is_claimed (unclaimed i r.source_in);
      runs_where_held = λ i k r. clash r.is_claimed (unclaimed i r.source_in);
      rest_idle = λ k h apart.
          record { none_active = get_or-zeros max_cores k; at_zero = ap (λ (c : Core). c.configured) (core_reset n m k) };
      holders_in_range = λ i h. rw (get_or-zeros max_sources i) (omega arith);
    }

pub fresh_is : (n m : ℕ) → InRange n m → fresh_routines n m ≡ idle_beside (reset n m)
fresh_is n m range = ap (λ (a : Answer). idle_beside a.state) ((makes_exactly n m).0 range)

pub fresh_sound : FreshSound
fresh_sound n m range = rw (fresh_is n m range) (reset_sound n m range)

-- ---- both clauses

module _ (s : Routines) (sound : SoundRoutines s) (empty : NoneFilled s) where
  current : (k : ℕ) → k < s.controller.m → current_priority (core_at s.controller k) ≡ (core_at s.controller k).configured
  current k h = rw (empty k h)

  below : (i k : ℕ) → i < s.controller.n → k < s.controller.m → candidate (source_at s.controller i) ≡ true →
      (source_at s.controller i).priority ≤ (core_at s.controller k).configured
  below i k h l e = omega (arith, current k l, sound.controller.quiet.candidates_below i k h l e)

  waits_not : (i k : ℕ) → i < s.controller.n → k < s.controller.m → active_at s k ≡ 0 →
      candidate (source_at s.controller i) ≡ true → ⊥
  waits_not i k h l idle e =
      let pending : (source_at s.controller i).pending ≡ true = and_l _ _ (and_l _ _ e) in
      omega (
        arith,
        below i k h l e,
        idle_at_zero s sound k l idle,
        (sound.controller.consistent.request_range i h pending).0,
      )

  pub sound_strict : StrictlyRun s
  sound_strict =
      record {
        none_above = λ i j k h e r. omega (arith, below i k h r.core_in e, sound.runs_at_its_priority j k r);
        none_waits = λ i k h l idle. refuted (candidate (source_at s.controller i)) (waits_not i k h l idle);
        runs_or_idles = λ k l busy. (active_index s k, running s sound k l busy);
      }

pub every_run_strict : EveryRunStrict
every_run_strict n m cs range empty = sound_strict _ (run_sound (fresh_routines n m) cs (fresh_sound n m range)) empty
