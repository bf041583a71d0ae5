-- Each number for no is given exactly when its line says, no earlier check refusing (`CallRefusalsExact`). Assumes nothing.
-- Each call's lines are those of its checks in a row: 1, then that of its id or core number, then its own.
use Prim.Native.Nat.{ℕ, ◌<◌, ◌≤◌}
use mathlib.Core.Path.{◌≡◌}
use mathlib.Core.Bool.{Bool, true, false}
use native.Mathlib.Omega.{arith}
use Rattle.lists.proofs.Bools.{clash, refuted, confirmed}
use Rattle.lists.proofs.Exact.{flag_exact, not_exact, ltb_exact, between_exact}
use Rattle.model.specs.declared.SourceId.{SourceId}
use Rattle.model.specs.declared.CoreId.{CoreId}
use Rattle.model.specs.Records.{index_of, source_at, core_at}
use Rattle.model.specs.Priorities.{top_priority}
use Rattle.model.specs.Commands.{unless, names_source, names_core, refusal_of}
use Rattle.routines.specs.declared.Routines.{Routines}
use Rattle.routines.specs.declared.DirectAction.TheVariants.{SetPriority, Mask, Unmask, Trigger}
use Rattle.routines.specs.declared.RoutineCall.{RoutineCall}
use Rattle.routines.specs.declared.RoutineCall.TheVariants.{Direct, Enter, Exit}
use Rattle.routines.specs.Routines.{active_at, sound_routines, SoundRoutines, call_refusal_of, call_refusal}
use Rattle.routines.specs.Statements.{CallRow, not_sound, no_such_source, source_priority, is_pending, in_use, no_core_entered, unfilled_box}
use Rattle.routines.specs.Statements.{no_core_left, idle_core, CallRefusals, CallRefusalsExact}
use Rattle.routine_laws.proofs.Checks.{Next, fails, later, NoLine, Chain, done, check, by_chain}
use Rattle.routine_laws.proofs.Test.{routines_test_exact}
use Rattle.routine_laws.proofs.Answered.{number_answered}

-- ---- the calls

module _ (s : Routines) where
  abbrev Sound : Type 0
  Sound = SoundRoutines s

  abbrev top : ℕ
  top = top_priority s.controller.n

  past : {k m : ℕ} → ¬ (k < m) → m ≤ k
  past h = omega arith

  -- the state's check in front of a call's own
  sound_first : {number : ℕ} {R : ℕ → Type 0} → Chain 1 number R → Chain 0 (unless (sound_routines s) 1 number) (Next Sound 1 R)
  sound_first row = check 1 (omega arith) (omega arith) (routines_test_exact s) row

  module _ (id : SourceId) where
    abbrev Named : Type 0
    Named = (1 ≤ id.0) × (id.0 ≤ s.controller.n)

    id_first :
        {number : ℕ} {R : ℕ → Type 0} → Chain 2 number R → Chain 1 (unless (names_source s.controller id) 4 number) (Next Named 4 R)
    id_first row = check 4 (omega arith) (omega arith) (between_exact 1 s.controller.n id.0) row

    abbrev pending : Bool
    pending = (source_at s.controller (index_of id)).pending

    -- the lines of set source priority after those of state and id
    abbrev Setting : ℕ → ℕ → Type 0
    Setting p = Next ((1 ≤ p) × (p ≤ top)) 5 (Next (pending ≡ false) 9 NoLine)

    setting_exact : (p : ℕ) → CallRefusals (call_refusal s (Direct id (SetPriority p))) s (Direct id (SetPriority p))
    unfolding call_refusal call_refusal_of refusal_of
    setting_exact p =
        by_chain there back
        (sound_first (id_first
        (check 5 (omega arith) (omega arith) (between_exact 1 top p) (check 9 (omega arith) (omega arith) (not_exact pending) (done 4)))))
      where
        there : (j : ℕ) → CallRow s (Direct id (SetPriority p)) j → Next Sound 1 (Next Named 4 (Setting p)) j
        there _ (not_sound h) = fails h
        there _ (no_such_source h) = later (fails h)
        there _ (source_priority h) = later (later (fails h))
        there _ (in_use e) = later (later (later (fails (clash e))))

        back : (j : ℕ) → Next Sound 1 (Next Named 4 (Setting p)) j → CallRow s (Direct id (SetPriority p)) j
        back _ (fails h) = not_sound h
        back _ (later (fails h)) = no_such_source h
        back _ (later (later (fails h))) = source_priority h
        back _ (later (later (later (fails h)))) = in_use (confirmed pending h)
        back _ (later (later (later (later e)))) = absurd e

    mask_exact : CallRefusals (call_refusal s (Direct id Mask)) s (Direct id Mask)
    unfolding call_refusal call_refusal_of refusal_of
    mask_exact = by_chain there back (sound_first (id_first (done 2)))
      where
        there : (j : ℕ) → CallRow s (Direct id Mask) j → Next Sound 1 (Next Named 4 NoLine) j
        there _ (not_sound h) = fails h
        there _ (no_such_source h) = later (fails h)

        back : (j : ℕ) → Next Sound 1 (Next Named 4 NoLine) j → CallRow s (Direct id Mask) j
        back _ (fails h) = not_sound h
        back _ (later (fails h)) = no_such_source h
        back _ (later (later e)) = absurd e

    unmask_exact : CallRefusals (call_refusal s (Direct id Unmask)) s (Direct id Unmask)
    unfolding call_refusal call_refusal_of refusal_of
    unmask_exact = by_chain there back (sound_first (id_first (done 2)))
      where
        there : (j : ℕ) → CallRow s (Direct id Unmask) j → Next Sound 1 (Next Named 4 NoLine) j
        there _ (not_sound h) = fails h
        there _ (no_such_source h) = later (fails h)

        back : (j : ℕ) → Next Sound 1 (Next Named 4 NoLine) j → CallRow s (Direct id Unmask) j
        back _ (fails h) = not_sound h
        back _ (later (fails h)) = no_such_source h
        back _ (later (later e)) = absurd e

    trigger_exact : CallRefusals (call_refusal s (Direct id Trigger)) s (Direct id Trigger)
    unfolding call_refusal call_refusal_of refusal_of
    trigger_exact =
        by_chain there back (sound_first (id_first (check 6 (omega arith) (omega arith) (not_exact pending) (done 4))))
      where
        there : (j : ℕ) → CallRow s (Direct id Trigger) j → Next Sound 1 (Next Named 4 (Next (pending ≡ false) 6 NoLine)) j
        there _ (not_sound h) = fails h
        there _ (no_such_source h) = later (fails h)
        there _ (is_pending e) = later (later (fails (clash e)))

        back : (j : ℕ) → Next Sound 1 (Next Named 4 (Next (pending ≡ false) 6 NoLine)) j → CallRow s (Direct id Trigger) j
        back _ (fails h) = not_sound h
        back _ (later (fails h)) = no_such_source h
        back _ (later (later (fails h))) = is_pending (confirmed pending h)
        back _ (later (later (later e))) = absurd e

  module _ (k : CoreId) where
    abbrev Inside : Type 0
    Inside = k.0 < s.controller.m

    core_first :
        {number : ℕ} {R : ℕ → Type 0} → Chain 2 number R → Chain 1 (unless (names_core s.controller k) 3 number) (Next Inside 3 R)
    core_first row = check 3 (omega arith) (omega arith) (ltb_exact k.0 s.controller.m) row

    abbrev filled : Bool
    filled = (core_at s.controller k.0).message.filled

    enter_exact : CallRefusals (call_refusal s (Enter k)) s (Enter k)
    unfolding call_refusal call_refusal_of
    enter_exact =
        by_chain there back (sound_first (core_first (check 7 (omega arith) (omega arith) (flag_exact filled) (done 4))))
      where
        there : (j : ℕ) → CallRow s (Enter k) j → Next Sound 1 (Next Inside 3 (Next (filled ≡ true) 7 NoLine)) j
        there _ (not_sound h) = fails h
        there _ (no_core_entered h) = later (fails (λ l. omega arith))
        there _ (unfilled_box e) = later (later (fails (λ p. clash p e)))

        back : (j : ℕ) → Next Sound 1 (Next Inside 3 (Next (filled ≡ true) 7 NoLine)) j → CallRow s (Enter k) j
        back _ (fails h) = not_sound h
        back _ (later (fails h)) = no_core_entered (past h)
        back _ (later (later (fails h))) = unfilled_box (refuted filled h)
        back _ (later (later (later e))) = absurd e

    abbrev Busy : Type 0
    Busy = 0 < active_at s k.0

    exit_exact : CallRefusals (call_refusal s (Exit k)) s (Exit k)
    unfolding call_refusal call_refusal_of
    exit_exact =
        by_chain there back
        (sound_first (core_first (check 8 (omega arith) (omega arith) (ltb_exact 0 (active_at s k.0)) (done 4))))
      where
        there : (j : ℕ) → CallRow s (Exit k) j → Next Sound 1 (Next Inside 3 (Next Busy 8 NoLine)) j
        there _ (not_sound h) = fails h
        there _ (no_core_left h) = later (fails (λ l. omega arith))
        there _ (idle_core e) = later (later (fails (λ l. omega arith)))

        idle : ¬ (0 < active_at s k.0) → active_at s k.0 ≡ 0
        idle h = omega arith

        back : (j : ℕ) → Next Sound 1 (Next Inside 3 (Next Busy 8 NoLine)) j → CallRow s (Exit k) j
        back _ (fails h) = not_sound h
        back _ (later (fails h)) = no_core_left (past h)
        back _ (later (later (fails h))) = idle_core (idle h)
        back _ (later (later (later e))) = absurd e

  exact : (c : RoutineCall) → CallRefusals (call_refusal s c) s c
  exact (Direct id (SetPriority p)) = setting_exact id p
  exact (Direct id Mask) = mask_exact id
  exact (Direct id Unmask) = unmask_exact id
  exact (Direct id Trigger) = trigger_exact id
  exact (Enter k) = enter_exact k
  exact (Exit k) = exit_exact k

pub call_refusals_exact : CallRefusalsExact
call_refusals_exact s c = rw (number_answered s c) (exact s c)
