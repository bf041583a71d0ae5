-- The cycles of a call: an entry takes none (`EntryTakesNoCycle`), and no call takes more than 2m (`CallCyclesBounded`). Assumes nothing.
--   still_cycles       a command on a source whose request is above no core, or isn't a candidate, takes no cycle
--   completed_cycles   complete takes none
--   entered_waits      the request that an entry interrupts waits
use Prim.Native.Nat.{ℕ, zero, suc, ◌*◌, ◌<◌, ◌≤◌}
use mathlib.Core.Path.{◌≡◌, refl, ◌∙◌, ap}
use mathlib.Core.Bool.{Bool, true, false, ◌&&◌}
use lib.ListN.{length}
use lib.Seq.{get_or-set_same}
use native.Mathlib.Omega.{arith}
use borrow.Author.Tests.{ne_eqb, le-ltb}
use Rattle.model.specs.declared.SourceId.{SourceId}
use Rattle.model.specs.declared.CoreId.{CoreId}
use Rattle.model.specs.declared.Source.{Source}
use Rattle.model.specs.declared.Controller.{Controller}
use Rattle.model.specs.declared.Answer.{Answer}
use Rattle.model.specs.declared.Command.TheVariants.{OnSource, OnCore}
use Rattle.model.specs.declared.SourceAction.{SourceAction}
use Rattle.model.specs.declared.SourceAction.TheVariants.{Redeliver, Complete}
use Rattle.model.specs.declared.CoreAction.TheVariants.{SetCorePriority}
use Rattle.model.specs.Records.{no_source, source_id, index_of, source_at, core_at, with_source, with_cores}
use Rattle.model.specs.Requests.{current_priority, waiting, candidate}
use Rattle.model.specs.Arbitration.{least}
use Rattle.model.specs.Settling.{interrupted_by}
use Rattle.model.specs.Commands.{source_after, effect, refusal, execute}
use Rattle.lists.proofs.Bools.{and_in}
use Rattle.model.proofs.Claims.{claimed_out}
use Rattle.arbitration.proofs.LeastCore.{least_below}
use Rattle.effects.proofs.Checked.{accepted, named_index}
use Rattle.effects.proofs.Kept.{cycles_bounded}
use Rattle.effects.proofs.OneDelivery.{one_delivery}
use Rattle.effects.proofs.CoreEffects.{claimed_cores, current_same}
use Rattle.effects.proofs.AtRest.{claim_answer}
use Rattle.routines.specs.declared.Routines.{Routines}
use Rattle.routines.specs.declared.RoutineCall.{RoutineCall}
use Rattle.routines.specs.declared.RoutineCall.TheVariants.{Direct, Enter, Exit}
use Rattle.routines.specs.Routines.{active_at, SoundRoutines, command_of, call_refusal, claim_on, hand_back, entered, complete_on, exited}
use Rattle.routines.specs.Routines.{commanded, accepted_call}
use Rattle.routines.specs.Statements.{EntryTakesNoCycle, CallCyclesBounded}
use Rattle.routine_laws.proofs.Answered.{by_call}
use Rattle.routine_laws.proofs.Standing.{sound_accepted, enter_checked, exit_checked}
use Rattle.routine_laws.proofs.EntryKept.{redelivers, interrupted_priority}
use Rattle.routine_laws.proofs.ExitKept.{completed, completed_m}

none_and : (b : Bool) → b && false ≡ false
none_and true = refl
none_and false = refl

module _ (s : Controller) (id : SourceId) (a : SourceAction) (e : refusal s (OnSource id a) ≡ 0) where
  abbrev after : Source
  after = source_after a (source_at s (index_of id))

  abbrev low : ℕ
  low = least s.cores s.m

  written : source_at (with_source s (index_of id) after) (index_of id) ≡ after
  written =
      let (w, (h, g)) = accepted s (OnSource id a) e in
      let fits : index_of id < length s.sources = omega (arith, named_index s id h, w.consistent.sources_length, w.consistent.n_le) in
      get_or-set_same s.sources (index_of id) after no_source fits

  still_cycles : interrupted_by (core_at s low) after ≡ false → (execute s (OnSource id a)).cycles ≡ 0
  unfolding effect
  still_cycles off =
      ap (λ (x : Answer). x.cycles) (one_delivery s id a e) ∙ rw (written, off)

  still_state : interrupted_by (core_at s low) after ≡ false → (execute s (OnSource id a)).state ≡ with_source s (index_of id) after
  unfolding effect
  still_state off =
      ap (λ (x : Answer). x.state) (one_delivery s id a e) ∙ rw (written, off)

  idle_cycles : candidate after ≡ false → (execute s (OnSource id a)).cycles ≡ 0
  idle_cycles off = still_cycles (rw off)

  -- at most every core's current priority
  abbrev AtMost : Type 0
  AtMost = (k : ℕ) → k < s.m → after.priority ≤ current_priority (core_at s k)

  low_still : AtMost → interrupted_by (core_at s low) after ≡ false
  low_still below =
      let (w, c) = accepted s (OnSource id a) e in
      rw (le-ltb (current_priority (core_at s low)) after.priority
      (below low (least_below s.cores s.m w.consistent.some_core))) (none_and (candidate after))

  low_cycles : AtMost → (execute s (OnSource id a)).cycles ≡ 0
  low_cycles below = still_cycles (low_still below)

  low_source : AtMost → source_at (execute s (OnSource id a)).state (index_of id) ≡ after
  low_source below = rw (still_state (low_still below)) written

completed_cycles : (s : Controller) (id : SourceId) → refusal s (OnSource id Complete) ≡ 0 → (execute s (OnSource id Complete)).cycles ≡ 0
completed_cycles s id e = idle_cycles s id Complete e refl

-- ---- entry

module _ (s : Routines) (sound : SoundRoutines s) (k : CoreId) (k_lt : k.0 < s.controller.m)
    (filled : (core_at s.controller k.0).message.filled ≡ true) where
  abbrev c : Controller
  c = s.controller

  claimed_state : (claim_on s k).state ≡ with_cores c (claimed_cores c k.0)
  claimed_state = ap (λ (a : Answer). a.state) (claim_answer c sound.controller k k_lt filled)

  same_current : (j : ℕ) → current_priority (core_at (claim_on s k).state j) ≡ current_priority (core_at c j)
  same_current j = rw claimed_state (current_same c sound.controller.consistent k.0 k_lt filled j)

  same_m : (claim_on s k).state.m ≡ c.m
  same_m = ap (λ (x : Controller). x.m) claimed_state

  -- the interrupted request has the priority that its box covers
  covered :
      (i : ℕ) → suc i ≡ active_at s k.0 → (j : ℕ) → j < (claim_on s k).state.m →
      (source_at (claim_on s k).state i).priority ≤ current_priority (core_at (claim_on s k).state j)
  covered i is j l =
      omega (
        arith,
        same_current j,
        interrupted_priority s sound k k_lt filled i is,
        sound.controller.quiet.covered_below k.0 j k_lt (omega (arith, same_m)) filled,
      )

  handed_cycles : (id : ℕ) → id ≡ active_at s k.0 → (hand_back (claim_on s k).state id).cycles ≡ 0
  handed_cycles zero is = refl
  handed_cycles (suc i) is =
      rw (ne_eqb (suc i) 0 (λ z. absurd (omega arith)))
      (low_cycles (claim_on s k).state (source_id (suc i)) Redeliver (redelivers s sound k k_lt filled i is) (covered i is))

  handed_waits :
      (id : ℕ) → id ≡ active_at s k.0 → (i : ℕ) → id ≡ suc i →
      waiting (source_at (hand_back (claim_on s k).state id).state i) ≡ true
  handed_waits zero is i q = absurd (omega arith)
  handed_waits (suc j) is i q =
      let same : i ≡ j = omega arith in
      let e : refusal (claim_on s k).state (OnSource (source_id (suc j)) Redeliver) ≡ 0 = redelivers s sound k k_lt filled j is in
      let (w, (h, taken)) = accepted (claim_on s k).state (OnSource (source_id (suc j)) Redeliver) e in
      rw
      (same, ne_eqb (suc j) 0 (λ z. absurd (omega arith)), low_source (claim_on s k).state (source_id (suc j)) Redeliver e (covered j is))
      (and_in (claimed_out (claim_on s k).state j taken).0 refl)

  pub entered_waits :
      (i : ℕ) → active_at s k.0 ≡ suc i → waiting (source_at (entered s k).state.controller i) ≡ true
  unfolding entered
  entered_waits i q = handed_waits (active_at s k.0) refl i q

  entered_cycles : (entered s k).cycles ≡ 0
  unfolding entered
  entered_cycles =
      omega (
        arith,
        ap (λ (a : Answer). a.cycles) (claim_answer c sound.controller k k_lt filled),
        handed_cycles (active_at s k.0) refl,
      )

pub entry_takes_no_cycle : EntryTakesNoCycle
entry_takes_no_cycle s k =
    by_call s (Enter k) (λ a. a.cycles ≡ 0)
    (λ e.
    let (sound, checks) = sound_accepted s (Enter k) e in
    let (k_lt, filled) = enter_checked s k checks in
    entered_cycles s sound k k_lt filled)
    (λ h. refl)

-- ---- any call

accepted_cycles : (s : Routines) (c : RoutineCall) → call_refusal s c ≡ 0 → (accepted_call s c).cycles ≤ 2 * s.controller.m
unfolding commanded exited
accepted_cycles s (Direct id a) e = cycles_bounded s.controller (command_of id a)
accepted_cycles s (Enter k) e =
    let (sound, checks) = sound_accepted s (Enter k) e in
    let (k_lt, filled) = enter_checked s k checks in
    omega (arith, entered_cycles s sound k k_lt filled)
accepted_cycles s (Exit k) e =
    let (sound, checks) = sound_accepted s (Exit k) e in
    let (k_lt, busy) = exit_checked s k checks in
    omega (
      arith,
      completed_cycles s.controller (source_id (active_at s k.0)) (completed s sound k k_lt busy),
      completed_m s sound k k_lt busy,
      cycles_bounded (complete_on s k).state (OnCore k (SetCorePriority 0)),
    )

pub call_cycles_bounded : CallCyclesBounded
call_cycles_bounded s c =
    by_call s c (λ a. a.cycles ≤ 2 * s.controller.m) (accepted_cycles s c) (λ h. omega arith)
