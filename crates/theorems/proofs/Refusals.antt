-- Each number for no is given exactly when its line of the table says, no earlier check refusing (`RefusalsExact`), and a refused command
-- changes nothing (`RefusedUnchanged`). The number answered is the refusal's (`RefusalAnswered`), and the lines fit no other
-- (`number_unique`). Assumes nothing.
--   First s c k     the line of number k is met, and none of an earlier turn
--   only_number     a command's line is fixed by its turn, so that there is one such number
--   Met s c k       what the number k of the checks says: 0, and no line is met; or the first line that is
--   after_sound, after_name    no line of a check that has passed
use Prim.Native.Nat.{ℕ, zero, suc, ◌<◌, ◌≤◌}
use mathlib.Core.Path.{◌≡◌, refl, sym, ◌∙◌, ap}
use mathlib.Core.Logic.{◌≢◌}
use mathlib.Core.Bool.{Bool, true, false, not}
use native.Mathlib.Omega.{arith}
use lib.Dec.{leb}
use borrow.Author.Tests.{ltb-true, ltb-false, leb-true, leb-false}
use Rattle.model.specs.declared.SourceId.{SourceId}
use Rattle.model.specs.declared.CoreId.{CoreId}
use Rattle.model.specs.declared.Controller.{Controller}
use Rattle.model.specs.declared.Command.{Command}
use Rattle.model.specs.declared.Command.TheVariants.{OnSource, OnCore}
use Rattle.model.specs.declared.SourceAction.{SourceAction}
use Rattle.model.specs.declared.SourceAction.TheVariants.{SetSourcePriority, Mask, Unmask, Trigger, Redeliver, Complete}
use Rattle.model.specs.declared.CoreAction.{CoreAction}
use Rattle.model.specs.declared.CoreAction.TheVariants.{SetCorePriority, Claim}
use Rattle.model.specs.Records.{index_of, source_at, core_at, answer}
use Rattle.model.specs.Priorities.{top_priority}
use Rattle.model.specs.Requests.{claimed}
use Rattle.lists.specs.Numbers.{between}
use Rattle.lists.proofs.Exact.{between_exact}
use Rattle.lists.proofs.Bools.{Flag, on, off, flag, clash}
use Rattle.model.specs.WellFormed.{well_formed, WellFormed}
use Rattle.model.specs.Commands.{already_pending, drop_counted}
use Rattle.model.specs.Commands.{unless, names_source, names_core, source_refusal, core_refusal, refusal_of, refusal, settled, refused, execute}
use Rattle.model.specs.Statements.{Row, not_sound, no_such_core, no_such_source, source_priority, core_priority, is_pending, unfilled_box}
use Rattle.model.specs.Statements.{not_redelivered, not_completed, in_use, turn, Refusals, RefusalsExact, RefusalAnswered, RefusedUnchanged}
use Rattle.model.specs.Statements.{DroppedCounted}
use Rattle.well_formed.proofs.Test.{test_exact}
use Rattle.effects.proofs.Accepted.{by_answer}
use Rattle.effects.proofs.Dropped.{kept}

abbrev First : Controller → Command → ℕ → Type 0
First s c k = Row s c k × ((j : ℕ) → Row s c j → turn k ≤ turn j)

-- ---- one number

-- the last check of an action
abbrev source_last : SourceAction → ℕ
source_last (SetSourcePriority p) = 9
source_last Mask = 0
source_last Unmask = 0
source_last Trigger = 6
source_last Redeliver = 8
source_last Complete = 8

-- the number of a command's check at a turn
abbrev number_at : Command → ℕ → ℕ
number_at c zero = 0
number_at c (suc zero) = 1
number_at (OnSource id a) (suc (suc zero)) = 4
number_at (OnCore k a) (suc (suc zero)) = 3
number_at c (suc (suc (suc zero))) = 5
number_at (OnSource id a) (suc (suc (suc (suc t)))) = source_last a
number_at (OnCore k a) (suc (suc (suc (suc t)))) = 7

row_number : {s : Controller} {c : Command} {k : ℕ} → Row s c k → k ≡ number_at c (turn k)
row_number (not_sound h) = refl
row_number (no_such_core h) = refl
row_number (no_such_source h) = refl
row_number (source_priority h) = refl
row_number (core_priority h) = refl
row_number (is_pending h) = refl
row_number (unfilled_box h) = refl
row_number (not_redelivered h) = refl
row_number (not_completed h) = refl
row_number (in_use h) = refl

pub row_small : {s : Controller} {c : Command} {k : ℕ} → Row s c k → (1 ≤ k) × (k ≤ 9)
row_small (not_sound h) = (omega arith, omega arith)
row_small (no_such_core h) = (omega arith, omega arith)
row_small (no_such_source h) = (omega arith, omega arith)
row_small (source_priority h) = (omega arith, omega arith)
row_small (core_priority h) = (omega arith, omega arith)
row_small (is_pending h) = (omega arith, omega arith)
row_small (unfilled_box h) = (omega arith, omega arith)
row_small (not_redelivered h) = (omega arith, omega arith)
row_small (not_completed h) = (omega arith, omega arith)
row_small (in_use h) = (omega arith, omega arith)

only_number : {s : Controller} {c : Command} (j k : ℕ) → First s c j → First s c k → j ≡ k
only_number {s} {c} j k (rj, fj) (rk, fk) =
    let same : turn j ≡ turn k = omega (arith, fj k rk, fk j rj) in
    row_number rj ∙ ap (number_at c) same ∙ sym (row_number rk)

-- ---- the lines of checks that have passed

-- a source's id is 1 to n, a core's number below m
abbrev NamesSubject : Controller → Command → Type 0
NamesSubject s (OnSource id a) = (1 ≤ id.0) × (id.0 ≤ s.n)
NamesSubject s (OnCore k a) = k.0 < s.m

after_sound : {s : Controller} {c : Command} → WellFormed s → (j : ℕ) → Row s c j → 2 ≤ turn j
after_sound w _ (not_sound h) = absurd (h w)
after_sound w _ (no_such_core h) = omega arith
after_sound w _ (no_such_source h) = omega arith
after_sound w _ (source_priority h) = omega arith
after_sound w _ (core_priority h) = omega arith
after_sound w _ (is_pending h) = omega arith
after_sound w _ (unfilled_box h) = omega arith
after_sound w _ (not_redelivered h) = omega arith
after_sound w _ (not_completed h) = omega arith
after_sound w _ (in_use h) = omega arith

after_name : {s : Controller} {c : Command} → WellFormed s → NamesSubject s c → (j : ℕ) → Row s c j → 3 ≤ turn j
after_name w n _ (not_sound h) = absurd (h w)
after_name w n _ (no_such_core h) = absurd (omega arith)
after_name w n _ (no_such_source h) = absurd (h n)
after_name w n _ (source_priority h) = omega arith
after_name w n _ (core_priority h) = omega arith
after_name w n _ (is_pending h) = omega arith
after_name w n _ (unfilled_box h) = omega arith
after_name w n _ (not_redelivered h) = omega arith
after_name w n _ (not_completed h) = omega arith
after_name w n _ (in_use h) = omega arith

-- ---- the checks, in their order

data Met (s : Controller) (c : Command) : ℕ → Type 0 where
  none : ((j : ℕ) → ¬ Row s c j) → Met s c 0
  first : (k : ℕ) → First s c k → Met s c k

-- of a source that has the id
module _ {s : Controller} (w : WellFormed s) {id : SourceId} (n : (1 ≤ id.0) × (id.0 ≤ s.n)) where
  abbrev pending : Bool
  pending = (source_at s (index_of id)).pending

  module _ {p : ℕ} (range : (1 ≤ p) × (p ≤ top_priority s.n)) where
    setting_none : pending ≡ false → (j : ℕ) → ¬ Row s (OnSource id (SetSourcePriority p)) j
    setting_none e _ (not_sound h) = h w
    setting_none e _ (no_such_source h) = h n
    setting_none e _ (source_priority h) = h range
    setting_none e _ (in_use h) = clash h e

    setting_turn : (j : ℕ) → Row s (OnSource id (SetSourcePriority p)) j → 4 ≤ turn j
    setting_turn _ (not_sound h) = absurd (h w)
    setting_turn _ (no_such_source h) = absurd (h n)
    setting_turn _ (source_priority h) = absurd (h range)
    setting_turn _ (in_use h) = omega arith

    use_met : Flag pending → Met s (OnSource id (SetSourcePriority p)) (unless (not pending) 9 0)
    use_met (on e) = rw e (first 9 (in_use e, setting_turn))
    use_met (off e) = rw e (none (setting_none e))

  mask_none : (j : ℕ) → ¬ Row s (OnSource id Mask) j
  mask_none _ (not_sound h) = h w
  mask_none _ (no_such_source h) = h n

  unmask_none : (j : ℕ) → ¬ Row s (OnSource id Unmask) j
  unmask_none _ (not_sound h) = h w
  unmask_none _ (no_such_source h) = h n

  trigger_turn : (j : ℕ) → Row s (OnSource id Trigger) j → 4 ≤ turn j
  trigger_turn _ (not_sound h) = absurd (h w)
  trigger_turn _ (no_such_source h) = absurd (h n)
  trigger_turn _ (is_pending h) = omega arith

  redeliver_turn : (j : ℕ) → Row s (OnSource id Redeliver) j → 4 ≤ turn j
  redeliver_turn _ (not_sound h) = absurd (h w)
  redeliver_turn _ (no_such_source h) = absurd (h n)
  redeliver_turn _ (not_redelivered h) = omega arith

  complete_turn : (j : ℕ) → Row s (OnSource id Complete) j → 4 ≤ turn j
  complete_turn _ (not_sound h) = absurd (h w)
  complete_turn _ (no_such_source h) = absurd (h n)
  complete_turn _ (not_completed h) = omega arith

  trigger_none : pending ≡ false → (j : ℕ) → ¬ Row s (OnSource id Trigger) j
  trigger_none e _ (not_sound h) = h w
  trigger_none e _ (no_such_source h) = h n
  trigger_none e _ (is_pending h) = clash h e

  redeliver_none : claimed s (index_of id) ≡ true → (j : ℕ) → ¬ Row s (OnSource id Redeliver) j
  redeliver_none e _ (not_sound h) = h w
  redeliver_none e _ (no_such_source h) = h n
  redeliver_none e _ (not_redelivered h) = clash e h

  complete_none : claimed s (index_of id) ≡ true → (j : ℕ) → ¬ Row s (OnSource id Complete) j
  complete_none e _ (not_sound h) = h w
  complete_none e _ (no_such_source h) = h n
  complete_none e _ (not_completed h) = clash e h

  setting_met :
      (p : ℕ) → Flag (between 1 (top_priority s.n) p) →
      Met s (OnSource id (SetSourcePriority p)) (unless (between 1 (top_priority s.n) p) 5 (unless (not pending) 9 0))
  setting_met p (on e) = rw e (use_met ((between_exact 1 (top_priority s.n) p).0 e) (flag _))
  setting_met p (off e) = rw e (first 5 (source_priority (λ h. clash ((between_exact 1 (top_priority s.n) p).1 h) e), after_name w n))

  trigger_met : Flag pending → Met s (OnSource id Trigger) (unless (not pending) 6 0)
  trigger_met (on e) = rw e (first 6 (is_pending e, trigger_turn))
  trigger_met (off e) = rw e (none (trigger_none e))

  redeliver_met : Flag (claimed s (index_of id)) → Met s (OnSource id Redeliver) (unless (claimed s (index_of id)) 8 0)
  redeliver_met (on e) = rw e (none (redeliver_none e))
  redeliver_met (off e) = rw e (first 8 (not_redelivered e, redeliver_turn))

  complete_met : Flag (claimed s (index_of id)) → Met s (OnSource id Complete) (unless (claimed s (index_of id)) 8 0)
  complete_met (on e) = rw e (none (complete_none e))
  complete_met (off e) = rw e (first 8 (not_completed e, complete_turn))

  source_met : (a : SourceAction) → Met s (OnSource id a) (source_refusal s (index_of id) a)
  source_met (SetSourcePriority p) = setting_met p (flag _)
  source_met Mask = none mask_none
  source_met Unmask = none unmask_none
  source_met Trigger = trigger_met (flag _)
  source_met Redeliver = redeliver_met (flag _)
  source_met Complete = complete_met (flag _)

-- of a core that has the number
module _ {s : Controller} (w : WellFormed s) {k : CoreId} (n : k.0 < s.m) where
  setting_core_none : {p : ℕ} → p ≤ top_priority s.n → (j : ℕ) → ¬ Row s (OnCore k (SetCorePriority p)) j
  setting_core_none r _ (not_sound h) = h w
  setting_core_none r _ (no_such_core h) = absurd (omega arith)
  setting_core_none r _ (core_priority h) = absurd (omega arith)

  claim_turn : (j : ℕ) → Row s (OnCore k Claim) j → 4 ≤ turn j
  claim_turn _ (not_sound h) = absurd (h w)
  claim_turn _ (no_such_core h) = absurd (omega arith)
  claim_turn _ (unfilled_box h) = omega arith

  claim_none : (core_at s k.0).message.filled ≡ true → (j : ℕ) → ¬ Row s (OnCore k Claim) j
  claim_none e _ (not_sound h) = h w
  claim_none e _ (no_such_core h) = absurd (omega arith)
  claim_none e _ (unfilled_box h) = clash e h

  setting_core_met :
      (p : ℕ) → Flag (leb p (top_priority s.n)) → Met s (OnCore k (SetCorePriority p)) (unless (leb p (top_priority s.n)) 5 0)
  setting_core_met p (on e) = rw e (none (setting_core_none (leb-true p (top_priority s.n) e)))
  setting_core_met p (off e) = rw e (first 5 (core_priority (leb-false p (top_priority s.n) e), after_name w n))

  claim_met : Flag (core_at s k.0).message.filled → Met s (OnCore k Claim) (unless (core_at s k.0).message.filled 7 0)
  claim_met (on e) = rw e (none (claim_none e))
  claim_met (off e) = rw e (first 7 (unfilled_box e, claim_turn))

  core_met : (a : CoreAction) → Met s (OnCore k a) (core_refusal s k.0 a)
  core_met (SetCorePriority p) = setting_core_met p (flag _)
  core_met Claim = claim_met (flag _)

named_met : {s : Controller} → WellFormed s → (c : Command) → Met s c (refusal_of s c)
unfolding refusal_of
named_met {s} w (OnSource id a) = go (flag (names_source s id))
  where
    go : Flag (names_source s id) → Met s (OnSource id a) (unless (names_source s id) 4 (source_refusal s (index_of id) a))
    go (on e) = rw e (source_met w ((between_exact 1 s.n id.0).0 e) a)
    go (off e) = rw e (first 4 (no_such_source (λ h. clash ((between_exact 1 s.n id.0).1 h) e), after_sound w))
named_met {s} w (OnCore k a) = go (flag (names_core s k))
  where
    go : Flag (names_core s k) → Met s (OnCore k a) (unless (names_core s k) 3 (core_refusal s k.0 a))
    go (on e) = rw e (core_met w (ltb-true k.0 s.m e) a)
    go (off e) = rw e (first 3 (no_such_core (ltb-false k.0 s.m e), after_sound w))

any_turn : {s : Controller} {c : Command} (j : ℕ) → Row s c j → 1 ≤ turn j
any_turn _ (not_sound h) = omega arith
any_turn _ (no_such_core h) = omega arith
any_turn _ (no_such_source h) = omega arith
any_turn _ (source_priority h) = omega arith
any_turn _ (core_priority h) = omega arith
any_turn _ (is_pending h) = omega arith
any_turn _ (unfilled_box h) = omega arith
any_turn _ (not_redelivered h) = omega arith
any_turn _ (not_completed h) = omega arith
any_turn _ (in_use h) = omega arith

met : (s : Controller) (c : Command) → Met s c (refusal s c)
unfolding refusal
met s c = go (flag (well_formed s))
  where
    go : Flag (well_formed s) → Met s c (unless (well_formed s) 1 (refusal_of s c))
    go (on e) = rw e (named_met ((test_exact s).0 e) c)
    go (off e) = rw e (first 1 (not_sound (λ w. clash ((test_exact s).1 w) e), any_turn))

-- ---- the statements

refusals_of : {s : Controller} {c : Command} (k : ℕ) → Met s c k → Refusals k s c
refusals_of _ (none h) =
    record {
      given = λ k some. (λ e. absurd (omega arith), λ f. absurd (h k f.0));
      accepted = (λ e. h, λ g. refl);
    }
refusals_of _ (first k f) =
    record {
      given = λ j some. (λ e. rw (← e) f, λ g. only_number k j f g);
      accepted = (λ e. absurd (omega (arith, row_small f.0)), λ g. absurd (g k f.0));
    }

pub refusal_answered : RefusalAnswered
unfolding refused settled
refusal_answered s c = by_answer s c (λ a. a.number ≡ refusal s c) (λ e. sym e) (λ h. refl)

pub refusals_exact : RefusalsExact execute
refusals_exact s c = rw (refusal_answered s c) (refusals_of (refusal s c) (met s c))

-- the lines fit one number
unique : {s : Controller} {c : Command} (j k : ℕ) → Refusals j s c → Refusals k s c → j ≡ k
unique zero zero x y = refl
unique zero (suc k) x y = absurd (x.accepted.0 refl (suc k) ((y.given (suc k) (omega arith)).0 refl).0)
unique (suc j) zero x y = absurd (y.accepted.0 refl (suc j) ((x.given (suc j) (omega arith)).0 refl).0)
unique (suc j) (suc k) x y =
    only_number (suc j) (suc k) ((x.given (suc j) (omega arith)).0 refl) ((y.given (suc k) (omega arith)).0 refl)

pub number_unique : (s : Controller) (c : Command) (number : ℕ) → Refusals number s c → number ≡ (execute s c).number
number_unique s c number r = unique number (execute s c).number r (refusals_exact s c)

pub at_most_nine : (s : Controller) (c : Command) → (execute s c).number ≤ 9
at_most_nine s c = go (execute s c).number (refusals_exact s c)
  where
    go : (k : ℕ) → Refusals k s c → k ≤ 9
    go zero r = omega arith
    go (suc k) r = (row_small ((r.given (suc k) (omega arith)).0 refl).0).1

pub refused_unchanged : RefusedUnchanged execute
unfolding refused settled
refused_unchanged s c =
    by_answer s c (λ a. a.number ≢ 0 → a.number ≢ already_pending → a ≡ answer s a.number 0 0) (λ e h. absurd (h refl))
    (λ h n other. ap (λ t. answer t (refusal s c) 0 0) (kept s c (refusal s c) other))

pub dropped_counted : DroppedCounted execute
unfolding refused settled
dropped_counted s c =
    by_answer s c (λ a. a.number ≡ already_pending → a ≡ answer (drop_counted s c) already_pending 0 0) (λ e six. absurd (omega (arith, six)))
    (λ h six. ap (refused s c) six)
