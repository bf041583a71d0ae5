-- An accepted entry keeps the simulation sound, and its commands are accepted (`EntryAnswered`). Assumes nothing.
--   redelivers, interrupted_priority    of the redeliver in it
--   hand_back_lem      redeliver lets the interrupted request go; without one nothing changes
--   entered_kept   core k goes over to the request of its box
use Prim.Native.Nat.{ℕ, zero, suc, pred, ◌<◌, ◌≤◌}
use mathlib.Core.Path.{◌≡◌, refl, sym, ◌∙◌, ap, subst}
use mathlib.Core.Logic.{◌≢◌}
use mathlib.Core.Bool.{true}
use lib.ListN.{length, set, length-set}
use lib.Seq.{get_or-set_same, get_or-set_other}
use native.Mathlib.Omega.{arith}
use borrow.Author.Tests.{ne_eqb}
use Rattle.lists.proofs.Bools.{clash}
use Rattle.lists.proofs.Writes.{read_set}
use Rattle.model.specs.declared.CoreId.{CoreId}
use Rattle.model.specs.declared.Source.{Source}
use Rattle.model.specs.declared.Controller.{Controller}
use Rattle.model.specs.declared.Answer.{Answer}
use Rattle.model.specs.declared.Command.TheVariants.{OnSource, OnCore}
use Rattle.model.specs.declared.SourceAction.TheVariants.{Redeliver}
use Rattle.model.specs.declared.CoreAction.TheVariants.{Claim}
use Rattle.model.specs.Records.{source_id, source_at, core_at}
use Rattle.model.specs.Requests.{claimed}
use Rattle.model.specs.WellFormed.{WellFormed, Holding}
use Rattle.model.specs.Commands.{refusal}
use Rattle.effects.proofs.Kept.{well_formed-kept}
use Rattle.effects.proofs.AtRest.{claim_answer}
use Rattle.routines.specs.declared.Routines.{Routines}
use Rattle.routines.specs.declared.RoutineCall.TheVariants.{Enter}
use Rattle.routines.specs.Routines.{active_at, active_index, routines_with, Runs, SoundRoutines, claim_on, hand_back, entered}
use Rattle.routines.specs.Statements.{EntryAnswered}
use Rattle.routine_laws.proofs.Standing.{running, sound_accepted, enter_checked, answered}
use Rattle.routine_laws.proofs.After.{Claiming, claiming}
use Rattle.routine_laws.proofs.LetGo.{LetGo, none_goes, redeliver_accepted, redelivered_goes}
use Rattle.routine_laws.proofs.Switch.{Stays, TakenBy, Switch, switch_sound}

-- ---- redeliver, if there is an interrupted request

-- id names a claimed request of c, or is 0
abbrev Claimed : Controller → ℕ → Type 0
Claimed c id = (i : ℕ) → suc i ≡ id → (i < c.n) × (claimed c i ≡ true)

hand_back_lem : (c : Controller) → WellFormed c → (id : ℕ) → Claimed c id → LetGo c (hand_back c id).state id
hand_back_lem c w zero h = none_goes c w
hand_back_lem c w (suc i) h =
    let (l, e) = h i refl in
    rw (ne_eqb (suc i) 0 (λ z. absurd (omega arith))) (redelivered_goes c w i l e)

handed_number : (c : Controller) → WellFormed c → (id : ℕ) → Claimed c id → (hand_back c id).number ≡ 0
handed_number c w zero h = refl
handed_number c w (suc i) h =
    let (l, e) = h i refl in
    rw (ne_eqb (suc i) 0 (λ z. absurd (omega arith)))
    (answered c (OnSource (source_id (suc i)) Redeliver) (redeliver_accepted c w i l e))

-- ---- the entry

module _ (s : Routines) (sound : SoundRoutines s) (k : CoreId) (k_lt : k.0 < s.controller.m)
    (filled : (core_at s.controller k.0).message.filled ≡ true) where
  abbrev c : Controller
  c = s.controller

  -- the box's request, and the one that is active
  abbrev box : ℕ
  box = (core_at c k.0).message.source.0

  abbrev prev : ℕ
  prev = active_at s k.0

  backed : Holding c (core_at c k.0)
  backed = sound.controller.consistent.backed k.0 k_lt filled

  names : box ≡ suc (pred box)
  names = omega (arith, backed.some_id)

  -- after the claim, and after the redeliver
  abbrev c' : Controller
  c' = (claim_on s k).state

  abbrev c'' : Controller
  c'' = (hand_back c' prev).state

  claims : Claiming c c' (pred box) k.0
  claims = claiming c sound.controller k k_lt filled (pred box) names

  sound' : WellFormed c'
  sound' = well_formed-kept c (OnCore k Claim) sound.controller

  runs_on : (i : ℕ) → suc i ≡ prev → Runs s i k.0
  runs_on i q =
      let r : Runs s (active_index s k.0) k.0 = running s sound k.0 k_lt (λ z. absurd (omega (arith, z, q))) in
      let is : active_index s k.0 ≡ i = ap pred (sym q) in
      rw is at r

  -- a claimed request isn't in the box
  not_boxed : (i : ℕ) → claimed c i ≡ true → i ≢ pred box
  not_boxed i e z = clash (rw z at e) claims.was_free

  interrupted : Claimed c' prev
  interrupted i q =
      let r : Runs s i k.0 = runs_on i q in
      (omega (arith, r.source_in, claims.n_same), claims.others i (not_boxed i r.is_claimed) ∙ r.is_claimed)

  -- the interrupted request can be redelivered, at the priority that its core had
  pub redelivers :
      (i : ℕ) → suc i ≡ active_at s k.0 → refusal (claim_on s k).state (OnSource (source_id (suc i)) Redeliver) ≡ 0
  redelivers i q = let (l, e) = interrupted i q in redeliver_accepted c' sound' i l e

  pub interrupted_priority :
      (i : ℕ) → suc i ≡ active_at s k.0 → (source_at (claim_on s k).state i).priority ≡ (core_at s.controller k.0).configured
  interrupted_priority i q =
      ap (λ (r : Source). r.priority) (claims.sources i) ∙ sym (sound.runs_at_its_priority i k.0 (runs_on i q))

  goes : LetGo c' c'' prev
  goes = hand_back_lem c' sound' prev interrupted

  box_not_prev : suc (pred box) ≢ prev
  box_not_prev q = clash (runs_on (pred box) q).is_claimed claims.was_free

  fits : k.0 < length s.active
  fits = omega (arith, k_lt, sound.active_length, sound.controller.consistent.m_le)

  room : pred box < length s.holder
  room = omega (arith, claims.source_in, sound.holder_length, sound.controller.consistent.n_le)

  abbrev t : Routines
  t = routines_with c'' (set s.active k.0 box) (set s.holder (pred box) (suc k.0))

  box_taken : TakenBy t (pred box) k.0
  box_taken =
      record {
        is_claimed = goes.others (pred box) (omega (arith, claims.source_in, claims.n_same)) box_not_prev ∙ claims.taken;
        at_priority = goes.configured k.0 ∙ claims.at_priority ∙ sym (goes.priority (pred box) box_not_prev);
        held = get_or-set_same s.holder (pred box) (suc k.0) 0 room;
      }

  taken : (i : ℕ) → suc i ≡ box → TakenBy t i k.0
  taken i q = let is : i ≡ pred box = ap pred q in rw is box_taken

  apart : (j : ℕ) → j < c.m → j ≢ k.0 → 1 ≤ box → active_at s j ≢ box
  apart j l h some q =
      let r : Runs s (active_index s j) j = running s sound j l (λ z. absurd (omega (arith, z, q, some))) in
      not_boxed (active_index s j) r.is_claimed (ap pred q)

  claimed_before : (i : ℕ) → i < c.n → suc i ≢ box → claimed c'' i ≡ true → (claimed c i ≡ true) × (suc i ≢ prev)
  claimed_before i l h e =
      let ne : suc i ≢ prev = λ q. clash e (goes.gone i q) in
      let d : i ≢ pred box = λ z. h (ap suc z ∙ sym names) in
      (sym (claims.others i d) ∙ sym (goes.others i (omega (arith, claims.n_same)) ne) ∙ e, ne)

  stays : (i : ℕ) → i < c.n → claimed c i ≡ true → suc i ≢ prev → Stays s t i
  stays i l e ne =
      let d : i ≢ pred box = not_boxed i e in
      record {
        is_claimed = goes.others i (omega (arith, claims.n_same)) ne ∙ claims.others i d ∙ e;
        same_priority = goes.priority i ne ∙ ap (λ (r : Source). r.priority) (claims.sources i);
        same_holder = get_or-set_other s.holder (pred box) i (suc k.0) 0 d;
      }

  switched : Switch s t k.0 box
  switched =
      record {
        is_well_formed = goes.is_well_formed;
        n_same = goes.n_same ∙ claims.n_same;
        m_same = goes.m_same ∙ claims.m_same;
        core_in = k_lt;
        active_length = length-set s.active k.0 box ∙ sound.active_length;
        holder_length = length-set s.holder (pred box) (suc k.0) ∙ sound.holder_length;
        here = get_or-set_same s.active k.0 box 0 fits;
        id_le = backed.id_le;
        none = λ q. absurd (omega (arith, q, names));
        taken = taken;
        elsewhere = λ j h. get_or-set_other s.active k.0 j box 0 h;
        apart = apart;
        configured = λ j h. goes.configured j ∙ claims.configured j h;
        claimed_before = claimed_before;
        stays = stays;
        holders_in_range = λ i l.
            read_set (λ x. x ≤ c.m) s.holder (pred box) i (suc k.0) 0 room (λ q. k_lt) (λ q. sound.holders_in_range i l);
      }

  pub claim_id : (claim_on s k).id.0 ≡ (core_at s.controller k.0).message.source.0
  claim_id = ap (λ (a : Answer). a.id.0) (claim_answer c sound.controller k k_lt filled)

  pub entered_kept : SoundRoutines (entered s k).state
  unfolding entered
  entered_kept =
      subst (λ id. SoundRoutines (routines_with c'' (set s.active k.0 id) (set s.holder (pred id) (suc k.0)))) (sym claim_id)
      (switch_sound sound switched)

  pub entered_active : active_at (entered s k).state k.0 ≡ (claim_on s k).id.0
  unfolding entered
  entered_active = get_or-set_same s.active k.0 (claim_on s k).id.0 0 fits

  pub entered_m : (entered s k).state.controller.m ≡ s.controller.m
  unfolding entered
  entered_m = switched.m_same

  pub some_box : (core_at s.controller k.0).message.source.0 ≢ 0
  some_box z = absurd (omega (arith, z, names))

  pub entry_numbers : ((claim_on s k).number ≡ 0) × ((hand_back (claim_on s k).state (active_at s k.0)).number ≡ 0)
  entry_numbers = (
    ap (λ (a : Answer). a.number) (claim_answer c sound.controller k k_lt filled),
    handed_number c' sound' prev interrupted,
  )

pub entry_answered : EntryAnswered
entry_answered s k e =
    let (sound, checks) = sound_accepted s (Enter k) e in
    let (k_lt, filled) = enter_checked s k checks in
    entry_numbers s sound k k_lt filled
