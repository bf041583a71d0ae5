-- What a call leaves in a host's memory, from what its commands leave. Assumes nothing.
--   command_refused, command_done             a command on a source
--   enter_refused, enter_ready, enter_done    an entry: its claim is refused; claimed; the interrupted request redelivered
--   exit_refused, exit_ready, exit_done       an exit: refused; completed; the core set to 0
use Prim.Native.Nat.{ℕ, pred, ◌+◌, ◌-◌, ◌<◌, ◌≤◌}
use mathlib.Core.Path.{◌≡◌, refl, sym, ◌∙◌, ap, subst}
use mathlib.Core.Logic.{◌≢◌}
use mathlib.Core.List.{List}
use mathlib.Core.Bool.{Bool, true}
use lib.ListN.{length, get_or, set}
use lib.Dec.{ltb, eqb}
use native.Mathlib.Omega.{arith}
use native.Mathlib.Numerals.{add-one, sub-one}
use borrow.Author.Tests.{eq-eqb, ne_eqb, ltb-true}
use Rattle.model.specs.declared.SourceId.{SourceId}
use Rattle.model.specs.declared.CoreId.{CoreId}
use Rattle.model.specs.declared.Controller.{Controller}
use Rattle.model.specs.declared.Answer.{Answer}
use Rattle.model.specs.declared.Command.{Command}
use Rattle.model.specs.declared.Command.TheVariants.{OnSource, OnCore}
use Rattle.model.specs.declared.SourceAction.{SourceAction}
use Rattle.model.specs.declared.SourceAction.TheVariants.{Redeliver, Complete}
use Rattle.model.specs.declared.CoreAction.TheVariants.{Claim, SetCorePriority}
use Rattle.model.specs.Records.{source_id, core_at}
use Rattle.model.specs.Commands.{number_in, names_core, refusal_of, settled, after_refusal, refused, execute}
use Rattle.effects.proofs.Accepted.{by_answer}
use Rattle.effects.proofs.Checked.{checked}
use Rattle.effects.proofs.Dropped.{core_kept}
use Rattle.effects.proofs.Kept.{well_formed-kept}
use Rattle.layout.specs.Bytes.{state_from}
use Rattle.in_place.specs.declared.Ranking.{Ranking}
use Rattle.in_place.specs.Held.{Held}
use Rattle.in_place.specs.Steps.{Outcome, id_in, cycles_in, Says as OutcomeSays, Ready, Leaves, Executed}
use Rattle.in_place.proofs.Stored.{held_back, held_here}
use Rattle.routines.specs.declared.Routines.{Routines}
use Rattle.routines.specs.declared.DirectAction.{DirectAction}
use Rattle.routines.specs.declared.RoutineCall.{RoutineCall}
use Rattle.routines.specs.declared.RoutineCall.TheVariants.{Direct, Enter, Exit}
use Rattle.routines.specs.Routines.{with_controller, active_at, action_of, command_of, call_refusal, claim_on, hand_back, entered, complete_on}
use Rattle.routines.specs.Routines.{lower, exited, holder_after, commanded, after_refused_call, refused_call, call_routine}
use Rattle.routines.specs.Calls.{routines_in}
use Rattle.routine_laws.proofs.Answered.{call_accepted, call_refused}
use Rattle.routine_laws.proofs.Standing.{sound_accepted, enter_checked}
use Rattle.routine_laws.proofs.EntryKept.{claim_id}
use Rattle.routine_laws.proofs.Cycles.{entry_takes_no_cycle, call_cycles_bounded}
use Rattle.routine_steps.specs.Simulated.{Stepped, outcome_in, from_in, taken_from, Standing, Did}
use Rattle.routine_steps.proofs.Numbers.{command_number, direct_number, enter_number, runs_there}

-- what is answered, by its parts
abbrev pub Answers : Stepped → ℕ → ℕ → ℕ → ℕ → Type 0
Answers r number id cycles from = OutcomeSays (outcome_in r) number id cycles × (from_in r ≡ from)

-- nothing is taken where the call is refused
pub none_taken : (s : Routines) (c : RoutineCall) → call_refusal s c ≢ 0 → taken_from s c ≡ 0
none_taken s (Direct id a) h = refl
none_taken s (Enter k) h = rw (ne_eqb (call_refusal s (Enter k)) 0 h)
none_taken s (Exit k) h = refl

module _ {b active holder : List ℕ} {g : Ranking} (st : Standing b active holder g) where
  abbrev s : Routines
  s = routines_in b active holder

  pub standing_ready : Ready b g
  standing_ready = record { held = st.held; sound = st.sound.controller }

  -- a refused call, of which the controller that it hands back is held
  stays :
      (c : RoutineCall) {r : Stepped} {t : Controller} {b' : List ℕ} {g' : Ranking} (number : ℕ) → call_refusal s c ≡ number → number ≢ 0 →
      after_refused_call s c number ≡ with_controller s t → Answers r number 0 0 0 → Held t b' g' →
      Did s c r b' active holder g'
  stays c number e h same ((en, ei, ec), ef) held =
      let is : call_routine s c ≡ refused_call s c number
      = call_refused s c (λ z. h (sym e ∙ z)) ∙ ap (refused_call s c) e in
      let none : taken_from s c ≡ 0 = none_taken s c (λ z. h (sym e ∙ z)) in
      record {
        says = rw (is, none) ((en, ei, ec), ef);
        held = rw (is, same) held;
        active_is = rw (is, same) refl;
        holder_is = rw (is, same) refl;
      }

  -- what a refused command of the controller leaves
  left :
      (o : Command) {x : Outcome} {b' : List ℕ} {g' : Ranking} → Executed b o x b' g' → number_in x ≢ 0 →
      Held (after_refusal (state_from b) o (number_in x)) b' g'
  unfolding settled refused
  left o {x} {b'} {g'} did h =
      let same : (execute (state_from b) o).state ≡ after_refusal (state_from b) o (execute (state_from b) o).number
      = by_answer (state_from b) o (λ (a : Answer). a.number ≢ 0 → a.state ≡ after_refusal (state_from b) o a.number)
      (λ e n. absurd (n refl)) (λ e n. refl) (λ z. h (did.says.0 ∙ z)) in
      subst (λ (c : Controller). Held c b' g') (same ∙ ap (after_refusal (state_from b) o) (sym did.says.0)) did.held

  -- and an accepted one a sound state
  after : (o : Command) {x : Outcome} {b' : List ℕ} {g' : Ranking} → Executed b o x b' g' → Ready b' g'
  after o did =
      record {
        held = held_here did.held;
        sound = rw (held_back did.held) (well_formed-kept (state_from b) o st.sound.controller);
      }

  -- ---- a command on a source

  source_named :
      (id : SourceId) (a : DirectAction) → refusal_of s.controller (command_of id a) ≡ 0 →
      (1 ≤ id.0) × (id.0 ≤ s.controller.n)
  source_named id a e = (checked s.controller (command_of id a) e).0

  -- the action by the controller's name for it
  pub as_command :
      (id : SourceId) (a : DirectAction) {o : SourceAction} {x : Outcome} {b' : List ℕ} {g' : Ranking} → o ≡ action_of a →
      Executed b (OnSource id o) x b' g' → Executed b (command_of id a) x b' g'
  as_command id a {o} {x} {b'} {g'} e did = subst (λ (y : SourceAction). Executed b (OnSource id y) x b' g') e did

  module _ (id : SourceId) (a : DirectAction) {x : Outcome} {b' : List ℕ} {g' : Ranking}
      (did : Executed b (command_of id a) x b' g') where
    number : number_in x ≡ call_refusal s (Direct id a)
    number = did.says.0 ∙ direct_number s st.sound id a

    pub command_refused :
        {r : Stepped} → number_in x ≢ 0 → Answers r (number_in x) 0 0 0 → Did s (Direct id a) r b' active holder g'
    command_refused h says = stays (Direct id a) (number_in x) (sym number) h refl says (left (command_of id a) did h)

    module _ (e : number_in x ≡ 0) where
      accepted : call_routine s (Direct id a) ≡ commanded s id a
      accepted = call_accepted s (Direct id a) (sym number ∙ e)

      pub command_source : (1 ≤ id.0) × (id.0 - 1 < length holder)
      command_source =
          let (named, rest) = source_named id a (sym (command_number s st.sound (command_of id a)) ∙ sym did.says.0 ∙ e) in
          let long = st.sound.holder_length in
          let n_le = st.sound.controller.consistent.n_le in
          (named, omega (arith, rest, long, n_le))

      pub command_done :
          {r : Stepped} {holder' : List ℕ} → Answers r 0 0 (cycles_in x) 0 → holder' ≡ holder_after a (id.0 - 1) holder →
          Did s (Direct id a) r b' active holder' g'
      unfolding commanded
      command_done ((en, ei, ec), ef) eh =
          record {
            says = rw accepted ((en, ei, ec ∙ did.says.2), ef);
            held = rw accepted did.held;
            active_is = rw accepted refl;
            holder_is = rw (accepted, ← sub-one id.0) eh;
          }

  -- ---- entry

  module _ (k : CoreId) {x : Outcome} {b₁ : List ℕ} {g₁ : Ranking} (did : Executed b (OnCore k Claim) x b₁ g₁) where
    enter_is : number_in x ≡ call_refusal s (Enter k)
    enter_is = did.says.0 ∙ enter_number s st.sound k

    pub enter_refused :
        {r : Stepped} → number_in x ≢ 0 → Answers r (number_in x) 0 0 0 → Did s (Enter k) r b₁ active holder g₁
    enter_refused h says =
        stays (Enter k) (number_in x) (sym enter_is) h refl says
        (subst (λ (c : Controller). Held c b₁ g₁) (core_kept (state_from b) k Claim (number_in x)) (left (OnCore k Claim) did h))

    pub enter_ready : Ready b₁ g₁
    enter_ready = after (OnCore k Claim) did

    module _ (e : number_in x ≡ 0) where
      passes : (k.0 < s.controller.m) × ((core_at s.controller k.0).message.filled ≡ true)
      passes = enter_checked s k (sound_accepted s (Enter k) (sym enter_is ∙ e)).1

      id_is : id_in x ≡ (core_at s.controller k.0).message.source.0
      id_is = did.says.1 ∙ claim_id s st.sound k passes.0 passes.1

      pub enter_core : k.0 < length active
      enter_core = omega (arith, passes.0, st.sound.active_length, st.sound.controller.consistent.m_le)

      pub enter_source : (1 ≤ id_in x) × (id_in x - 1 < length holder)
      enter_source =
          let backed = st.sound.controller.consistent.backed k.0 passes.0 passes.1 in
          let long = st.sound.holder_length in
          let n_le = st.sound.controller.consistent.n_le in
          (omega (arith, id_is, backed.some_id), omega (arith, id_is, backed.some_id, backed.id_le, long, n_le))

      module _ {y : Outcome} {b₂ : List ℕ} {g₂ : Ranking}
          (back : Leaves (hand_back (state_from b₁) (active_at s k.0)) y b₂ g₂) where
        claimed : hand_back (state_from b₁) (active_at s k.0) ≡ hand_back (claim_on s k).state (active_at s k.0)
        claimed = ap (λ (c : Controller). hand_back c (active_at s k.0)) (held_back did.held)

        entry : call_routine s (Enter k) ≡ entered s k
        entry = call_accepted s (Enter k) (sym enter_is ∙ e)

        cycles_are : cycles_in x + cycles_in y ≡ (call_routine s (Enter k)).cycles
        unfolding entered
        cycles_are = rw (entry, did.says.2, back.says.2, claimed)

        pub enter_cycles : cycles_in x + cycles_in y ≡ 0
        enter_cycles = cycles_are ∙ entry_takes_no_cycle s k

        pub enter_done :
            {r : Stepped} {active' holder' : List ℕ} → Answers r 0 (id_in x) (cycles_in x + cycles_in y) (get_or holder (id_in x - 1) 0) →
            active' ≡ set active k.0 (id_in x) → holder' ≡ set holder (id_in x - 1) (k.0 + 1) →
            Did s (Enter k) r b₂ active' holder' g₂
        unfolding entered
        enter_done ((en, ei, ec), ef) ea eh =
            let index : id_in x - 1 ≡ pred (claim_on s k).id.0 = sub-one (id_in x) ∙ ap pred did.says.1 in
            let box : pred (id_in x) ≡ pred (core_at s.controller k.0).message.source.0 = ap pred id_is in
            let none : eqb (call_refusal s (Enter k)) 0 ≡ true = eq-eqb (call_refusal s (Enter k)) 0 (sym enter_is ∙ e) in
            record {
              says = ((en ∙ rw entry, ei ∙ did.says.1 ∙ rw entry, ec ∙ cycles_are), ef ∙ rw (none, sub-one (id_in x), box));
              held = rw entry (subst (λ (a : Answer). Held a.state b₂ g₂) claimed back.held);
              active_is = rw entry (ea ∙ ap (set active k.0) did.says.1);
              holder_is = rw entry (eh ∙ rw (index, add-one k.0));
            }

  -- ---- exit

  module _ (k : CoreId) where
    pub exit_named : {m : ℕ} {t y : Bool} → m ≡ s.controller.m → t ≡ ltb k.0 m → t ≡ y → names_core s.controller k ≡ y
    exit_named read-m asked is = rw read-m at (sym asked ∙ is)

    pub exit_core : names_core s.controller k ≡ true → k.0 < length active
    exit_core e =
        omega (arith, ltb-true k.0 s.controller.m e, st.sound.active_length, st.sound.controller.consistent.m_le)

    pub exit_accepted : names_core s.controller k ≡ true → active_at s k.0 ≢ 0 → call_refusal s (Exit k) ≡ 0
    exit_accepted e h = runs_there s st.sound k e (omega (arith, h))

    pub exit_refused :
        {r : Stepped} (number : ℕ) → call_refusal s (Exit k) ≡ number → number ≢ 0 → Answers r number 0 0 0 →
        Did s (Exit k) r b active holder g
    exit_refused number e h says = stays (Exit k) number e h refl says st.held

    module _ (e : call_refusal s (Exit k) ≡ 0) {x : Outcome} {b₁ : List ℕ} {g₁ : Ranking}
        (did : Executed b (OnSource (source_id (active_at s k.0)) Complete) x b₁ g₁) where
      pub exit_ready : Ready b₁ g₁
      exit_ready = after (OnSource (source_id (active_at s k.0)) Complete) did

      module _ {y : Outcome} {b₂ : List ℕ} {g₂ : Ranking} (low : Executed b₁ (OnCore k (SetCorePriority 0)) y b₂ g₂) where
        exit : call_routine s (Exit k) ≡ exited s k
        exit = call_accepted s (Exit k) e

        completed : lower (state_from b₁) k ≡ lower (complete_on s k).state k
        completed = ap (λ (c : Controller). lower c k) (held_back did.held)

        cycles_sum : cycles_in x + cycles_in y ≡ (call_routine s (Exit k)).cycles
        unfolding exited
        cycles_sum = rw (exit, did.says.2, low.says.2, completed)

        pub exit_cycles : cycles_in x + cycles_in y < 65536
        exit_cycles =
            omega (arith, cycles_sum, call_cycles_bounded s (Exit k), st.sound.controller.consistent.m_le)

        pub exit_done :
            {r : Stepped} {active' : List ℕ} → Answers r 0 0 (cycles_in x + cycles_in y) 0 → active' ≡ set active k.0 0 →
            Did s (Exit k) r b₂ active' holder g₂
        unfolding exited
        exit_done ((en, ei, ec), ef) ea =
            record {
              says = ((en ∙ rw exit, ei ∙ rw exit, ec ∙ cycles_sum), ef);
              held = rw exit (subst (λ (a : Answer). Held a.state b₂ g₂) completed low.held);
              active_is = rw exit ea;
              holder_is = rw exit refl;
            }

-- ---- Listing 1, `if (prev != 0) cpu.redeliver(prev)`

pub back_none :
    {b : List ℕ} {g : Ranking} → Ready b g → (prev : ℕ) → prev ≡ 0 → {r : Outcome} → OutcomeSays r 0 0 0 →
    Leaves (hand_back (state_from b) prev) r b g
back_none ready prev e says = rw (eq-eqb prev 0 e) (record { says = says; held = ready.held })

pub back_given :
    (b : List ℕ) (prev : ℕ) → prev ≢ 0 → {r : Outcome} {b' : List ℕ} {g' : Ranking} →
    Executed b (OnSource (source_id prev) Redeliver) r b' g' → Leaves (hand_back (state_from b) prev) r b' g'
back_given b prev h did = rw (ne_eqb prev 0 h) did
