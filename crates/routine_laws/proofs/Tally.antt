-- The table of handovers is the count in the run's history (`TableIsHistory`), and no core hands over to itself (`DiagonalZero`).
-- Assumes nothing.
--   Tallied s t h     the last holders of s and the cells of t are what the history h says
--   step_tallied      a call keeps it so
use Prim.Native.Nat.{ℕ, zero, suc, pred, ◌+◌, ◌<◌, ◌≤◌, min}
use mathlib.Core.Path.{◌≡◌, refl, sym, ◌∙◌, ap}
use mathlib.Core.Logic.{◌≢◌}
use mathlib.Core.List.{List, [], ◌∷◌}
use mathlib.Core.Bool.{Bool, true, false, ◌&&◌, cond}
use lib.Dec.{eqb}
use lib.ListN.{length, get_or, set, replicate, length-replicate, get_or-replicate}
use native.Mathlib.Omega.{arith}
use borrow.Author.Tests.{eq-eqb, ne_eqb}
use Rattle.lists.proofs.Filling.{get_or-zeros}
use Rattle.lists.proofs.Held.{held_by_lem}
use Rattle.lists.proofs.Writes.{read_written}
use Rattle.model.specs.declared.SourceId.{SourceId}
use Rattle.model.specs.declared.CoreId.{CoreId}
use Rattle.model.specs.Records.{max_sources, max_cores, index_of, core_at, reset}
use Rattle.model.specs.WellFormed.{Holding}
use Rattle.model.specs.Commands.{refusal}
use Rattle.effects.proofs.Checked.{Named, accepted}
use Rattle.model.specs.Statements.{InRange}
use Rattle.routines.specs.declared.Routines.{Routines}
use Rattle.routines.specs.declared.DirectAction.{DirectAction}
use Rattle.routines.specs.declared.DirectAction.TheVariants.{SetPriority, Mask, Unmask, Trigger}
use Rattle.routines.specs.declared.RoutineCall.{RoutineCall}
use Rattle.routines.specs.declared.RoutineCall.TheVariants.{Direct, Enter, Exit}
use Rattle.routines.specs.Routines.{holder_at, command_of, idle_beside, fresh_routines, SoundRoutines, call_refusal_of, call_refusal, claim_on}
use Rattle.routines.specs.Routines.{entered, exited, commanded, accepted_call, after_refused_call, call_routine, Handovers, cell_at, no_handovers}
use Rattle.routines.specs.Routines.{most_handovers, box_holder, counted, table_after, run_routines, run_table}
use Rattle.routines.specs.History.{Event, held_by, last_holder, passes_on, handovers, event_of, event_with, history_after, history}
use Rattle.routines.specs.Statements.{TableIsHistory, DiagonalZero}
use Rattle.routine_laws.proofs.Answered.{by_call}
use Rattle.routine_laws.proofs.Standing.{sound_accepted, enter_checked, command_accepted}
use Rattle.routine_laws.proofs.EntryKept.{claim_id}
use Rattle.routine_laws.proofs.Strict.{fresh_is}
use Rattle.routine_laws.proofs.Cells.{Whole, counts, cell_by, cell_counted, whole_counted}

pub record Tallied (s : Routines) (t : Handovers) (h : List Event) : Type 0 where
  pub whole : Whole t
  pub same_holder : (i : ℕ) → i < max_sources → holder_at s i ≡ last_holder h (suc i)
  pub cells : (r c : ℕ) → cell_at t r c ≡ min most_handovers (handovers h r c)

-- ---- a refused call

module _ (s : Routines) (t : Handovers) (h : List Event) (x : Tallied s t h) (c : RoutineCall) (number id : ℕ) where
  -- an event that isn't an accepted one is passed over
  pub refused_tallied : number ≢ 0 → Tallied s t (event_with c number id ∷ h)
  unfolding last_holder handovers
  refused_tallied ne =
      record {
        whole = x.whole;
        same_holder = λ i l. rw (ne_eqb number 0 ne) (x.same_holder i l);
        cells = λ r d. rw (ne_eqb number 0 ne) (x.cells r d ∙ ap (min most_handovers) (omega arith));
      }

-- ---- the accepted calls

-- a call that isn't an entry hands nothing over
module _ (s u : Routines) (t : Handovers) (h : List Event) (x : Tallied s t h) (c : RoutineCall) (id : ℕ) where
  unpassed : ((r d : ℕ) → passes_on c id h r d ≡ false) →
      ((i : ℕ) → i < max_sources → holder_at u i ≡ held_by c id (suc i) (last_holder h (suc i))) → Tallied u t (event_with c 0 id ∷ h)
  unfolding last_holder handovers
  unpassed none held =
      record {
        whole = x.whole;
        same_holder = held;
        cells = λ r d. rw (none r d) (x.cells r d ∙ ap (min most_handovers) (omega arith));
      }

-- a last holder that is written where the history has the source's id
module _ (s : Routines) (sound : SoundRoutines s) (h : List Event)
    (same : (i : ℕ) → i < max_sources → holder_at s i ≡ last_holder h (suc i)) where
  written :
      (id v : ℕ) → 1 ≤ id → id ≤ s.controller.n → (i : ℕ) → i < max_sources →
      get_or (set s.holder (pred id) v) i 0 ≡ cond (eqb id (suc i)) v (last_holder h (suc i))
  written id v some le i l =
      let fits : pred id < length s.holder = omega (arith, sound.holder_length, sound.controller.consistent.n_le) in
      sym (read_written (λ j y. y) s.holder (pred id) i v 0 fits id (suc i) (λ e. omega arith, λ e. omega arith) (λ e. refl)
      (sym (same i l)))

module _ (s : Routines) (sound : SoundRoutines s) (t : Handovers) (h : List Event) (x : Tallied s t h) where
  triggered : (id : SourceId) (u : Routines) → u.holder ≡ set s.holder (index_of id) 0 → Named s.controller id →
      Tallied u t (event_with (Direct id Trigger) 0 0 ∷ h)
  triggered id u is (some, le) =
      unpassed s u t h x (Direct id Trigger) 0 (λ r d. refl)
      (λ i l. ap (λ y. get_or y i 0) is ∙ written s sound h x.same_holder id.0 0 some le i l)

  commanded_tallied : (id : SourceId) (a : DirectAction) → Named s.controller id →
      Tallied (commanded s id a).state t (event_with (Direct id a) 0 (commanded s id a).id.0 ∷ h)
  unfolding commanded
  commanded_tallied id (SetPriority p) n = unpassed s _ t h x (Direct id (SetPriority p)) 0 (λ r d. refl) x.same_holder
  commanded_tallied id Mask n = unpassed s _ t h x (Direct id Mask) 0 (λ r d. refl) x.same_holder
  commanded_tallied id Unmask n = unpassed s _ t h x (Direct id Unmask) 0 (λ r d. refl) x.same_holder
  commanded_tallied id Trigger n = triggered id (commanded s id Trigger).state refl n

  exited_tallied : (k : CoreId) → Tallied (exited s k).state t (event_with (Exit k) 0 (exited s k).id.0 ∷ h)
  unfolding exited
  exited_tallied k = unpassed s _ t h x (Exit k) 0 (λ r d. refl) x.same_holder

  module _ (k : CoreId) (k_lt : k.0 < s.controller.m) (filled : (core_at s.controller k.0).message.filled ≡ true) where
    abbrev box : ℕ
    box = (core_at s.controller k.0).message.source.0

    backed : Holding s.controller (core_at s.controller k.0)
    backed = sound.controller.consistent.backed k.0 k_lt filled

    -- the last holder of the box's request, by the history
    held : box_holder s k.0 ≡ last_holder h box
    held =
        let is : suc (pred box) ≡ box = omega (arith, backed.some_id) in
        let lt : pred box < max_sources = omega (arith, backed.some_id, backed.id_le, sound.controller.consistent.n_le) in
        x.same_holder (pred box) lt ∙ ap (last_holder h) is

    holder_le : box_holder s k.0 ≤ max_cores
    holder_le =
        let lt : pred box < max_sources = omega (arith, backed.some_id, backed.id_le, sound.controller.consistent.n_le) in
        omega (arith, sound.holders_in_range (pred box) lt, sound.controller.consistent.m_le)

    core_lt : k.0 < max_cores
    core_lt = omega (arith, k_lt, sound.controller.consistent.m_le)

    cell_after : (r c : ℕ) →
        cell_at (counted t (box_holder s k.0) k.0) r c ≡
        min most_handovers (handovers h r c + cond (counts (last_holder h box) k.0 r c) 1 0)
    cell_after r c =
        cell_counted t x.whole k.0 core_lt (box_holder s k.0) holder_le r c ∙
        ap (λ y. cell_by t r c (counts y k.0 r c)) held ∙
        held_by_lem most_handovers (cell_at t r c) (handovers h r c) (x.cells r c) (counts (last_holder h box) k.0 r c)

    entered_by : (u : Routines) (id : ℕ) → id ≡ box → u.holder ≡ set s.holder (pred id) (suc k.0) →
        Tallied u (counted t (box_holder s k.0) k.0) (event_with (Enter k) 0 id ∷ h)
    unfolding last_holder handovers
    entered_by u id e is =
        record {
          whole = whole_counted t x.whole k.0 core_lt (box_holder s k.0) holder_le;
          same_holder = λ i l.
              ap (λ y. get_or y i 0) is ∙
              written s sound h x.same_holder id (suc k.0) (omega (arith, e, backed.some_id)) (omega (arith, e, backed.id_le)) i l;
          cells = λ r c. rw e (cell_after r c);
        }

    entered_tallied :
        Tallied (entered s k).state (counted t (box_holder s k.0) k.0) (event_with (Enter k) 0 (entered s k).id.0 ∷ h)
    unfolding entered
    entered_tallied = entered_by (entered s k).state (claim_on s k).id.0 (claim_id s sound k k_lt filled) refl

-- ---- any call

module _ (s : Routines) (t : Handovers) (h : List Event) (x : Tallied s t h) where
  accepted_tallied : (c : RoutineCall) → call_refusal s c ≡ 0 →
      Tallied (accepted_call s c).state (table_after t s c) (event_with c (accepted_call s c).number (accepted_call s c).id.0 ∷ h)
  unfolding table_after call_refusal_of commanded entered exited
  accepted_tallied (Direct id a) e =
      let (sound, checks) = sound_accepted s (Direct id a) e in
      let passes : refusal s.controller (command_of id a) ≡ 0 =
      command_accepted s.controller (command_of id a) sound.controller checks in
      let (w, (n, g)) = accepted s.controller (command_of id a) passes in
      commanded_tallied s sound t h x id a n
  accepted_tallied (Enter k) e =
      let (sound, checks) = sound_accepted s (Enter k) e in
      let (l, filled) = enter_checked s k checks in
      rw (eq-eqb (call_refusal s (Enter k)) 0 e) (entered_tallied s sound t h x k l filled)
  accepted_tallied (Exit k) e = let (sound, checks) = sound_accepted s (Exit k) e in exited_tallied s sound t h x k

  unaccepted : (c : RoutineCall) → call_refusal s c ≢ 0 →
      Tallied (after_refused_call s c (call_refusal s c)) (table_after t s c) (event_with c (call_refusal s c) 0 ∷ h)
  unfolding table_after
  unaccepted (Direct id a) ne =
      let same = refused_tallied s t h x (Direct id a) (call_refusal s (Direct id a)) 0 ne in
      record { whole = same.whole; same_holder = same.same_holder; cells = same.cells }
  unaccepted (Enter k) ne = rw (ne_eqb (call_refusal s (Enter k)) 0 ne) (refused_tallied s t h x (Enter k) _ 0 ne)
  unaccepted (Exit k) ne = refused_tallied s t h x (Exit k) _ 0 ne

  step_tallied : (c : RoutineCall) → Tallied (call_routine s c).state (table_after t s c) (event_of s c ∷ h)
  step_tallied c =
      by_call s c (λ a. Tallied a.state (table_after t s c) (event_with c a.number a.id.0 ∷ h)) (accepted_tallied c) (unaccepted c)

-- ---- runs

run_tallied :
    (cs : List RoutineCall) (s : Routines) (t : Handovers) (h : List Event) → Tallied s t h →
    Tallied (run_routines s cs) (run_table t s cs) (history_after h s cs)
unfolding run_routines run_table history_after
run_tallied [] s t h x = x
run_tallied (call ∷ cs) s t h x =
    run_tallied cs (call_routine s call).state (table_after t s call) (event_of s call ∷ h) (step_tallied s t h x call)

-- the cells of n rows of zeros, and what is read past them
blank : (n k r c : ℕ) → get_or (get_or (replicate n (replicate {A = ℕ} k 0)) r []) c 0 ≡ 0
blank zero k r c = refl
blank (suc n) k zero c = get_or-zeros k c
blank (suc n) k (suc r) c = blank n k r c

fresh_tallied : (n m : ℕ) → Tallied (idle_beside (reset n m)) no_handovers []
unfolding last_holder handovers
fresh_tallied n m =
    record {
      whole =
          record {
            rows = length-replicate max_cores (replicate {A = ℕ} max_cores 0);
            columns = λ r l. rw (get_or-replicate max_cores r (replicate {A = ℕ} max_cores 0) [] l) (length-replicate {A = ℕ} max_cores 0);
          };
      same_holder = λ i l. get_or-zeros max_sources i;
      cells = λ r c. blank max_cores max_cores r c;
    }

pub fresh_run_tallied :
    (n m : ℕ) (cs : List RoutineCall) → InRange n m →
    Tallied (run_routines (fresh_routines n m) cs) (run_table no_handovers (fresh_routines n m) cs) (history (fresh_routines n m) cs)
fresh_run_tallied n m cs range =
    rw (fresh_is n m range) (run_tallied cs (idle_beside (reset n m)) no_handovers [] (fresh_tallied n m))

pub table_is_history : TableIsHistory
table_is_history n m cs range = (fresh_run_tallied n m cs range).cells

-- ---- the diagonal

own_none : (e : Event) (h : List Event) (k : ℕ) → passes_on e.call e.id h k k ≡ false
own_none e h k = go e.call
  where
    go : (c : RoutineCall) → passes_on c e.id h k k ≡ false
    go (Direct id a) = refl
    go (Enter j) = rw (eq-eqb k k refl) (nothing (eqb j.0 k) (eqb (last_holder h e.id) (suc k)))
      where
        nothing : (a b : Bool) → a && false && b ≡ false
        nothing true b = refl
        nothing false b = refl
    go (Exit j) = refl

diagonal_none : (h : List Event) (k : ℕ) → handovers h k k ≡ 0
unfolding handovers
diagonal_none [] k = refl
diagonal_none (e ∷ h) k = rw (own_none e h k, diagonal_none h k) (go (eqb e.number 0))
  where
    go : (b : Bool) → 0 + cond (b && false) 1 0 ≡ 0
    go true = refl
    go false = refl

pub diagonal_zero : DiagonalZero
diagonal_zero n m cs range k =
    table_is_history n m cs range k k ∙ ap (min most_handovers) (diagonal_none (history (fresh_routines n m) cs) k)
