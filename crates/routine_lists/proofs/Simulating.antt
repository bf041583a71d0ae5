-- A list of calls, a call at a time, with the handovers counted. Assumes nothing.
--   read_call                    what five bytes name
--   none_counted, one_counted   the table after a call that takes no request from another core, and after one that does
--   in_table                    the table's cell is there
--   kept_by, raised_by, count_fits    the same of what a step answers
--   simulate_none, simulate_more    no call is taken; one more is taken
--   no_run, simulate_done       what the whole list answers and writes: nothing; a run
use Prim.Native.Nat.{ℕ, pred, ◌+◌, ◌<◌, ◌≤◌}
use mathlib.Core.Path.{◌≡◌, refl, sym, ◌∙◌, ap}
use mathlib.Core.Logic.{◌≢◌}
use mathlib.Core.List.{List, [], ◌∷◌, ◌++◌}
use mathlib.Core.Bool.{Bool, true, false, cond}
use lib.ListN.{length}
use lib.Seq.{sets}
use lib.Dec.{eqb}
use native.Mathlib.Omega.{arith}
use native.Mathlib.Decide.{ℕ_discrete}
use borrow.Author.Tests.{eq-eqb, ne_eqb}
use Rattle.std.proofs.Common.{Option, Some, None, is_some}
use Rattle.lists.proofs.Bools.{clash, Flag, on, off, flag}
use Rattle.model.specs.declared.SourceId.{SourceId}
use Rattle.model.specs.declared.CoreId.{CoreId}
use Rattle.model.specs.declared.Controller.{Controller}
use Rattle.model.specs.Records.{max_sources, max_cores, index_of, core_at}
use Rattle.layout.specs.Bytes.{word, state_bytes, command_size, no_count, room_for}
use Rattle.layout.proofs.Answers.{same_bytes_lem}
use Rattle.layout.proofs.Fives.{read_at}
use Rattle.layout.proofs.Lists.{room_whole, room_enough, RunTo, Ran, run_none, run_more}
use Rattle.routines.specs.declared.Routines.{Routines}
use Rattle.routines.specs.declared.RoutineCall.{RoutineCall}
use Rattle.routines.specs.declared.RoutineCall.TheVariants.{Direct, Enter, Exit}
use Rattle.routines.specs.Routines.{holder_number, call_refusal, Handovers, box_holder, counted, table_after}
use Rattle.routines.specs.Calls.{one_call, call_of, routines_in, table_in, table_words, DoesSimulate, fits_simulate}
use Rattle.routines.specs.Calls.{simulate_call}
use Rattle.routine_laws.proofs.Standing.{sound_accepted, enter_checked}
use Rattle.routine_laws.proofs.Called.{Counting, counting, routines_machine}
use Rattle.in_place.specs.declared.Ranking.{Ranking}
use Rattle.in_place.specs.Steps.{Says as OutcomeSays}
use Rattle.in_place.proofs.Refused.{says_same}
use Rattle.routine_steps.specs.Simulated.{Stepped, outcome_in, from_in, taken_from, Went}

abbrev pub read_call : ℕ → ℕ → ℕ → List RoutineCall
read_call number at p = one_call (call_of number at p)

-- ---- the core that a call names

abbrev target : RoutineCall → ℕ
target (Direct id a) = id.0
target (Enter k) = k.0
target (Exit k) = k.0

abbrev target_in : Option RoutineCall → ℕ → ℕ
target_in None at = at
target_in (Some c) at = target c

-- a test decides between calls that name it
either : (b : Bool) (x y : Option RoutineCall) (at : ℕ) → target_in x at ≡ at → target_in y at ≡ at → target_in (cond b x y) at ≡ at
either true x y at ex ey = ex
either false x y at ex ey = ey

named_target : (number at p : ℕ) → target_in (call_of number at p) at ≡ at
unfolding call_of
named_target number at p =
    either (eqb number 0) _ _ at refl
    (either (eqb number 1) _ _ at refl
    (either (eqb number 2) _ _ at refl
    (either (eqb number 4) _ _ at refl (either (eqb number 16) _ _ at refl (either (eqb number 17) _ _ at refl refl)))))

-- ---- the table after a call

named_index : (s : Controller) (id : SourceId) → (1 ≤ id.0) × (id.0 ≤ s.n) → s.n ≤ max_sources → index_of id < max_sources
named_index s id (some, h) n_le = let lt : pred id.0 < max_sources = omega arith in lt

module _ (t : Handovers) (s : Routines) where
  pub none_counted : (c : RoutineCall) → taken_from s c ≡ 0 → table_after t s c ≡ t
  unfolding table_after counted
  none_counted (Direct id a) e = refl
  none_counted (Enter k) e = go (flag (eqb (call_refusal s (Enter k)) 0))
    where
      go : Flag (eqb (call_refusal s (Enter k)) 0) → table_after t s (Enter k) ≡ t
      go (on f) = let none : box_holder s k.0 ≡ 0 = rw f at e in rw (f, none)
      go (off f) = rw f
  none_counted (Exit k) e = refl

  taken_entry : (c : RoutineCall) → taken_from s c ≢ 0 →
      (table_after t s c ≡ counted t (taken_from s c) (target c)) × (target c < max_cores) × (taken_from s c ≤ max_cores)
  unfolding table_after
  taken_entry (Direct id a) h = absurd (h refl)
  taken_entry (Enter k) h = go (ℕ_discrete (call_refusal s (Enter k)) 0)
    where
      go : Dec (call_refusal s (Enter k) ≡ 0) →
          (table_after t s (Enter k) ≡ counted t (taken_from s (Enter k)) k.0) × (k.0 < max_cores) × (taken_from s (Enter k) ≤ max_cores)
      go (yes e) =
          let (sound, checks) = sound_accepted s (Enter k) e in
          let (k_lt, filled) = enter_checked s k checks in
          let consistent = sound.controller.consistent in
          let backed = consistent.backed k.0 k_lt filled in
          let box = (core_at s.controller k.0).message.source in
          let inside : index_of box < max_sources = named_index s.controller box (backed.some_id, backed.id_le) consistent.n_le in
          let held = sound.holders_in_range (index_of box) inside in
          rw (eq-eqb _ _ e) (refl, omega (arith, k_lt, consistent.m_le), omega (arith, held, consistent.m_le))
      go (no ne) = absurd (h (rw (ne_eqb _ _ ne) refl))
  taken_entry (Exit k) h = absurd (h refl)

  -- by the number that the bytes have for the core
  module _ (number at p : ℕ) {c : RoutineCall} (named : call_of number at p ≡ Some c) (h : taken_from s c ≢ 0) where
    there : target c ≡ at
    there = sym (ap (λ (d : Option RoutineCall). target_in d at) named) ∙ named_target number at p

    pub one_counted : table_after t s c ≡ counted t (taken_from s c) at
    one_counted = (taken_entry c h).0 ∙ ap (counted t (taken_from s c)) there

    pub in_table : (taken_from s c ≤ max_cores) × (at < max_cores)
    in_table = ((taken_entry c h).2, omega (arith, (taken_entry c h).1, there))

none_number : (from : Option CoreId) → is_some from ≡ false → holder_number from ≡ 0
none_number None e = refl
none_number (Some k) e = absurd (clash refl e)

some_number : (from : Option CoreId) → is_some from ≡ true → holder_number from ≢ 0
some_number None e = absurd (clash e refl)
some_number (Some k) e = λ z. omega (arith, z)

-- the same of what a step answers
module _
    (b : List ℕ) {active holder : List ℕ} {c : RoutineCall} {o : Stepped} {b' active' holder' : List ℕ} {g' : Option Ranking}
    (t : Handovers) (number at p : ℕ) (named : call_of number at p ≡ Some c)
    (went : Went (routines_in b active holder) c o b' active' holder' g')
    (from : Option CoreId) (held : holder_number from ≡ from_in o) where
  from_is : holder_number from ≡ taken_from (routines_in b active holder) c
  from_is = held ∙ went.says.1

  pub kept_by : {t' : Handovers} → is_some from ≡ false → t' ≡ t → t' ≡ table_after t (routines_in b active holder) c
  kept_by e et = et ∙ sym (none_counted t (routines_in b active holder) c (sym from_is ∙ none_number from e))

  module _ (h : is_some from ≡ true) where
    some : taken_from (routines_in b active holder) c ≢ 0
    some z = some_number from h (from_is ∙ z)

    pub count_fits : (holder_number from ≤ max_cores) × (at < max_cores)
    count_fits = let (few, inside) = in_table t (routines_in b active holder) number at p named some in (omega (arith, from_is, few), inside)

    pub raised_by : {t' : Handovers} → t' ≡ counted t (holder_number from) at → t' ≡ table_after t (routines_in b active holder) c
    raised_by et =
        et ∙ ap (λ (x : ℕ). counted t x at) from_is ∙ sym (one_counted t (routines_in b active holder) number at p named some)

-- ---- one more call

pub simulate_none :
    (list answers table : List ℕ) (s : Routines) {t : Handovers} → room_for list answers ≡ true → t ≡ table_in table →
    RunTo read_call routines_machine list answers (counting s (table_in table)) answers (counting s t) 0
simulate_none list answers table s room e =
    rw e
    (run_none read_call routines_machine list answers (counting s (table_in table)) (room_whole list answers room)
    (room_enough list answers room))

pub simulate_more :
    {list answers₀ answers answers' : List ℕ} {x₀ : Counting} {counts counts' : Handovers} {i : ℕ} (b : List ℕ) {active holder : List ℕ}
    {c : RoutineCall} {o : Stepped} {n id y : ℕ} {b' active' holder' : List ℕ} {g' : Option Ranking} →
    RunTo read_call routines_machine list answers₀ x₀ answers (counting (routines_in b active holder) counts) i → i < length list →
    read_at read_call list i ≡ c ∷ [] → Went (routines_in b active holder) c o b' active' holder' g' →
    OutcomeSays (outcome_in o) n id y → answers' ≡ sets answers i (n ∷ (word id ++ word y)) →
    counts' ≡ table_after counts (routines_in b active holder) c →
    RunTo read_call routines_machine list answers₀ x₀ answers' (counting (routines_in b' active' holder') counts') (i + command_size)
simulate_more b {o = o} t h read went told ea ec =
    let said = says_same (outcome_in o) told went.says.0 in
    run_more t h read (rw (went.state_is, ec) refl) ea (same_bytes_lem said)

-- ---- the whole list

module _ (b active holder list answers table : List ℕ) where
  pub no_run :
      fits_simulate b active holder list answers table ≡ false →
      DoesSimulate no_count b active holder answers table (simulate_call b active holder list answers table)
  unfolding simulate_call
  no_run e = rw e ((refl, refl, refl, refl), refl, refl)

  pub simulate_done :
      fits_simulate b active holder list answers table ≡ true →
      {count r : ℕ} {b' active' holder' b'' active'' holder'' answers' table' : List ℕ} {counts : Handovers} →
      Ran read_call routines_machine list answers (counting (routines_in b active holder) (table_in table)) count answers'
      (counting (routines_in b' active' holder') counts) → r ≡ count →
      b' ≡ state_bytes (routines_in b' active' holder').controller → table' ≡ table_words counts → b'' ≡ b' → active'' ≡ active' →
      holder'' ≡ holder' → DoesSimulate r b'' active'' holder'' answers' table' (simulate_call b active holder list answers table)
  unfolding simulate_call
  simulate_done e ran counted whole et eb ea eh =
      let end = ap (λ (x : Counting). x.routines) ran.state in
      let bytes = whole ∙ ap (λ (x : Routines). state_bytes x.controller) end in
      let actives = ap (λ (x : Routines). x.active) end in
      let holders = ap (λ (x : Routines). x.holder) end in
      rw e ((counted ∙ ran.count, eb ∙ bytes, ea ∙ actives, eh ∙ holders), ran.written, et ∙ ap (λ (x : Counting). table_words x.table) ran.state)
