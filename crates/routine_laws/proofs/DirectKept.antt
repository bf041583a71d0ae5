-- The four commands keep the simulation sound: no core goes over to another request. Assumes nothing.
use Prim.Native.Nat.{ℕ, suc, pred, ◌<◌, ◌≤◌}
use mathlib.Core.Path.{◌≡◌, refl, sym, ◌∙◌, ap}
use mathlib.Core.Logic.{◌≢◌}
use mathlib.Core.List.{List}
use mathlib.Core.Bool.{Bool, true, false, not, ◌&&◌}
use lib.ListN.{length, get_or, set, length-set}
use lib.Seq.{get_or-set_other}
use native.Mathlib.Omega.{arith}
use native.Mathlib.Decide.{ℕ_discrete}
use Rattle.lists.proofs.Bools.{clash, refuted}
use Rattle.lists.proofs.Writes.{read_set}
use Rattle.model.specs.declared.SourceId.{SourceId}
use Rattle.model.specs.declared.Source.{Source}
use Rattle.model.specs.Records.{max_sources, index_of, with_configured, with_mask, opened, source_at}
use Rattle.model.specs.Requests.{boxed, claimed}
use Rattle.model.specs.Commands.{source_after, refusal, execute}
use Rattle.model.proofs.Claims.{claimed_out}
use Rattle.effects.proofs.Checked.{SourceChecked, accepted, named_index}
use Rattle.effects.proofs.Kept.{well_formed-kept}
use Rattle.routines.specs.declared.Routines.{Routines}
use Rattle.routines.specs.declared.DirectAction.{DirectAction}
use Rattle.routines.specs.declared.DirectAction.TheVariants.{SetPriority, Mask, Unmask, Trigger}
use Rattle.routines.specs.Routines.{active_at, holder_at, active_index, routines_with, Runs, SoundRoutines, action_of, command_of, holder_after}
use Rattle.routines.specs.Routines.{commanded}
use Rattle.routine_laws.proofs.After.{SourceStep, source_step}
use Rattle.routine_laws.proofs.Standing.{running, same_core, idle_at_zero, active_le}
use Rattle.routine_laws.proofs.Switch.{Stays, TakenBy, switch_sound}

-- With record r written at index at, and these last holders: the source there is claimed if it was, and then its request and its last
-- holder are the same.
record Same (s : Routines) (at : ℕ) (r : Source) (holders : List ℕ) : Type 0 where
  pub same_claimed :
      r.pending && r.delivered && not (boxed s.controller.cores s.controller.m (suc at)) ≡ claimed s.controller at
  pub same_priority : claimed s.controller at ≡ true → r.priority ≡ (source_at s.controller at).priority
  pub same_holder : claimed s.controller at ≡ true → get_or holders at 0 ≡ holder_at s at
  pub others : (i : ℕ) → i ≢ at → get_or holders i 0 ≡ holder_at s i
  pub long : length holders ≡ max_sources
  pub inside : (i : ℕ) → i < max_sources → get_or holders i 0 ≤ s.controller.m

module _ (s : Routines) (sound : SoundRoutines s) (at : ℕ) (at_in : at < s.controller.n) where
  abbrev q : Source
  q = source_at s.controller at

  -- another configured priority, another mask: the request is the same
  set_same : (p : ℕ) (b : Bool) → Same s at (with_mask b (with_configured p q)) s.holder
  set_same p b =
      record {
        same_claimed = refl;
        same_priority = λ u. refl;
        same_holder = λ u. refl;
        others = λ i u. refl;
        long = sound.holder_length;
        inside = sound.holders_in_range;
      }

  -- an idle source has no claimed request
  opened_same : q.pending ≡ false → Same s at (opened q) (set s.holder at 0)
  opened_same idle =
      let free : claimed s.controller at ≡ false =
      refuted (claimed s.controller at) (λ p. clash (claimed_out s.controller at p).0 idle) in
      let fits : at < length s.holder = omega (arith, sound.controller.consistent.n_le, sound.holder_length) in
      record {
        same_claimed = sym free;
        same_priority = λ u. clash u free;
        same_holder = λ u. clash u free;
        others = λ i u. get_or-set_other s.holder at i 0 0 u;
        long = length-set s.holder at 0 ∙ sound.holder_length;
        inside = λ i l.
            read_set (λ x. x ≤ s.controller.m) s.holder at i 0 0 fits (λ u. omega arith) (λ u. sound.holders_in_range i l);
      }

  same :
      (a : DirectAction) → SourceChecked s.controller at (action_of a) →
      Same s at (source_after (action_of a) q) (holder_after a at s.holder)
  same (SetPriority p) h = set_same p q.masked
  same Mask h = set_same q.configured true
  same Unmask h = set_same q.configured false
  same Trigger idle = opened_same idle

module _ (s : Routines) (sound : SoundRoutines s) (id : SourceId) (a : DirectAction)
    (e : refusal s.controller (command_of id a) ≡ 0) where
  abbrev r : Source
  r = source_after (action_of a) (source_at s.controller (index_of id))

  abbrev u : Routines
  u = routines_with (execute s.controller (command_of id a)).state s.active (holder_after a (index_of id) s.holder)

  facts : Same s (index_of id) r u.holder
  facts = let (w, (h, g)) = accepted s.controller (command_of id a) e in same s sound (index_of id) (named_index s.controller id h) a g

  x : SourceStep s.controller u.controller (index_of id) r
  x = source_step s.controller id (action_of a) e

  claimed_same : (i : ℕ) → i < s.controller.n → claimed u.controller i ≡ claimed s.controller i
  claimed_same i l = go (ℕ_discrete i (index_of id))
    where
      go : Dec (i ≡ index_of id) → claimed u.controller i ≡ claimed s.controller i
      go (yes d) = rw d (x.claimed_here ∙ facts.same_claimed)
      go (no d) = x.claimed_other i l d

  stays : (i : ℕ) → i < s.controller.n → claimed s.controller i ≡ true → Stays s u i
  stays i l q = go (ℕ_discrete i (index_of id))
    where
      go : Dec (i ≡ index_of id) → Stays s u i
      go (yes d) =
          record {
            is_claimed = claimed_same i l ∙ q;
            same_priority = rw d (x.priority_here ∙ facts.same_priority (rw d at q));
            same_holder = rw d (facts.same_holder (rw d at q));
          }
      go (no d) =
          record { is_claimed = claimed_same i l ∙ q; same_priority = x.priority i d; same_holder = facts.others i d }

  some : 0 < s.controller.m
  some = sound.controller.consistent.some_core

  runs_on : (i : ℕ) → suc i ≡ active_at s 0 → Runs s i 0
  runs_on i q =
      let r : Runs s (active_index s 0) 0 = running s sound 0 some (λ z. absurd (omega (arith, z, q))) in
      let is : active_index s 0 ≡ i = ap pred (sym q) in
      rw is at r

  id_of : 1 ≤ active_at s 0 → suc (active_index s 0) ≡ active_at s 0
  id_of h = let is : suc (pred (active_at s 0)) ≡ active_at s 0 = omega arith in is

  taken : (i : ℕ) → suc i ≡ active_at s 0 → TakenBy u i 0
  taken i q =
      let r : Runs s i 0 = runs_on i q in
      let st : Stays s u i = stays i r.source_in r.is_claimed in
      record {
        is_claimed = st.is_claimed;
        at_priority = x.configured 0 ∙ sound.runs_at_its_priority i 0 r ∙ sym st.same_priority;
        held = st.same_holder ∙ sound.runs_where_held i 0 r;
      }

  pub commanded_kept : SoundRoutines (commanded s id a).state
  unfolding commanded
  commanded_kept =
      switch_sound {k = 0} {a = active_at s 0} sound (
      record {
        is_well_formed = well_formed-kept s.controller (command_of id a) sound.controller;
        n_same = x.n_same;
        m_same = x.m_same;
        core_in = some;
        active_length = sound.active_length;
        holder_length = facts.long;
        here = refl;
        id_le = active_le s sound 0 some;
        none = λ q. x.configured 0 ∙ idle_at_zero s sound 0 some q;
        taken = taken;
        elsewhere = λ j h. refl;
        apart = λ j l h q z. h (same_core s sound (active_index s 0) 0 j (runs_on (active_index s 0) (id_of q)) l (z ∙ sym (id_of q)));
        configured = λ j h. x.configured j;
        claimed_before = λ i l h q. (sym (claimed_same i l) ∙ q, h);
        stays = λ i l q h. stays i l q;
        holders_in_range = facts.inside;
      })
