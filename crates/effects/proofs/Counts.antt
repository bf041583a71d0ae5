-- The counts of dropped triggers. Assumes nothing.
--   accepted_count     an accepted command leaves every count
--   undropped          what is answered by another number than 6 drops nothing
--   refused_count      a refused one counts one more, held, exactly where it is a trigger that 6 refuses
--   dropped_changes    so the counts tell such answers (`DroppedChanges`)
--   fresh_count        a fresh state has counted none
--   history_counted    of a behaviour that changes them so, each count is the number of such answers in the run (`DroppedIsHistory`)
use Prim.Native.Nat.{ℕ, zero, suc, pred, ◌+◌, ◌*◌, ◌<◌, min}
use mathlib.Core.Path.{◌≡◌, refl, sym, ◌∙◌, ap}
use mathlib.Core.Logic.{◌≢◌}
use mathlib.Core.List.{List, [], ◌∷◌}
use mathlib.Core.Bool.{Bool, true, false, not, cond, and-true, and-false}
use lib.ListN.{length, get_or, replicate}
use native.Mathlib.Omega.{arith}
use borrow.Author.Tests.{eq-eqb, ne_eqb}
use Rattle.lists.specs.Numbers.{between, one_more_up_to}
use Rattle.lists.proofs.Held.{held_by_lem}
use Rattle.lists.proofs.Writes.{read_kept, read_written}
use Rattle.model.specs.declared.SourceId.{SourceId}
use Rattle.model.specs.declared.Source.{Source}
use Rattle.model.specs.declared.Controller.{Controller}
use Rattle.model.specs.declared.Command.{Command}
use Rattle.model.specs.declared.Command.TheVariants.{OnSource, OnCore}
use Rattle.model.specs.declared.SourceAction.{SourceAction}
use Rattle.model.specs.declared.SourceAction.TheVariants.{SetSourcePriority, Mask, Unmask, Trigger, Redeliver, Complete}
use Rattle.model.specs.Records.{most_dropped, no_source, reset_source, index_of, dropped_one, max_sources, source_at, reset}
use Rattle.model.specs.Behaviours.{Behaviour, run_by, answers_by}
use Rattle.model.specs.Priorities.{top_priority}
use Rattle.model.specs.Requests.{claimed}
use Rattle.model.specs.Settling.{settle}
use Rattle.model.specs.Commands.{bad_priority, already_pending, not_claimed, priority_in_use, unless, source_after, effect, source_refusal}
use Rattle.model.specs.Commands.{refusal, drop_counted, after_refusal, settled, refused, execute}
use Rattle.model.specs.Ledger.{paired, entries_by}
use Rattle.model.specs.Drops.{is_trigger, drops, drops_in}
use Rattle.model.specs.Statements.{DroppedChanges, DroppedIsHistory}
use Rattle.settling.proofs.Keeps.{settling_leaves_bare, kept_dropped}
use Rattle.effects.proofs.Accepted.{execute_accepted, by_answer}
use Rattle.effects.proofs.Checked.{passed_to}
use Rattle.effects.proofs.Dropped.{by_refusal, core_kept, drops_checked}

abbrev count : Source → ℕ
count r = r.dropped

-- ---- an accepted command

after_count : (a : SourceAction) (r : Source) → count (source_after a r) ≡ count r
after_count (SetSourcePriority p) r = refl
after_count Mask r = refl
after_count Unmask r = refl
after_count Trigger r = refl
after_count Redeliver r = refl
after_count Complete r = refl

effect_count : (s : Controller) (c : Command) (i : ℕ) → count (source_at (effect s c) i) ≡ count (source_at s i)
unfolding effect
effect_count s (OnSource id a) i =
    let r : Source = source_at s (index_of id) in
    read_kept (λ j. count) s.sources (index_of id) i (source_after a r) no_source (after_count a r)
effect_count s (OnCore k a) i = refl

module _ (s : Controller) (c : Command) (i : ℕ) where
  settled_count : (f : ℕ) → count (source_at (settle f (effect s c)) i) ≡ count (source_at s i)
  settled_count f = kept_dropped (effect s c) (settle f (effect s c)) (settling_leaves_bare f (effect s c)) i ∙ effect_count s c i

  pub accepted_count : refusal s c ≡ 0 → (source_at (execute s c).state i).dropped ≡ (source_at s i).dropped
  unfolding settled
  accepted_count e = rw (execute_accepted s c e) (settled_count (2 * (effect s c).m))

-- ---- a refused one

pub undropped : (id : ℕ) (c : Command) (k : ℕ) → k ≢ already_pending → drops id c k ≡ false
undropped id (OnSource x a) k h = rw (ne_eqb k already_pending h, and-false)
undropped id (OnCore core a) k h = refl

-- only a trigger is refused by 6
trigger_alone : (s : Controller) (i : ℕ) (a : SourceAction) → source_refusal s i a ≡ already_pending → is_trigger a ≡ true
trigger_alone s i (SetSourcePriority p) e =
    let (range, later) = passed_to already_pending (between 1 (top_priority s.n) p) bad_priority
    (unless (not (source_at s i).pending) priority_in_use 0) (λ z. omega arith) e in
    let (idle, none) = passed_to already_pending (not (source_at s i).pending) priority_in_use 0 (λ z. omega arith) later in
    absurd (omega (arith, none))
trigger_alone s i Mask e = absurd (omega arith)
trigger_alone s i Unmask e = absurd (omega arith)
trigger_alone s i Trigger e = refl
trigger_alone s i Redeliver e = absurd (omega (arith, (passed_to already_pending (claimed s i) not_claimed 0 (λ z. omega arith) e).1))
trigger_alone s i Complete e = absurd (omega (arith, (passed_to already_pending (claimed s i) not_claimed 0 (λ z. omega arith) e).1))

module _ (s : Controller) (i : ℕ) where
  abbrev counted : Bool → ℕ
  counted b = cond b (one_more_up_to most_dropped (count (source_at s i))) (count (source_at s i))

  dropped_count : (id : SourceId) (a : SourceAction) (k : ℕ) → k ≡ already_pending → refusal s (OnSource id a) ≡ k →
      count (source_at (drop_counted s (OnSource id a)) i) ≡ counted (drops (suc i) (OnSource id a) k)
  dropped_count id a k six e =
      let (w, (some, le), last) = drops_checked s id a (e ∙ six) in
      let at : ℕ = pred id.0 in
      let fits : pred id.0 < length s.sources = omega (arith, w.consistent.sources_length, w.consistent.n_le) in
      let here = read_written (λ j. count) s.sources at i (dropped_one (source_at s at)) no_source fits
      id.0 (suc i) (λ p. omega arith, λ p. omega arith)
      {v = one_more_up_to most_dropped (count (source_at s i))} {u = count (source_at s i)}
      (λ p. ap (λ j. one_more_up_to most_dropped (count (source_at s j))) p) refl in
      rw (trigger_alone s (index_of id) a last, eq-eqb k already_pending six, and-true) (sym here)

  -- the number may be that of checks which refuse more, but not by 6
  pub refused_count : (c : Command) (k : ℕ) → (k ≡ already_pending → refusal s c ≡ k) →
      let before = (source_at s i).dropped in
      (source_at (after_refusal s c k) i).dropped ≡ cond (drops (suc i) c k) (one_more_up_to most_dropped before) before
  refused_count (OnSource id a) k is =
      let c : Command = OnSource id a in
      by_refusal s c k (λ t. count (source_at t i) ≡ counted (drops (suc i) c k))
      (λ h. ap counted (sym (undropped (suc i) c k h))) (λ six. dropped_count id a k six (is six))
  refused_count (OnCore core a) k is = ap (λ t. count (source_at t i)) (core_kept s core a k)

pub dropped_changes : DroppedChanges execute
unfolding settled refused
dropped_changes s c i =
    by_answer s c (λ a. count (source_at a.state i) ≡ counted s i (drops (suc i) c a.number))
    (λ e. settled_count s c i (2 * (effect s c).m) ∙ ap (counted s i) (sym (undropped (suc i) c 0 (λ z. omega arith))))
    (λ h. refused_count s i c (refusal s c) (λ six. refl))

-- ---- a run

module _ (x : Behaviour) (changes : DroppedChanges x) (i : ℕ) where
  -- from a state that has counted some already
  run_counted : (cs : List Command) (s : Controller) (already : ℕ) → count (source_at s i) ≡ min most_dropped already →
      count (source_at (run_by x s cs) i) ≡ min most_dropped (already + drops_in (suc i) (entries_by x s cs))
  unfolding run_by answers_by paired drops_in
  run_counted [] s already e = e ∙ ap (min most_dropped) (omega arith)
  run_counted (c ∷ cs) s already e =
      let b : Bool = drops (suc i) c (x s c).number in
      run_counted cs (x s c).state (already + cond b 1 0) (changes s c i ∙ held_by_lem most_dropped (count (source_at s i)) already e b) ∙
      ap (min most_dropped) (omega arith)

blank : (size i : ℕ) → count (get_or (replicate size reset_source) i no_source) ≡ 0
blank zero i = refl
blank (suc size) zero = refl
blank (suc size) (suc i) = blank size i

pub fresh_count : (n m i : ℕ) → (source_at (reset n m) i).dropped ≡ 0
fresh_count n m i = blank max_sources i

pub history_counted : (x : Behaviour) → DroppedChanges x → DroppedIsHistory x
history_counted x changes n m cs i =
    run_counted x changes i cs (reset n m) 0 (fresh_count n m i) ∙ ap (min most_dropped) (omega arith)

pub dropped_is_history : DroppedIsHistory execute
dropped_is_history = history_counted execute dropped_changes
