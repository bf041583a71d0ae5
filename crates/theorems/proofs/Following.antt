-- From a fresh controller a pending request's priority is its source's, in the state (`PriorityFollowsSource`) and in the ledger
-- (`LedgerFollowsSource`): a trigger copies it, and set source priority finds no request. Assumes nothing.
--   acted          the record that an accepted action leaves
--   follows_kept   one command, and follows_run a list of them, of any one source
use Prim.Native.Nat.{ℕ, suc, pred, ◌*◌, ◌<◌}
use mathlib.Core.Path.{◌≡◌, refl, sym, ap, subst, ◌∙◌}
use mathlib.Core.List.{List, [], ◌∷◌}
use mathlib.Core.Bool.{Bool, true, false, cond}
use native.Mathlib.Omega.{arith}
use lib.Dec.{eqb}
use borrow.Author.Tests.{eqb-true}
use Rattle.lists.proofs.Bools.{Flag, on, off, flag, clash}
use Rattle.model.specs.declared.Source.{Source}
use Rattle.model.specs.declared.Controller.{Controller}
use Rattle.model.specs.declared.Command.{Command}
use Rattle.model.specs.declared.Command.TheVariants.{OnSource, OnCore}
use Rattle.model.specs.declared.SourceAction.{SourceAction}
use Rattle.model.specs.declared.SourceAction.TheVariants.{SetSourcePriority, Mask, Unmask, Trigger, Redeliver, Complete}
use Rattle.model.specs.Records.{index_of, source_at, reset}
use Rattle.model.specs.Commands.{effect, refusal, settled, after_refusal, refused, execute, run}
use Rattle.model.specs.Behaviours.{run_by}
use Rattle.model.specs.Settling.{settle}
use Rattle.model.specs.Ledger.{Ledger, opening, ledger, request_priority, entries}
use Rattle.model.specs.Statements.{source_row, source_in, Follows, PriorityFollowsSource, FollowsIn, LedgerFollowsSource}
use Rattle.settling.specs.Phases.{Kept}
use Rattle.settling.proofs.Keeps.{kept_pending, kept_priority, kept_configured, settling_leaves_bare}
use Rattle.well_formed.proofs.Reset.{source_reset, reset-well_formed}
use Rattle.effects.proofs.Accepted.{by_answer}
use Rattle.effects.proofs.Dropped.{drop_read}
use Rattle.effects.proofs.Checked.{SourceChecked, Checked, by_index, accepted}
use Rattle.theorems.specs.Matches.{Matches}
use Rattle.theorems.proofs.Rows.{rows_met}
use Rattle.theorems.proofs.Requests.{pending_priority}
use Rattle.theorems.proofs.DemandThree.{opening_matches, run_matches}

-- ---- one command

acted :
    (s : Controller) (i : ℕ) (a : SourceAction) → SourceChecked s i a → Follows (source_at s i) → Follows (source_row a (source_at s i))
acted s i (SetSourcePriority p) (range, idle) f e = clash e idle
acted s i Mask h f e = f e
acted s i Unmask h f e = f e
acted s i Trigger h f e = refl
acted s i Redeliver h f e = f e
acted s i Complete h f e = clash e refl

rowed : (s : Controller) (c : Command) → Checked s c → (i : ℕ) → Follows (source_at s i) → Follows (source_in c (suc i) (source_at s i))
rowed s (OnSource id a) (named, checks) i f = go (eqb id.0 (suc i)) refl
  where
    go : (b : Bool) → eqb id.0 (suc i) ≡ b → Follows (cond b (source_row a (source_at s i)) (source_at s i))
    go true e =
        let here : index_of id ≡ i = ap pred (eqb-true id.0 (suc i) e) in
        acted s i a (subst (λ j. SourceChecked s j a) here checks) f
    go false e = f
rowed s (OnCore k a) h i f = f

-- what settling keeps
settle_follows : (f : ℕ) (s : Controller) (i : ℕ) → Follows (source_at s i) → Follows (source_at (settle f s) i)
settle_follows f s i follows e =
    let kept : Kept s (settle f s) = settling_leaves_bare f s in
    kept_priority s (settle f s) kept i ∙
    follows (sym (kept_pending s (settle f s) kept i) ∙ e) ∙ sym (kept_configured s (settle f s) kept i)

-- and what a refusal keeps
refused_follows :
    (s : Controller) (c : Command) (number i : ℕ) → Follows (source_at s i) → Follows (source_at (after_refusal s c number) i)
refused_follows s c number i follows e =
    drop_read (λ (r : Source). r.priority) (λ x r. refl) s c number i ∙
    follows (sym (drop_read (λ (r : Source). r.pending) (λ x r. refl) s c number i) ∙ e) ∙
    sym (drop_read (λ (r : Source). r.configured) (λ x r. refl) s c number i)

module _ (s : Controller) (c : Command) (i : ℕ) (f : Follows (source_at s i)) where
  effect_follows : refusal s c ≡ 0 → Follows (source_at (effect s c) i)
  effect_follows e = rw ((rows_met s c e).sources i) (rowed s c (accepted s c e).1 i f)

  follows_kept : Follows (source_at (execute s c).state i)
  unfolding settled refused
  follows_kept =
      by_answer s c (λ a. Follows (source_at a.state i))
      (λ e. settle_follows (2 * (effect s c).m) (effect s c) i (effect_follows e))
      (λ h. refused_follows s c (refusal s c) i f)

-- ---- a list of commands

follows_run : (s : Controller) (cs : List Command) (i : ℕ) → Follows (source_at s i) → Follows (source_at (run s cs) i)
unfolding run_by
follows_run s [] i f = f
follows_run s (c ∷ cs) i f = follows_run (execute s c).state cs i (follows_kept s c i f)

pub priority_follows_source : PriorityFollowsSource execute
priority_follows_source n m cs R i h =
    follows_run (reset n m) cs i (rw (source_reset n m i (omega arith)) (λ e. clash e refl))

-- ---- the ledger

-- where it matches the state
matched_follows :
    (n m : ℕ) (b : Ledger) (s : Controller) → Matches n m b s → (i : ℕ) → i < n → Follows (source_at s i) → FollowsIn b (suc i)
matched_follows n m b s M i h f some = go (flag (source_at s i).pending)
  where
    go : Flag (source_at s i).pending → request_priority b (suc i) ≡ b.configured (suc i)
    go (on e) = pending_priority n m b s M i h e ∙ f e ∙ sym (M.configured i h)
    go (off e) = absurd (some (M.request i h ∙ rw e))

pub ledger_follows_source : LedgerFollowsSource execute
ledger_follows_source n m cs R id some in-n =
    let (W, M) = run_matches n m opening (reset n m) cs (reset-well_formed n m R) (opening_matches n m R) in
    by_index (FollowsIn (ledger opening (entries (reset n m) cs)))
    (λ i h. matched_follows n m _ (run (reset n m) cs) M i h (priority_follows_source n m cs R i h)) id (some, in-n)
