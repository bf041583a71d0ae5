-- What changes a pending flag and a core's configured priority: a request stays pending from its own accepted trigger to its own
-- accepted complete (`PendingChanges`), and only an accepted claim or set core priority on a core changes that core's configured
-- priority (`ConfiguredChanges`). Settling changes neither, so that the row of an accepted command decides. Assumes nothing.
use Prim.Native.Nat.{ℕ, suc}
use mathlib.Core.Path.{◌≡◌, refl, ◌∙◌, ap}
use mathlib.Core.Bool.{cond}
use lib.Dec.{eqb}
use borrow.Author.Tests.{eq-eqb, ne_eqb}
use Rattle.model.specs.declared.Source.{Source}
use Rattle.model.specs.declared.Core.{Core}
use Rattle.model.specs.declared.Controller.{Controller}
use Rattle.model.specs.declared.Command.{Command}
use Rattle.model.specs.Records.{source_at, core_at}
use Rattle.model.specs.Settling.{settle}
use Rattle.model.specs.Commands.{effect, refusal, settled, after_refusal, refused, execute}
use Rattle.model.specs.Statements.{source_in, core_in, PendingChanges, ConfiguredChanges}
use Rattle.settling.proofs.Keeps.{kept_pending, kept_core_configured, settling_leaves_bare}
use Rattle.effects.proofs.Accepted.{by_answer}
use Rattle.effects.proofs.Dropped.{beside, drop_read}
use Rattle.theorems.proofs.Rows.{rows_met}

-- What settling and refusals keep is after a command what the effect makes of it, or what it was if the command is refused.
module _ {A : Type 0} (read : Controller → A) (kept : (f : ℕ) (s : Controller) → read (settle f s) ≡ read s)
    (stays : (s : Controller) (c : Command) (number : ℕ) → read (after_refusal s c number) ≡ read s) where
  read_execute :
      (s : Controller) (c : Command) (after : A) → (refusal s c ≡ 0 → read (effect s c) ≡ after) →
      read (execute s c).state ≡ cond (eqb (refusal s c) 0) after (read s)
  unfolding settled refused
  read_execute s c after h =
      by_answer s c (λ a. read a.state ≡ cond (eqb (refusal s c) 0) after (read s))
      (λ e. rw (eq-eqb (refusal s c) 0 e) (kept _ _ ∙ h e))
      (λ n. rw (ne_eqb (refusal s c) 0 n) (stays s c (refusal s c)))

pub pending_changes : PendingChanges
pending_changes s c i =
    read_execute (λ x. (source_at x i).pending) (λ f x. kept_pending x (settle f x) (settling_leaves_bare f x) i)
    (λ x d number. drop_read (λ (r : Source). r.pending) (λ y r. refl) x d number i) s c
    (source_in c (suc i) (source_at s i)).pending
    (λ e. ap (λ (r : Source). r.pending) ((rows_met s c e).sources i))

pub configured_changes : ConfiguredChanges
configured_changes s c k =
    read_execute (λ x. (core_at x k).configured) (λ f x. kept_core_configured x (settle f x) (settling_leaves_bare f x) k)
    (λ x d number. beside (λ t. (core_at t k).configured) x (λ l. refl) d number) s c
    (core_in c k (core_at s k)).configured
    (λ e. ap (λ (d : Core). d.configured) ((rows_met s c e).cores k))
