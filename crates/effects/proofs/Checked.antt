-- What the checks say of the state and of a command's arguments if it is accepted. Assumes nothing.
--   InTop top p     p is 1 to top
--   Named s id      id is 1 to n
--   Checked s c     what the checks of command c say of its arguments, in their order; of its subject SourceChecked, CoreChecked
--   by_index        from the indices of sources to their ids
--   passed_to       what a number says of the first check, if it isn't its own; passed: what 0 says
--   checked         they say it of a command that they don't refuse
--   accepted        a command that is not refused finds a sound state besides
use Prim.Native.Nat.{ℕ, zero, suc, pred, ◌<◌, ◌≤◌}
use mathlib.Core.Path.{◌≡◌, refl}
use mathlib.Core.Logic.{◌≢◌}
use mathlib.Core.Bool.{Bool, true, false, not}
use lib.Dec.{leb}
use native.Mathlib.Omega.{arith}
use borrow.Author.Tests.{ltb-true, leb-true, not-true}
use Rattle.model.specs.declared.SourceId.{SourceId}
use Rattle.model.specs.declared.Controller.{Controller}
use Rattle.model.specs.declared.Command.{Command}
use Rattle.model.specs.declared.Command.TheVariants.{OnSource, OnCore}
use Rattle.model.specs.declared.SourceAction.{SourceAction}
use Rattle.model.specs.declared.SourceAction.TheVariants.{SetSourcePriority, Mask, Unmask, Trigger, Redeliver, Complete}
use Rattle.model.specs.declared.CoreAction.{CoreAction}
use Rattle.model.specs.declared.CoreAction.TheVariants.{SetCorePriority, Claim}
use Rattle.model.specs.Records.{index_of, source_at, core_at}
use Rattle.model.specs.Priorities.{top_priority}
use Rattle.model.specs.Requests.{claimed}
use Rattle.lists.specs.Numbers.{between}
use Rattle.model.specs.WellFormed.{well_formed, WellFormed}
use Rattle.model.specs.Commands.{priority_in_use, unless, names_source, names_core, source_refusal, core_refusal, refusal_of, refusal}
use Rattle.lists.proofs.Exact.{between_exact}
use Rattle.well_formed.proofs.Test.{well_formed-out}

abbrev pub InTop : ℕ → ℕ → Type 0
InTop top p = (1 ≤ p) × (p ≤ top)

abbrev pub Named : Controller → SourceId → Type 0
Named s id = InTop s.n id.0

-- of the source at index i, after its id
abbrev pub SourceChecked : Controller → ℕ → SourceAction → Type 0
SourceChecked s i (SetSourcePriority p) = InTop (top_priority s.n) p × ((source_at s i).pending ≡ false)
SourceChecked s i Mask = Unit {0}
SourceChecked s i Unmask = Unit {0}
SourceChecked s i Trigger = (source_at s i).pending ≡ false
SourceChecked s i Redeliver = claimed s i ≡ true
SourceChecked s i Complete = claimed s i ≡ true

-- of core k, after its number
abbrev pub CoreChecked : Controller → ℕ → CoreAction → Type 0
CoreChecked s k (SetCorePriority p) = p ≤ top_priority s.n
CoreChecked s k Claim = (core_at s k).message.filled ≡ true

abbrev pub Checked : Controller → Command → Type 0
Checked s (OnSource id a) = Named s id × SourceChecked s (index_of id) a
Checked s (OnCore k a) = (k.0 < s.m) × CoreChecked s k.0 a

module _ (s : Controller) (id : SourceId) where
  pub named : names_source s id ≡ true → Named s id
  named = (between_exact 1 s.n id.0).0

  pub named_index : Named s id → index_of id < s.n
  named_index h = let lt : pred id.0 < s.n = omega arith in lt

-- what holds of id i + 1 for each index i below n holds of each id from 1 to n
pub by_index : {n : ℕ} (P : ℕ → Type 0) → ((i : ℕ) → i < n → P (suc i)) → (id : ℕ) → InTop n id → P id
by_index P each zero h = absurd (omega arith)
by_index P each (suc i) h = each i (omega arith)

-- checks in a row whose number isn't that of the first have passed it, and the later ones give the number
pub passed_to : (k : ℕ) (b : Bool) (number later : ℕ) → number ≢ k → unless b number later ≡ k → (b ≡ true) × (later ≡ k)
passed_to k true number later other e = (refl, e)
passed_to k false number later other e = absurd (other e)

-- a check that gives no number was passed, and so were the later ones
pub passed : (b : Bool) (number later : ℕ) → unless b (suc number) later ≡ 0 → (b ≡ true) × (later ≡ 0)
passed b number later e = passed_to 0 b (suc number) later (λ z. omega arith) e

-- The numerals are the refusals' numbers, less one.
source_checked : (s : Controller) (i : ℕ) (a : SourceAction) → source_refusal s i a ≡ 0 → SourceChecked s i a
source_checked s i (SetSourcePriority p) e =
    let (here, rest) = passed (between 1 (top_priority s.n) p) 4 (unless (not (source_at s i).pending) priority_in_use 0) e in (
      (between_exact 1 (top_priority s.n) p).0 here,
      not-true (source_at s i).pending (passed (not (source_at s i).pending) 8 0 rest).0,
    )
source_checked s i Mask e = tt
source_checked s i Unmask e = tt
source_checked s i Trigger e = not-true (source_at s i).pending (passed (not (source_at s i).pending) 5 0 e).0
source_checked s i Redeliver e = (passed (claimed s i) 7 0 e).0
source_checked s i Complete e = (passed (claimed s i) 7 0 e).0

core_checked : (s : Controller) (k : ℕ) (a : CoreAction) → core_refusal s k a ≡ 0 → CoreChecked s k a
core_checked s k (SetCorePriority p) e = leb-true p (top_priority s.n) (passed (leb p (top_priority s.n)) 4 0 e).0
core_checked s k Claim e = (passed (core_at s k).message.filled 6 0 e).0

pub checked : (s : Controller) (c : Command) → refusal_of s c ≡ 0 → Checked s c
unfolding refusal_of
checked s (OnSource id a) e =
    let (here, rest) = passed (names_source s id) 3 (source_refusal s (index_of id) a) e in
    (named s id here, source_checked s (index_of id) a rest)
checked s (OnCore k a) e =
    let (here, rest) = passed (names_core s k) 2 (core_refusal s k.0 a) e in
    (ltb-true k.0 s.m here, core_checked s k.0 a rest)

pub accepted : (s : Controller) (c : Command) → refusal s c ≡ 0 → WellFormed s × Checked s c
unfolding refusal
accepted s c e =
    let (sound, checks) = passed (well_formed s) 0 (refusal_of s c) e in (well_formed-out s sound, checked s c checks)
