-- What holds between a command's own effect and the end of its settling. Helpers of proofs; nothing here needs to be believed.
--   Phase s          every filled box is dirty, or none is and the covered priorities are settled
--   Kept s s'        s' differs from s in boxes and delivered marks only
--   Strict s         sound but for its last layer: what settling ends in, whichever of several least cores a delivery takes
--   Ended s f r d    f cycles from s end in such a state, at rest, with at most r retractions and d deliveries, and no request
--                    claimed or let go
--   Spared s         the last layer holds once no box is dirty, as it does from one cycle to the next
--   Settles s        what settling a state in one of the phases gives
use Rattle.std.specs.Prelude.{ℕ, ◌*◌, ◌<◌, ◌≤◌, ◌≡◌, true}
use Rattle.model.specs.declared.Controller.{Controller}
use Rattle.model.specs.declared.Cycle.TheVariants.{Rest}
use Rattle.model.specs.Records.{core_at, bare}
use Rattle.model.specs.Requests.{current_priority, claimed}
use Rattle.model.specs.WellFormed.{Consistent, Clean, Quiet, Frugal}
use Rattle.model.specs.Settling.{next, settle, is_retraction, is_delivery, count_of}

-- Every filled box is dirty, as after set core priority.
abbrev pub AllDirty : Controller → Type 0
AllDirty s = (k : ℕ) → k < s.m → (core_at s k).message.filled ≡ true → (core_at s k).message.dirty ≡ true

-- No box is dirty, and no configured priority under a filled box is above a current one.
pub record Delivering (s : Controller) : Type 0 where
  pub clean : Clean s
  pub covered :
      (j k : ℕ) → j < s.m → k < s.m → (core_at s j).message.filled ≡ true → (core_at s j).configured ≤ current_priority (core_at s k)

pub data Phase (s : Controller) : Type 0 where
  retracting : AllDirty s → Phase s
  delivering : Delivering s → Phase s

abbrev pub Kept : Controller → Controller → Type 0
Kept s s' = bare s' ≡ bare s

pub record Strict (s : Controller) : Type 0 where
  pub consistent : Consistent s
  pub clean : Clean s
  pub quiet : Quiet s

pub record Ended (s : Controller) (f r d : ℕ) : Type 0 where
  pub strict : Strict (settle f s)
  pub rests : next (settle f s) ≡ Rest
  pub retractions : count_of is_retraction f s ≤ r
  pub deliveries : count_of is_delivery f s ≤ d
  pub claimed_kept : (i : ℕ) → i < s.n → claimed (settle f s) i ≡ claimed s i

abbrev pub Spared : Controller → Type 0
Spared s = Clean s → Frugal s

abbrev pub Settles : Controller → Type 0
Settles s = Ended s (2 * s.m) s.m s.m

-- ---- statements

abbrev pub PhasesSettle : Type 0
PhasesSettle = (s : Controller) → Consistent s → Phase s → Settles s

-- A run of cycles from such a state comes to one whose last layer holds, as soon as no box is dirty. This is where the tie between cores
-- counts; `Settles` holds whichever of them is taken.
abbrev pub PhasesSpare : Type 0
PhasesSpare = (s : Controller) → Consistent s → Phase s → Spared s → (f : ℕ) → Spared (settle f s)
