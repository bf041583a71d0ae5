-- What the two phases of settling find in a state's bytes, and what they leave. Helpers of contracts; nothing here needs to be believed.
--   soiled_all u       u with every filled box dirty, as set core priority leaves it; the bytes hold u, since the mark is in no answer
--   Soiled, Emptied       before and after the retractions
--   Undelivered, Delivered    before and after the deliveries
--   Settled               after both
use Rattle.std.specs.Prelude.{ℕ, ◌*◌, ◌≤◌, ◌≡◌, List, map, false}
use Rattle.model.specs.declared.Controller.{Controller}
use Rattle.model.specs.Records.{core_at, with_cores}
use Rattle.model.specs.WellFormed.{Consistent}
use Rattle.model.specs.Settling.{settle, cycles_of}
use Rattle.model.specs.Commands.{soiled}
use Rattle.settling.specs.Phases.{Delivering}
use Rattle.settling.specs.Runs.{AfterRetractions, AfterDeliveries}
use Rattle.layout.specs.Bytes.{state_from}
use Rattle.in_place.specs.declared.Ranking.{Ranking}
use Rattle.in_place.specs.Held.{Held}

abbrev pub soiled_all : Controller → Controller
soiled_all u = with_cores u (map soiled u.cores)

-- No box is dirty, also past the last core.
abbrev pub AllClean : Controller → Type 0
AllClean u = (k : ℕ) → (core_at u k).message.dirty ≡ false

pub record Soiled (b : List ℕ) (g : Ranking) : Type 0 where
  pub held : Held (state_from b) b g
  pub clean : AllClean (state_from b)
  pub consistent : Consistent (soiled_all (state_from b))

pub record Emptied (b : List ℕ) (x : ℕ) (b' : List ℕ) (g' : Ranking) : Type 0 where
  pub held : Held (state_from b') b' g'
  pub after : AfterRetractions (soiled_all (state_from b)) (state_from b') x

pub record Undelivered (b : List ℕ) (g : Ranking) : Type 0 where
  pub held : Held (state_from b) b g
  pub consistent : Consistent (state_from b)
  pub delivering : Delivering (state_from b)

pub record Delivered (b : List ℕ) (x : ℕ) (b' : List ℕ) (g' : Ranking) : Type 0 where
  pub held : Held (state_from b') b' g'
  pub after : AfterDeliveries (state_from b) (state_from b') x
  pub few : x ≤ (state_from b).m

pub record Settled (s : Controller) (x : ℕ) (b' : List ℕ) (g' : Ranking) : Type 0 where
  pub held : Held (settle (2 * s.m) s) b' g'
  pub cycles_are : x ≡ cycles_of (2 * s.m) s
