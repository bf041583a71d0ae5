-- What the two phases of settling come to. Helpers of contracts; nothing here needs to be believed.
--   AfterRetractions s state cycles    state is s after its first cycles, each a retraction, with no box left dirty: the only answer
--   AfterDeliveries s state cycles     state is s once the deliveries are made
use Rattle.std.specs.Prelude.{ℕ, ◌≤◌, ◌≡◌}
use Rattle.model.specs.declared.Controller.{Controller}
use Rattle.model.specs.Settling.{settle, is_retraction, count_of, cycles_of}
use Rattle.model.specs.WellFormed.{Consistent}
use Rattle.settling.specs.Phases.{Delivering}

pub record AfterRetractions (s state : Controller) (cycles : ℕ) : Type 0 where
  pub state_is : state ≡ settle cycles s
  pub each_retracts : count_of is_retraction cycles s ≡ cycles
  pub consistent : Consistent state
  pub delivering : Delivering state
  pub n_same : state.n ≡ s.n
  pub m_same : state.m ≡ s.m
  pub cycles_le : cycles ≤ s.m

abbrev pub AfterDeliveries : Controller → Controller → ℕ → Type 0
AfterDeliveries s state cycles = (f : ℕ) → s.m ≤ f → (state ≡ settle f s) × (cycles ≡ cycles_of f s)

-- ---- statements

-- Two answers after the retractions from one state are equal: state and count.
abbrev pub RetractionsDetermined : Type 0
RetractionsDetermined =
    (s state state' : Controller) (cycles cycles' : ℕ) → AfterRetractions s state cycles → AfterRetractions s state' cycles' →
    (state ≡ state') × (cycles ≡ cycles')
