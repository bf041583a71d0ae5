-- What the offer of one request to the least core finds. Helpers of contracts; nothing here needs to be believed.
--   Offered s b g m i r    a consistent state s of m cores is held, and r is the record of its source i + 1
use Rattle.std.specs.Prelude.{ℕ, ◌<◌, ◌≡◌, List}
use Rattle.model.specs.declared.Source.{Source}
use Rattle.model.specs.declared.Controller.{Controller}
use Rattle.model.specs.Records.{source_at}
use Rattle.model.specs.WellFormed.{Consistent}
use Rattle.in_place.specs.declared.Ranking.{Ranking}
use Rattle.in_place.specs.Held.{Held}

pub record Offered (s : Controller) (b : List ℕ) (g : Ranking) (m i : ℕ) (r : Source) : Type 0 where
  pub held : Held s b g
  pub consistent : Consistent s
  pub cores_are : m ≡ s.m
  pub source_in : i < s.n
  pub record_is : r ≡ source_at s i
