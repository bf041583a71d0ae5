-- A list's state between two commands, in a host's bytes. Helpers of contracts; nothing here needs to be believed.
--   Going r b         the bytes b are those of a state; r are the numbers of its cores and sources, if it is sound, and else none
--   Went a r o b' r'  a command has answered a, and the list can go on, sound or not as before
use Rattle.std.specs.Prelude.{◌≡◌, List, length, ℕ, Option, IfSome, is_some}
use Rattle.model.specs.declared.Answer.{Answer}
use Rattle.model.specs.WellFormed.{well_formed}
use Rattle.layout.specs.Bytes.{state_size, state_bytes, state_from}
use Rattle.in_place.specs.declared.Ranking.{Ranking}
use Rattle.in_place.specs.Held.{Held}
use Rattle.in_place.specs.Steps.{Outcome, Says}

pub record Going (r : Option Ranking) (b : List ℕ) : Type 0 where
  pub size : length b ≡ state_size
  pub whole : b ≡ state_bytes (state_from b)
  pub tested : is_some r ≡ well_formed (state_from b)
  pub held : IfSome r (Held (state_from b) b)

pub record Went (a : Answer) (r : Option Ranking) (o : Outcome) (b' : List ℕ) (r' : Option Ranking) : Type 0 where
  pub says : Says o a.number a.id.0 a.cycles
  pub state_is : state_from b' ≡ a.state
  pub going : Going r' b'
  pub kept : is_some r' ≡ is_some r
