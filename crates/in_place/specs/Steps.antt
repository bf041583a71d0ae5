-- What a command on a state's bytes finds, and what it leaves. Helpers of contracts; nothing here needs to be believed.
--   id_in r, cycles_in r        the claimed id and the cycles of an outcome, 0 where it is a refusal
--   Says r number id cycles     what is answered besides the state
--   Ready b g                   the bytes b are those of a sound state, with the numbers of its cores and sources
--   Leaves a r b' g'            the answer is a, and its state is held
--   Executed b c ..             the answer is that of the command c on the state in the bytes b
use Rattle.std.specs.Prelude.{ℕ, ◌≡◌, List, Result, Ok, Err}
use Rattle.model.specs.declared.Accepted.{Accepted}
use Rattle.model.specs.declared.Refusal.{Refusal}
use Rattle.model.specs.declared.Answer.{Answer}
use Rattle.model.specs.declared.Command.{Command}
use Rattle.model.specs.WellFormed.{WellFormed}
use Rattle.model.specs.Commands.{number_in, execute}
use Rattle.layout.specs.Bytes.{state_from}
use Rattle.in_place.specs.declared.Ranking.{Ranking}
use Rattle.in_place.specs.Held.{Held}

abbrev pub Outcome : Type 0
Outcome = Result Accepted Refusal

abbrev pub id_in : Outcome → ℕ
id_in (Ok a) = a.id.0
id_in (Err e) = 0

abbrev pub cycles_in : Outcome → ℕ
cycles_in (Ok a) = a.cycles
cycles_in (Err e) = 0

abbrev pub Says : Outcome → ℕ → ℕ → ℕ → Type 0
Says r number id cycles = (number_in r ≡ number) × (id_in r ≡ id) × (cycles_in r ≡ cycles)

pub record Ready (b : List ℕ) (g : Ranking) : Type 0 where
  pub held : Held (state_from b) b g
  pub sound : WellFormed (state_from b)

pub record Leaves (a : Answer) (r : Outcome) (b' : List ℕ) (g' : Ranking) : Type 0 where
  pub says : Says r a.number a.id.0 a.cycles
  pub held : Held a.state b' g'

abbrev pub Executed : List ℕ → Command → Outcome → List ℕ → Ranking → Type 0
Executed b c r b' g' = Leaves (execute (state_from b) c) r b' g'
