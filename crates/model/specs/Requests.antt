-- What a source, a box and a core say of a request. Definitions only. Assumes nothing.
-- Source: document 01, "What is held": current priority, waiting, candidate, claimed, owner.
--   current_priority c    the box's priority if the box is filled, else the configured one
--   boxed l m id         a filled box of cores 0 to m - 1 of the list l names source id
--   claimed s i          source i + 1 is pending and delivered, and lies in no box
--   Owns s i o           o is an owner of the request of source i + 1
use Rattle.std.specs.Prelude.{ℕ, suc, ◌<◌, ◌≡◌, List, Bool, true, not, ◌&&◌, cond, get_or, eqb}
use Rattle.model.specs.declared.Source.{Source}
use Rattle.model.specs.declared.Core.{Core}
use Rattle.model.specs.declared.Controller.{Controller}
use Rattle.model.specs.Records.{no_core, source_at, core_at}
use Rattle.lists.specs.Walks.{some}

abbrev pub current_priority : Core → ℕ
current_priority c = cond c.message.filled c.message.priority c.configured

abbrev pub waiting : Source → Bool
waiting r = r.pending && not r.delivered

abbrev pub candidate : Source → Bool
candidate r = waiting r && not r.masked

-- The box of core c is filled and names source id.
abbrev pub holds : ℕ → Core → Bool
holds id c = c.message.filled && eqb c.message.source.0 id

unfoldable pub boxed : List Core → ℕ → ℕ → Bool
boxed l m id = some m (λ k. holds id (get_or l k no_core))

abbrev pub claimed : Controller → ℕ → Bool
claimed s i = (source_at s i).pending && (source_at s i).delivered && not (boxed s.cores s.m (suc i))

-- The three parties that can own a pending request.
pub data Owner : Type 0 where
  by_source : Owner
  by_box : ℕ → Owner
  by_software : Owner

abbrev pub Owns : Controller → ℕ → Owner → Type 0
Owns s i by_source = waiting (source_at s i) ≡ true
Owns s i (by_box k) = (k < s.m) × (holds (suc i) (core_at s k) ≡ true)
Owns s i by_software = claimed s i ≡ true
