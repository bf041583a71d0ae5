-- A state in a host's bytes, with a number beside them for each core and each source. Helpers of contracts; nothing here needs to be
-- believed.
--   blank                  no number is made yet
--   with_keys g keys, with_ranks g ranks    the numbers g with other ones of the cores, of the sources
--   Held s b g             b are the bytes of s, and g the numbers of its cores and sources
--   Numbered s g           the numbers alone
--   NamesSource box              a filled box names a source that there is room for
--   PutsBack, Retracts, Delivers    what a call makes of whatever state is held: one with its request put back, retracted, delivered
use Rattle.std.specs.Prelude.{ℕ, ◌+◌, ◌*◌, ◌≤◌, ◌≡◌, List, true, length, replicate}
use Rattle.lists.specs.Rows.{FilledBy}
use Rattle.model.specs.declared.Source.{Source}
use Rattle.model.specs.declared.MessageBox.{MessageBox}
use Rattle.model.specs.declared.Core.{Core}
use Rattle.model.specs.declared.Controller.{Controller}
use Rattle.model.specs.Records.{max_sources, max_cores, no_source, no_core, source_at, core_at, with_sources}
use Rattle.model.specs.Settling.{put_back, retract, deliver}
use Rattle.arbitration.specs.Places.{key_at, rank_at}
use Rattle.layout.specs.Bytes.{source_size, core_size, state_size, sources_from, cores_from, state_bytes}
use Rattle.layout.specs.Statements.{Sized}
use Rattle.in_place.specs.declared.Ranking.{Ranking}

abbrev pub source_place : ℕ → ℕ
source_place i = sources_from + source_size * i

abbrev pub core_place : ℕ → ℕ
core_place k = cores_from + core_size * k

abbrev pub blank : Ranking
blank = record { keys = replicate max_cores 0; ranks = replicate max_sources 0 }

abbrev pub with_keys : Ranking → List ℕ → Ranking
with_keys g keys = record { keys = keys; ranks = g.ranks }

abbrev pub with_ranks : Ranking → List ℕ → Ranking
with_ranks g ranks = record { keys = g.keys; ranks = ranks }

pub record Numbered (s : Controller) (g : Ranking) : Type 0 where
  pub keyed : FilledBy key_at no_core s.cores s.m g.keys
  pub keys_length : length g.keys ≡ max_cores
  pub ranked : FilledBy rank_at no_source s.sources s.n g.ranks
  pub ranks_length : length g.ranks ≡ max_sources

pub record Held (s : Controller) (b : List ℕ) (g : Ranking) : Type 0 where
  pub bytes_are : b ≡ state_bytes s
  pub size : length b ≡ state_size
  pub sized : Sized s
  pub numbered : Numbered s g

abbrev pub NamesSource : MessageBox → Type 0
NamesSource box = box.filled ≡ true → (1 ≤ box.source.0) × (box.source.0 ≤ max_sources)

-- ---- what a call makes of whatever state is held

abbrev pub PutsBack : MessageBox → List ℕ → Ranking → List ℕ → Ranking → Type 0
PutsBack box b g b' g' =
    (g'.keys ≡ g.keys) × ((s : Controller) → Held s b g → Held (with_sources s (put_back box s.sources)) b' g')

abbrev pub Retracts : ℕ → Core → List ℕ → Ranking → List ℕ → Ranking → Type 0
Retracts k c b g b' g' = (s : Controller) → Held s b g → c ≡ core_at s k → Held (retract s k) b' g'

abbrev pub Delivers : ℕ → Source → ℕ → Core → List ℕ → Ranking → List ℕ → Ranking → Type 0
Delivers i r k c b g b' g' = (s : Controller) → Held s b g → r ≡ source_at s i → c ≡ core_at s k → Held (deliver s i k) b' g'
