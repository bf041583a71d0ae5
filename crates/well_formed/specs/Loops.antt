-- What each test and each loop of the survey computes. Helpers of contracts; nothing here needs to be believed.
use Rattle.std.specs.Prelude.{ℕ, min, max, List, Bool, Option, Some, None, not, cond, ◌&&◌, ◌||◌, get_or, ltb, eqb}
use Rattle.model.specs.declared.Source.{Source}
use Rattle.model.specs.declared.Core.{Core}
use Rattle.model.specs.declared.Controller.{Controller}
use Rattle.model.specs.Records.{max_sources, max_cores, no_source, no_core, core_at}
use Rattle.lists.specs.Walks.{every}
use Rattle.lists.specs.Numbers.{between}
use Rattle.model.specs.Priorities.{top_priority}
use Rattle.model.specs.Requests.{current_priority}
use Rattle.model.specs.Arbitration.{least_priority}
use Rattle.model.specs.WellFormed.{source_in_range, core_in_range, is_reset_source, is_reset_core, is_backed, same_source}
use Rattle.well_formed.specs.declared.Survey.{Survey}
use Rattle.well_formed.specs.Survey.{survey_with, covered_priority, boxed_priority, greatest_covered, lowest_boxed}
use Rattle.well_formed.specs.Survey.{greatest_waiting}

-- A source without a request that has dropped no trigger.
unfoldable pub is_idle : Source → Bool
is_idle r = not r.pending && not r.delivered && eqb r.priority 0 && eqb r.dropped 0

-- A core in range whose box, if it is filled, names one of n sources.
unfoldable pub core_fits : ℕ → ℕ → Core → Bool
core_fits n top c = core_in_range top c && (not c.message.filled || between 1 n c.message.source.0)

-- The source r backs a filled box, whatever its id.
unfoldable pub backs : Core → Source → Bool
backs c r =
    r.pending &&
    r.delivered && eqb r.priority c.message.priority && (c.message.dirty || ltb c.configured c.message.priority)

-- ---- the cores

-- Core k is in range, its box is backed, and no core before it holds the same source.
abbrev pub core_sound : Controller → ℕ → Bool
core_sound s k =
    core_in_range (top_priority s.n) (core_at s k) &&
    is_backed s.n s.sources (core_at s k) && every k (λ j. not (same_source (core_at s j) (core_at s k)))

-- A record that is in use or reset.
abbrev pub spare_core : List Core → ℕ → ℕ → Bool
spare_core l m k = ltb k m || is_reset_core (get_or l k no_core)

unfoldable pub cores_sound : Controller → Bool
cores_sound s = every s.m (core_sound s) && every max_cores (spare_core s.cores s.m)

unfoldable pub with_core : Survey → Core → Survey
with_core v c =
    survey_with (v.clean && not c.message.dirty) (min v.lowest (current_priority c))
    (max v.covered (covered_priority c)) (min v.boxed (boxed_priority c)) v.waiting

-- What the first k cores show.
abbrev pub cores_to : List Core → ℕ → Survey
cores_to l k =
    survey_with (every k (λ j. not (get_or l j no_core).message.dirty)) (least_priority l k) (greatest_covered l k) (lowest_boxed l k) 0

unfoldable pub cores_survey : Controller → Option Survey
cores_survey s = cond (cores_sound s) (Some (cores_to s.cores s.m)) None

-- ---- the sources

abbrev pub spare_source : List Source → ℕ → ℕ → Bool
spare_source l n i = ltb i n || is_reset_source (get_or l i no_source)

unfoldable pub sources_sound : List Source → ℕ → ℕ → Bool
sources_sound l n top =
    every n (λ i. source_in_range top (get_or l i no_source)) && every max_sources (spare_source l n)

-- Both passes succeed.
abbrev pub both_sound : Controller → Bool
both_sound s = cores_sound s && sources_sound s.sources s.n (top_priority s.n)

-- What the cores have shown, with what the sources show.
unfoldable pub sources_survey : Survey → List Source → ℕ → ℕ → Option Survey
sources_survey v l n top =
    cond (sources_sound l n top) (Some (survey_with v.clean v.lowest v.covered v.boxed (greatest_waiting l n))) None
