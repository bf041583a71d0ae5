-- The pass over the sources: what is asked of one source, and what the loop keeps. Assumes nothing.
--   sources_sound_exact             every source is in range, and the spare ones are reset
--   spares_refused, source_refused  the pass's survey where a spare source isn't reset, and where one in use isn't in range
--   sources_passed                  and where both hold
--   waiting_begin, waiting_more     the greatest priority of a candidate, where the loop begins and with one source more
--   waiting_raised, waiting_same    that source is a candidate, or not
use Prim.Native.Nat.{ℕ, ◌+◌, ◌<◌, ◌≤◌, max}
use mathlib.Core.Path.{◌≡◌, refl, sym, ◌∙◌}
use mathlib.Core.Bool.{Bool, true, false, and-false}
use mathlib.Core.List.{List}
use native.Mathlib.Omega.{arith}
use native.Mathlib.Numerals.{add-one}
use lib.ListN.{get_or}
use Rattle.std.specs.Prelude.{Some, None}
use Rattle.model.specs.declared.Source.{Source}
use Rattle.model.specs.Records.{max_sources, no_source, reset_source}
use Rattle.model.specs.Requests.{candidate}
use Rattle.lists.specs.Walks.{every}
use Rattle.well_formed.specs.declared.Survey.{Survey}
use Rattle.well_formed.specs.Survey.{survey_with, greatest, greatest_waiting, waiting_priority}
use Rattle.well_formed.specs.Loops.{spare_source, sources_sound, sources_survey}
use Rattle.model.specs.WellFormed.{source_in_range}
use Rattle.lists.proofs.Bools.{clash, refuted}
use Rattle.lists.proofs.Walks.{every_in, every_out}
use Rattle.lists.proofs.Exact.{Exact, ◌and◌, from_exact, every_exact}
use Rattle.well_formed.proofs.Clauses.{SourceFits, source_exact, reset_source_exact}

abbrev pub FitsAt : List Source → ℕ → ℕ → Type 0
FitsAt l top i = SourceFits top (get_or l i no_source)

-- every source below n is in range, and those from n on are reset
abbrev pub SourcesSound : List Source → ℕ → ℕ → Type 0
SourcesSound l n top =
    ((i : ℕ) → i < n → FitsAt l top i) × ((i : ℕ) → i < max_sources → n ≤ i → get_or l i no_source ≡ reset_source)

pub spare_sources_exact : (l : List Source) (n : ℕ) →
    Exact (every max_sources (spare_source l n)) ((i : ℕ) → i < max_sources → n ≤ i → get_or l i no_source ≡ reset_source)
spare_sources_exact l n = every_exact max_sources (λ i. from_exact i n (reset_source_exact (get_or l i no_source)))

pub sources_sound_exact : (l : List Source) (n top : ℕ) → Exact (sources_sound l n top) (SourcesSound l n top)
unfolding sources_sound
sources_sound_exact l n top = every_exact n (λ i. source_exact top (get_or l i no_source)) and spare_sources_exact l n

module _ (v : Survey) (l : List Source) (n top : ℕ) where
  abbrev in_range : ℕ → Bool
  in_range i = source_in_range top (get_or l i no_source)

  pub spares_refused : every max_sources (spare_source l n) ≡ false → None ≡ sources_survey v l n top
  unfolding sources_survey sources_sound
  spares_refused e = rw (e, and-false)

  pub source_refused : (i : ℕ) → i < n → in_range i ≡ false → None ≡ sources_survey v l n top
  unfolding sources_survey sources_sound
  source_refused i h e = rw (refuted (every n in_range) (λ all. clash (every_out n in_range all i h) e))

  pub sources_passed : ((i : ℕ) → i < n → in_range i ≡ true) → every max_sources (spare_source l n) ≡ true →
      Some (survey_with v.clean v.lowest v.covered v.boxed (greatest_waiting l n)) ≡ sources_survey v l n top
  unfolding sources_survey sources_sound
  sources_passed p q = rw (every_in n in_range p, q)

-- ---- the greatest priority of a candidate

pub waiting_begin : (l : List Source) → 0 ≡ greatest_waiting l 0
unfolding greatest
waiting_begin l = refl

waiting_more : (l : List Source) (i : ℕ) → max (greatest_waiting l i) (waiting_priority (get_or l i no_source)) ≡ greatest_waiting l (i + 1)
unfolding greatest
waiting_more l i = rw add-one

module _ (l : List Source) (i : ℕ) where
  abbrev here : Source
  here = get_or l i no_source

  module _ {w w' : ℕ} (e : w ≡ greatest_waiting l i) where
    pub waiting_raised : candidate here ≡ true → w' ≡ max w here.priority → w' ≡ greatest_waiting l (i + 1)
    waiting_raised c x = x ∙ rw (c, sym e) at (waiting_more l i)

    pub waiting_same : candidate here ≡ false → w' ≡ w → w' ≡ greatest_waiting l (i + 1)
    waiting_same c x = let h : max w 0 ≡ greatest_waiting l (i + 1) = rw (c, sym e) at (waiting_more l i) in omega arith
