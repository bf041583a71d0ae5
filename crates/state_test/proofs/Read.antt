-- The passes over records that are read one at a time: each law of a turn, said of a record that is known to be the state's.
-- Assumes nothing.
--   sizes_read, holds_read           the sizes that were read, and what the passes are given
--   passes_read, survey_read         both passes make the survey
--   spares_of                        the test of the spare cores, with the sizes that were read
--   shown_first, shown_more          what the cores show, where the loop begins and with one core more
--   out_of_range, seen_twice, unbacked    a core that fails a test: its ranges, its source lies in an earlier box, its source doesn't back it
--   id_in                            a filled box of a core that is in range names a source
--   filled_more, empty_more          one core more, with a filled box and with an empty one
use Prim.Native.Nat.{ℕ, ◌+◌, ◌-◌, ◌<◌, ◌≤◌}
use mathlib.Core.Path.{◌≡◌, refl, sym, ◌∙◌, ap}
use native.Mathlib.Omega.{arith}
use mathlib.Core.List.{List}
use mathlib.Core.Bool.{Bool, true, false}
use lib.ListN.{length, get_or, set}
use Rattle.std.specs.Prelude.{Some, None}
use Rattle.model.specs.declared.Source.{Source}
use Rattle.model.specs.declared.Core.{Core}
use Rattle.model.specs.declared.Controller.{Controller}
use Rattle.model.specs.Records.{max_sources, max_cores, no_source, core_at}
use Rattle.model.specs.Priorities.{top_priority}
use Rattle.model.specs.Requests.{current_priority}
use Rattle.model.specs.WellFormed.{consistent, Consistent}
use Rattle.model.specs.Statements.{InRange}
use Rattle.layout.specs.Bytes.{word_at, state_size, source_of, core_of, state_from}
use Rattle.lists.proofs.Rows.{length_tabulated}
use Rattle.lists.specs.Walks.{every}
use Rattle.lists.proofs.Bools.{clash}
use Rattle.lists.proofs.Exact.{Exact, accepted, rejected}
use Rattle.layout.proofs.InPlace.{core_read, source_read}
use Rattle.well_formed.specs.declared.Survey.{Survey}
use Rattle.well_formed.specs.Survey.{survey_with, unboxed, survey_of}
use Rattle.well_formed.specs.Loops.{spare_core, core_fits, backs, with_core, cores_to, cores_survey, both_sound, sources_survey}
use Rattle.state_test.specs.OnBytes.{Holds}
use Rattle.well_formed.proofs.Cores.{CoreNames, core_fits_exact, CoreSound, names_out, backed_out, core_refused}
use Rattle.well_formed.proofs.Marks.{Boxes, marked_twice, filled_turn, empty_turn, cores_begin, cores_more}
use Rattle.well_formed.proofs.Verdict.{consistent_passes, survey_passes}

-- ---- the sizes, and the passes together

n_read : (b : List ℕ) → word_at b 0 ≡ (state_from b).n
unfolding state_from
n_read b = refl

m_read : (b : List ℕ) → word_at b 2 ≡ (state_from b).m
unfolding state_from
m_read b = refl

lengths_read : (b : List ℕ) → (length (state_from b).sources ≡ max_sources) × (length (state_from b).cores ≡ max_cores)
unfolding state_from
lengths_read b = (length_tabulated max_sources (source_of b), length_tabulated max_cores (core_of b))

module _ (b : List ℕ) where
  abbrev s : Controller
  s = state_from b

  module _ {n m : ℕ} (en : n ≡ word_at b 0) (em : m ≡ word_at b 2) where
    n_is : n ≡ s.n
    n_is = en ∙ n_read b

    m_is : m ≡ s.m
    m_is = em ∙ m_read b

    pub sizes_read : Consistent s → InRange n m
    sizes_read c =
        rw (n_is, m_is) (record { some_source = c.some_source; n_le = c.n_le; some_core = c.some_core; m_le = c.m_le })

    pub holds_read : length b ≡ state_size → InRange n m → {top : ℕ} → top ≡ top_priority n → Holds b n m top
    holds_read l r e = record { size = l; in_range = r; n_is = n_is; m_is = m_is; top_is = e }

    pub passes_read : InRange n m → consistent s ≡ both_sound s
    passes_read r = consistent_passes s (rw (n_is, m_is) at r) (lengths_read b)

    pub survey_read :
        InRange n m → {top : ℕ} {v : Survey} → top ≡ top_priority n → Some v ≡ cores_survey s → sources_survey v s.sources n top ≡ survey_of s
    survey_read r e p = rw (e, n_is) (survey_passes s (passes_read r) p)

-- ---- a core

names_exact :
    {b : List ℕ} {n m top : ℕ} → Holds b n m top → (c : Core) →
    Exact (core_fits n top c) (CoreNames (state_from b).n (top_priority (state_from b).n) c)
names_exact {b} h c = rw (h.top_is, h.n_is) (core_fits_exact (state_from b).n (top_priority (state_from b).n) c)

-- the laws of a turn, said of a record c that is known to be core k
module _ (s : Controller) (k : ℕ) {c : Core} (read : c ≡ core_at s k) where
  abbrev at : ℕ
  at = c.message.source.0 - 1

  names_read : CoreSound s k → CoreNames s.n (top_priority s.n) c
  names_read = rw read (names_out s k)

  backs_read : CoreSound s k → c.message.filled ≡ true → backs c (get_or s.sources at no_source) ≡ true
  backs_read = rw read (backed_out s k)

  shown_read : {v w : Survey} → v ≡ cores_to s.cores k → w ≡ with_core v c → w ≡ cores_to s.cores (k + 1)
  shown_read e f = f ∙ rw (e, read) (cores_more s.cores k)

  module _ {seen : List Bool} (boxes : Boxes s seen k) where
    twice_read :
        1 ≤ c.message.source.0 → c.message.source.0 ≤ max_sources → CoreSound s k → c.message.filled ≡ true → get_or seen at false ≡ true → ⊥
    twice_read = rw read (marked_twice boxes)

    filled_read :
        {next : List Bool} →
        CoreNames s.n (top_priority s.n) c → s.n ≤ max_sources → c.message.filled ≡ true → get_or seen at false ≡ false →
        backs c (get_or s.sources at no_source) ≡ true → next ≡ set seen at true → Boxes s next (k + 1)
    filled_read = rw read (filled_turn boxes)

    empty_read : {next : List Bool} → CoreNames s.n (top_priority s.n) c → c.message.filled ≡ false → next ≡ seen → Boxes s next (k + 1)
    empty_read = rw read (empty_turn boxes)

module _ {b : List ℕ} {n m top : ℕ} (h : Holds b n m top) where
  abbrev state : Controller
  state = state_from b

  sources_le : state.n ≤ max_sources
  sources_le = omega (arith, h.n_is, h.in_range.n_le)

  pub spares_of : {r : Bool} → r ≡ every max_cores (spare_core state.cores m) → r ≡ every max_cores (spare_core state.cores state.m)
  spares_of e = e ∙ ap (λ (x : ℕ). every max_cores (spare_core state.cores x)) h.m_is

  pub shown_first : {c : Core} {p : ℕ} → c ≡ core_of b 0 → p ≡ current_priority c → survey_with true p 0 unboxed 0 ≡ cores_to state.cores 0
  shown_first e f = rw (f, e ∙ sym (core_read b 0 (omega arith))) (cores_begin state.cores)

  -- a turn: the record c of core k is read, and the test of its ranges answers `fits`
  module _ {k : ℕ} (under : k < m) {c : Core} (e : c ≡ core_of b k) {fits : Bool} (is : fits ≡ core_fits n top c) where
    here : c ≡ core_at state k
    here = e ∙ sym (core_read b k (omega (arith, h.in_range.m_le)))

    unsound : ¬ CoreSound state k → None ≡ cores_survey state
    unsound = core_refused state k (omega (arith, h.m_is))

    pub out_of_range : fits ≡ false → None ≡ cores_survey state
    out_of_range f = unsound (λ o. rejected (names_exact h c) is f (names_read state k here o))

    pub shown_more : {v w : Survey} → v ≡ cores_to state.cores k → w ≡ with_core v c → w ≡ cores_to state.cores (k + 1)
    shown_more = shown_read state k here

    module _ (f : fits ≡ true) where
      names : CoreNames state.n (top_priority state.n) c
      names = accepted (names_exact h c) is f

      pub empty_more : {seen next : List Bool} → Boxes state seen k → c.message.filled ≡ false → next ≡ seen → Boxes state next (k + 1)
      empty_more boxes = empty_read state k here boxes names

      -- the id in its box is read as a number
      module _ (filled : c.message.filled ≡ true) {id : ℕ} (from : id ≡ c.message.source.0) where
        pub id_in : (1 ≤ id) × (id ≤ max_sources)
        id_in = let (low, high) = names.1 filled in rw from (low, omega (arith, sources_le))

        pub seen_twice : {seen : List Bool} → Boxes state seen k → get_or seen (id - 1) false ≡ true → None ≡ cores_survey state
        seen_twice boxes q = unsound (λ o. twice_read state k here boxes (rw from at id_in.0) (rw from at id_in.1) o filled (rw from at q))

        -- the source in its box is read, and the test of whether it backs the box answers `backed`
        module _ {x : Source} (p : x ≡ source_of b (id - 1)) {backed : Bool} (q : backed ≡ backs c x) where
          backed_is : backed ≡ backs c (get_or state.sources (c.message.source.0 - 1) no_source)
          backed_is = rw from at (q ∙ ap (backs c) (p ∙ sym (source_read b (id - 1) (omega (arith, id_in.0, id_in.1)))))

          pub unbacked : backed ≡ false → None ≡ cores_survey state
          unbacked g = unsound (λ o. clash (backed_is ∙ backs_read state k here o filled) g)

          pub filled_more :
              {seen next : List Bool} → Boxes state seen k → get_or seen (id - 1) false ≡ false → backed ≡ true →
              next ≡ set seen (id - 1) true → Boxes state next (k + 1)
          filled_more boxes u g e = filled_read state k here boxes names sources_le filled (rw from at u) (sym backed_is ∙ g) (rw from at e)
