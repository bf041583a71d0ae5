-- Worked states: fresh ones, broken ones beside sound ones, and which dirty box goes first. Definitions only. Assumes nothing.
-- Source: document 01, "What is held", "A sound state", "Table of runs" (sizes), and "Settling", step 1.
--   state_cases     for each clause of the sound-state test a state that breaks it, beside a sound one that differs in one record
--   told_apart c    the broken state is refused by 1 and fails just the conjuncts of the test that are named; the sound one is accepted
--   box_parts       what a box says of its source, where the other clauses would hide it in a whole state
--   fresh          the fields of a fresh controller, one by one, and the sizes that are made and refused
--   retractions    the lowest dirty box is retracted first
use Rattle.std.specs.Prelude.{ℕ, suc, ◌≡◌, List, [], ◌∷◌, ◌++◌, Bool, true, false, not, ◌&&◌, cond, eqb}
use Rattle.model.specs.declared.Source.{Source}
use Rattle.model.specs.declared.Core.{Core}
use Rattle.model.specs.declared.Controller.{Controller}
use Rattle.model.specs.declared.Cycle.{Cycle}
use Rattle.model.specs.declared.Cycle.TheVariants.{Rest, Retract, Deliver}
use Rattle.model.specs.declared.Command.TheVariants.{OnSource, OnCore}
use Rattle.model.specs.declared.SourceAction.TheVariants.{Mask}
use Rattle.model.specs.declared.CoreAction.TheVariants.{SetCorePriority}
use Rattle.model.specs.Records.{source_id, core_id, source_with, reset_source, box_with, empty_box, core_with, reset_core, source_at, core_at}
use Rattle.model.specs.Records.{with_sources, with_cores, with_source, with_core, reset}
use Rattle.lists.specs.Walks.{every}
use Rattle.model.specs.WellFormed.{backed_by, sizes_in_range, lists_whole, sources_in_range, cores_in_range, spares_reset, boxes_backed}
use Rattle.model.specs.WellFormed.{boxes_distinct, boxes_clean, candidates_settled, covered_settled, frugal, well_formed}
use Rattle.model.specs.Settling.{next, cycle}
use Rattle.model.specs.Commands.{effect, execute, make}
use Rattle.model.specs.Cases.{same_numbers}

-- Each of a list of facts holds.
abbrev pub all_hold : List Bool → Bool
all_hold [] = true
all_hold (b ∷ bs) = b && all_hold bs

-- ---- a case

-- The conjuncts of the test, by their places in it.
abbrev sizes : ℕ
sizes = 0

abbrev lists : ℕ
lists = 1

abbrev sources : ℕ
sources = 2

abbrev cores : ℕ
cores = 3

abbrev spares : ℕ
spares = 4

abbrev backed : ℕ
backed = 5

abbrev distinct : ℕ
distinct = 6

abbrev clean : ℕ
clean = 7

abbrev candidates : ℕ
candidates = 8

abbrev covered : ℕ
covered = 9

abbrev needed : ℕ
needed = 10

abbrev pub clauses : Controller → List Bool
clauses s =
    sizes_in_range s.n s.m ∷
    lists_whole s ∷
    sources_in_range s ∷
    cores_in_range s ∷
    spares_reset s ∷ boxes_backed s ∷ boxes_distinct s ∷ boxes_clean s ∷ candidates_settled s ∷ covered_settled s ∷ frugal s ∷ []

-- These are all: the test is their conjunction.
abbrev pub ClausesAreTest : Type 0
ClausesAreTest = (s : Controller) → well_formed s ≡ all_hold (clauses s)

-- The places of the flags that are off, the first flag being at the place given.
abbrev pub failing : ℕ → List Bool → List ℕ
failing at [] = []
failing at (b ∷ bs) = cond b (failing (suc at) bs) (at ∷ failing (suc at) bs)

pub record StateCase : Type 0 where
  pub breaks : List ℕ
  pub broken : Controller
  pub sound : Controller

-- What mask of source 1 answers: 0 on every sound state.
abbrev pub number_on : Controller → ℕ
number_on s = (execute s (OnSource (source_id 1) Mask)).number

unfoldable pub told_apart : StateCase → Bool
told_apart c =
    eqb (number_on c.broken) 1 &&
    same_numbers (failing 0 (clauses c.broken)) c.breaks && eqb (number_on c.sound) 0

unfoldable pub all_told_apart : List StateCase → Bool
all_told_apart [] = true
all_told_apart (c ∷ cs) = told_apart c && all_told_apart cs

-- ---- the state that is edited

-- A core by its configured priority and its box: empty, or holding the request of source id at priority p.
abbrev empty_at : ℕ → Core
empty_at configured = core_with configured empty_box

abbrev box_at : ℕ → Bool → Bool → ℕ → ℕ → Core
box_at configured filled dirty id p = core_with configured (box_with filled dirty (source_id id) p)

abbrev holds_at : ℕ → ℕ → ℕ → Core
holds_at configured id p = box_at configured true false id p

-- A source of priority 5 whose request is delivered; one that has no request; one whose request waits.
abbrev delivered_at : ℕ → Source
delivered_at p = source_with 5 false true true p 0

abbrev idle_at : ℕ → Source
idle_at configured = source_with configured false false false 0 0

abbrev waiting_at : ℕ → Source
waiting_at p = source_with 5 false true false p 0

abbrev three_sources : Controller
three_sources = with_source (with_source (with_source (reset 3 2) 0 (delivered_at 3)) 1 (delivered_at 3)) 2 (idle_at 1)

-- Three sources and two cores, so that 7 is the top priority. Source 1 lies in core 0's box, source 2 is claimed, source 3 is idle.
-- The current priorities are 3 and 4.
unfoldable pub calm : Controller
calm = with_core (with_core three_sources 0 (holds_at 2 1 3)) 1 (empty_at 4)

abbrev differ : ℕ → Controller → Controller → StateCase
differ clause broken sound = record { breaks = clause ∷ []; broken = broken; sound = sound }

-- The state with a bad and with a good record of source i + 1, of core k.
abbrev at_source : ℕ → ℕ → Source → Source → StateCase
at_source clause i bad good = differ clause (with_source calm i bad) (with_source calm i good)

abbrev at_core : ℕ → ℕ → Core → Core → StateCase
at_core clause k bad good = differ clause (with_core calm k bad) (with_core calm k good)

abbrev spare_source : Source → StateCase
spare_source bad = at_source spares 3 bad reset_source

abbrev spare_core : Core → StateCase
spare_core bad = at_core spares 2 bad reset_core

-- ---- the table, in document 01's order

-- Sizes in range. An array has no record past its last: it reads as a source of priority 0, so that 129 sources break that clause too.
-- In every value that a program can hold the lists are as long as the arrays.
abbrev size_cases : List StateCase
size_cases =
    differ sizes (reset 0 1) (reset 1 1) ∷
    record { breaks = sizes ∷ sources ∷ []; broken = reset 129 1; sound = reset 128 1 } ∷
    differ sizes (reset 1 0) (reset 1 1) ∷
    differ sizes (reset 1 33) (reset 1 32) ∷
    differ lists (with_sources calm (calm.sources ++ (reset_source ∷ []))) calm ∷
    differ lists (with_cores calm (calm.cores ++ (reset_core ∷ []))) calm ∷ []

-- Configured source and pending request priorities 1 to top; not pending: delivered is off and the request's priority is 0. Any count
-- of dropped triggers.
abbrev source_cases : List StateCase
source_cases =
    at_source sources 2 (idle_at 0) (idle_at 1) ∷
    at_source sources 2 (idle_at 8) (idle_at 7) ∷
    at_source sources 1 (delivered_at 0) (delivered_at 1) ∷
    at_source sources 1 (delivered_at 8) (delivered_at 7) ∷
    at_source sources 2 (source_with 1 false false true 0 0) (idle_at 1) ∷
    at_source sources 2 (source_with 1 false false false 1 0) (idle_at 1) ∷
    at_source sources 2 (source_with 0 false false false 0 65535) (source_with 1 false false false 0 65535) ∷ []

-- Core priorities 0 to top; an empty box has id 0, priority 0 and isn't dirty, which is also the clause that no box is.
abbrev core_cases : List StateCase
core_cases =
    at_core cores 1 (empty_at 8) (empty_at 7) ∷
    at_core cores 1 (box_at 4 false false 1 0) (empty_at 4) ∷
    at_core cores 1 (box_at 4 false false 0 1) (empty_at 4) ∷
    record { breaks = cores ∷ clean ∷ []; broken = with_core calm 1 (box_at 4 false true 0 0); sound = calm } ∷ []

-- Records past n or m are kept as fresh ones: each field of source 4 and of core 2, and the last records of all.
abbrev spare_cases : List StateCase
spare_cases =
    spare_source (source_with 2 true false false 0 0) ∷
    spare_source (source_with 1 false false false 0 0) ∷
    spare_source (source_with 1 true true false 0 0) ∷
    spare_source (source_with 1 true false true 0 0) ∷
    spare_source (source_with 1 true false false 1 0) ∷
    spare_source (source_with 1 true false false 0 1) ∷
    spare_source (source_with 1 true false false 0 65535) ∷
    spare_core (empty_at 1) ∷
    spare_core (box_at 0 true false 0 0) ∷
    spare_core (box_at 0 false true 0 0) ∷
    spare_core (box_at 0 false false 1 0) ∷
    spare_core (box_at 0 false false 0 1) ∷
    at_source spares 127 (source_with 2 true false false 0 0) reset_source ∷ at_core spares 31 (empty_at 1) reset_core ∷ []

-- A filled box names a source, which neither id 0 nor id 4 does, that is pending and delivered, with the same priority, strictly above
-- its core's configured priority, which is also the last clause for that core.
abbrev box_cases : List StateCase
box_cases =
    at_core backed 0 (holds_at 2 0 3) (holds_at 2 1 3) ∷
    at_core backed 0 (holds_at 2 4 3) (holds_at 2 1 3) ∷
    at_source backed 0 (idle_at 5) (delivered_at 3) ∷
    at_source backed 0 (waiting_at 3) (delivered_at 3) ∷
    at_source backed 0 (delivered_at 4) (delivered_at 3) ∷
    record { breaks = backed ∷ needed ∷ []; broken = with_core calm 0 (holds_at 3 1 3); sound = calm } ∷ []

-- No source in two boxes; no box dirty; no candidate above the least current priority, though a masked request may be; the configured
-- priority under a filled box isn't above any core's current priority.
abbrev settled_cases : List StateCase
settled_cases =
    at_core distinct 1 (holds_at 2 1 3) (holds_at 2 2 3) ∷
    at_core clean 0 (box_at 2 true true 1 3) (holds_at 2 1 3) ∷
    at_source candidates 2 (waiting_at 4) (waiting_at 3) ∷
    at_source candidates 2 (waiting_at 4) (source_with 5 true true false 4 0) ∷ at_core covered 1 (empty_at 1) (empty_at 2) ∷ []

-- Requests of 3 and 4 in both boxes, the second over a core at the priority given.
abbrev both_filled : ℕ → Controller
both_filled configured = with_core (with_source calm 1 (delivered_at 4)) 1 (holds_at configured 2 4)

-- Cores at 3 and 1, and requests of 3 and 9, as document 02 has them: source 3's request with the delivered mark given, and the cores.
abbrev three_and_nine : Bool → Core → Core → Controller
three_and_nine delivered first second =
    let sources : Controller = with_source (with_source (reset 9 2) 2 (source_with 3 false true delivered 3 0)) 8
    (source_with 9 false true true 9 0) in
    with_core (with_core sources 0 first) 1 second

-- Each configured priority under a filled box is below every filled box's priority: another core's box refuses 3 under it at 3. And
-- document 02's run, [9,3] by the lowest number alone, and [3,9].
abbrev needed_cases : List StateCase
needed_cases =
    differ needed (both_filled 3) (both_filled 2) ∷
    differ needed (three_and_nine true (holds_at 3 9 9) (holds_at 1 3 3)) (three_and_nine false (empty_at 3) (holds_at 1 9 9)) ∷ []

unfoldable pub state_cases : List StateCase
state_cases = size_cases ++ (source_cases ++ (core_cases ++ (spare_cases ++ (box_cases ++ (settled_cases ++ needed_cases)))))

-- Of three sources: id 3 is one and id 4 isn't; a source that isn't pending backs no box. In a whole state the clauses on spare and on
-- idle sources say so too.
unfoldable pub box_parts : List Bool
box_parts =
    backed_by 3 (holds_at 2 3 3) (delivered_at 3) ∷
    not (backed_by 3 (holds_at 2 4 3) (delivered_at 3)) ∷
    not (backed_by 3 (holds_at 2 3 3) (source_with 5 false false true 3 0)) ∷ []

-- ---- fresh

abbrev largest : Controller
largest = (make 128 32).state

abbrev made_by : ℕ → ℕ → ℕ
made_by n m = (make n m).number

unfoldable pub fresh : List Bool
fresh =
    eqb largest.n 128 ∷
    eqb largest.m 32 ∷
    lists_whole largest ∷
    every 128 (λ i. eqb (source_at largest i).configured 1) ∷
    every 128 (λ i. (source_at largest i).masked) ∷
    every 128 (λ i. not (source_at largest i).pending) ∷
    every 128 (λ i. not (source_at largest i).delivered) ∷
    every 128 (λ i. eqb (source_at largest i).priority 0) ∷
    every 32 (λ k. eqb (core_at largest k).configured 0) ∷
    every 32 (λ k. not (core_at largest k).message.filled) ∷
    every 32 (λ k. not (core_at largest k).message.dirty) ∷
    every 32 (λ k. eqb (core_at largest k).message.source.0 0) ∷
    every 32 (λ k. eqb (core_at largest k).message.priority 0) ∷
    eqb (made_by 1 1) 0 ∷
    eqb (made_by 128 32) 0 ∷
    eqb (made_by 0 1) 2 ∷
    eqb (made_by 129 32) 2 ∷
    eqb (made_by 1 0) 2 ∷
    eqb (made_by 128 33) 2 ∷
    eqb (make 129 32).state.n 1 ∷ eqb (make 129 32).state.m 1 ∷ []

-- ---- the order of retractions

-- Requests in both boxes, and set core priority: both boxes are dirty.
abbrev both_dirty : Controller
both_dirty = effect (with_core calm 1 (holds_at 2 2 3)) (OnCore (core_id 1) (SetCorePriority 0))

abbrev retracts : ℕ → Cycle → Bool
retracts k Rest = false
retracts k (Retract j) = eqb j.0 k
retracts k (Deliver id j) = false

unfoldable pub retractions : List Bool
retractions = retracts 0 (next both_dirty) ∷ retracts 1 (next (cycle both_dirty)) ∷ []
