-- Settling, cycle by cycle. Definitions only. Assumes nothing.
-- Source: document 01, "Settling, cycle by cycle".
--   next s              what the next cycle does: one retraction while a box is dirty, then one delivery, then rest
--   cycle s             the state after it; at rest the same state
--   settle f s          the state after f cycles
--   cycles_of f s        the retractions and deliveries among them: the look that ends settling isn't counted
-- A command settles within 2m cycles, so 2m is the f that every command uses; that this cuts nothing short is proved.
use Rattle.std.specs.Prelude.{ℕ, zero, suc, ◌+◌, List, Bool, true, false, ◌&&◌, cond, get_or, set, ltb}
use Rattle.model.specs.declared.Source.{Source}
use Rattle.model.specs.declared.MessageBox.{MessageBox}
use Rattle.model.specs.declared.Core.{Core}
use Rattle.model.specs.declared.Controller.{Controller}
use Rattle.model.specs.declared.Cycle.{Cycle}
use Rattle.model.specs.declared.Cycle.TheVariants.{Rest, Retract, Deliver}
use Rattle.model.specs.Records.{no_source, no_core, source_id, core_id, index_of, with_delivered, empty_box, holding, core_with, source_at}
use Rattle.model.specs.Records.{core_at, with_sources, with_core}
use Rattle.model.specs.Requests.{current_priority, candidate}
use Rattle.model.specs.Arbitration.{highest, least}

-- The request in a filled box goes back to waiting.
abbrev pub put_back : MessageBox → List Source → List Source
put_back b l =
    cond b.filled (set l (index_of b.source) (with_delivered false (get_or l (index_of b.source) no_source))) l

-- Step 1: the box's source becomes waiting, the box empty.
unfoldable pub retract : Controller → ℕ → Controller
retract s k =
    with_core (with_sources s (put_back (core_at s k).message s.sources)) k (core_with (core_at s k).configured empty_box)

-- Step 2: a request in core k's box goes back to waiting, the box takes the request of source i + 1, and that is delivered.
unfoldable pub deliver : Controller → ℕ → ℕ → Controller
deliver s i k =
    with_core
    (with_sources s (set (put_back (core_at s k).message s.sources) i (with_delivered true (source_at s i))))
    k
    (core_with (core_at s k).configured (holding (source_id (suc i)) (source_at s i).priority))

-- The first of cores 0 to m - 1 whose box is dirty; m if there is none.
unfoldable pub first_dirty : List Core → ℕ → ℕ
first_dirty l zero = 0
first_dirty l (suc k) =
    cond (ltb (first_dirty l k) k) (first_dirty l k) (cond (get_or l k no_core).message.dirty k (suc k))

-- A request of source r goes to core c: strictly above its current priority, so never at an equal one.
abbrev pub interrupted_by : Core → Source → Bool
interrupted_by c r = candidate r && ltb (current_priority c) r.priority

unfoldable pub arbitrate : Controller → ℕ → ℕ → Cycle
arbitrate s i k = cond (interrupted_by (core_at s k) (source_at s i)) (Deliver (source_id (suc i)) (core_id k)) Rest

unfoldable pub next : Controller → Cycle
next s =
    cond
    (ltb (first_dirty s.cores s.m) s.m)
    (Retract (core_id (first_dirty s.cores s.m)))
    (arbitrate s (highest s.sources s.n) (least s.cores s.m))

abbrev pub apply : Cycle → Controller → Controller
apply Rest s = s
apply (Retract k) s = retract s k.0
apply (Deliver id k) s = deliver s (index_of id) k.0

unfoldable pub cycle : Controller → Controller
cycle s = apply (next s) s

abbrev pub is_retraction : Cycle → ℕ
is_retraction Rest = 0
is_retraction (Retract k) = 1
is_retraction (Deliver id k) = 0

abbrev pub is_delivery : Cycle → ℕ
is_delivery Rest = 0
is_delivery (Retract k) = 0
is_delivery (Deliver id k) = 1

unfoldable pub settle : ℕ → Controller → Controller
settle zero s = s
settle (suc f) s = settle f (cycle s)

-- How often a kind of cycle occurs.
unfoldable pub count_of : (Cycle → ℕ) → ℕ → Controller → ℕ
count_of kind zero s = 0
count_of kind (suc f) s = kind (next s) + count_of kind f (cycle s)

-- The cycle count is retractions plus deliveries.
unfoldable pub cycles_of : ℕ → Controller → ℕ
cycles_of f s = count_of is_retraction f s + count_of is_delivery f s
