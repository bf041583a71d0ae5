-- The records' blank and reset values, readers, and every record literal. Definitions only. Assumes nothing.
-- Source: document 01, "What is held".
--   no_source, no_core    what a reader answers past the end of a list: every field 0 or false. A core after a reset is the
--                       same record; a source after a reset is not: its configured priority is 1 and it is masked.
--   source_at s i        the source with id i + 1
--   core_at s k          core k
--   bare s              what settling leaves alone
use Rattle.std.specs.Prelude.{ℕ, pred, List, map, Bool, true, false, get_or, set, replicate}
use Rattle.lists.specs.Numbers.{one_more_up_to}
use Rattle.model.specs.declared.SourceId.{SourceId}
use Rattle.model.specs.declared.CoreId.{CoreId}
use Rattle.model.specs.declared.Source.{Source}
use Rattle.model.specs.declared.MessageBox.{MessageBox}
use Rattle.model.specs.declared.Core.{Core}
use Rattle.model.specs.declared.Controller.{Controller}
use Rattle.model.specs.declared.Answer.{Answer}
use Rattle.model.specs.declared.Found.{Found}
use Rattle.model.specs.declared.Ranged.{Ranged}
use Rattle.model.specs.declared.Taken.{Taken}
use Rattle.model.specs.declared.Claimed.{Claimed}

-- The largest sizes: n is 1 to 128, m is 1 to 32.
abbrev pub max_sources : ℕ
max_sources = 128

abbrev pub max_cores : ℕ
max_cores = 32

-- ---- ids

abbrev pub source_id : ℕ → SourceId
source_id id = record { 0 = id }

abbrev pub core_id : ℕ → CoreId
core_id k = record { 0 = k }

-- Where the source with an id stands in the list. Id 0 names no source; every command refuses it first.
abbrev pub index_of : SourceId → ℕ
index_of id = pred id.0

-- ---- a source

abbrev pub source_with : ℕ → Bool → Bool → Bool → ℕ → ℕ → Source
source_with configured masked pending delivered priority dropped =
    record {
      configured = configured;
      masked = masked;
      pending = pending;
      delivered = delivered;
      priority = priority;
      dropped = dropped;
    }

abbrev pub no_source : Source
no_source = source_with 0 false false false 0 0

abbrev pub reset_source : Source
reset_source = source_with 1 true false false 0 0

abbrev pub with_configured : ℕ → Source → Source
with_configured p r = source_with p r.masked r.pending r.delivered r.priority r.dropped

abbrev pub with_mask : Bool → Source → Source
with_mask b r = source_with r.configured b r.pending r.delivered r.priority r.dropped

abbrev pub with_delivered : Bool → Source → Source
with_delivered b r = source_with r.configured r.masked r.pending b r.priority r.dropped

-- a new request, at the source's priority
abbrev pub opened : Source → Source
opened r = source_with r.configured r.masked true false r.configured r.dropped

-- no request any more
abbrev pub ended : Source → Source
ended r = source_with r.configured r.masked false false 0 r.dropped

-- Document 02, request 7: one more trigger dropped, the count "held at 65,535".
abbrev pub most_dropped : ℕ
most_dropped = 65535

abbrev pub with_dropped : ℕ → Source → Source
with_dropped x r = source_with r.configured r.masked r.pending r.delivered r.priority x

abbrev pub dropped_one : Source → Source
dropped_one r = with_dropped (one_more_up_to most_dropped r.dropped) r

-- ---- a core and its message box

abbrev pub box_with : Bool → Bool → SourceId → ℕ → MessageBox
box_with filled dirty id p = record { filled = filled; dirty = dirty; source = id; priority = p }

abbrev pub empty_box : MessageBox
empty_box = box_with false false (source_id 0) 0

-- a clean box that holds the request of a source
abbrev pub holding : SourceId → ℕ → MessageBox
holding id p = box_with true false id p

-- a filled box becomes dirty, an empty one stays as it is
abbrev pub dirtied : MessageBox → MessageBox
dirtied b = box_with b.filled b.filled b.source b.priority

abbrev pub core_with : ℕ → MessageBox → Core
core_with p b = record { configured = p; message = b }

abbrev pub no_core : Core
no_core = core_with 0 empty_box

-- A core after a reset is the blank one.
abbrev pub reset_core : Core
reset_core = no_core

-- its box emptied
abbrev pub emptied : Core → Core
emptied c = core_with c.configured empty_box

-- ---- the controller

abbrev pub source_at : Controller → ℕ → Source
source_at s i = get_or s.sources i no_source

abbrev pub core_at : Controller → ℕ → Core
core_at s k = get_or s.cores k no_core

abbrev pub controller_with : ℕ → ℕ → List Source → List Core → Controller
controller_with n m sources cores = record { n = n; m = m; sources = sources; cores = cores }

abbrev pub with_sources : Controller → List Source → Controller
with_sources s l = controller_with s.n s.m l s.cores

abbrev pub with_cores : Controller → List Core → Controller
with_cores s l = controller_with s.n s.m s.sources l

abbrev pub with_source : Controller → ℕ → Source → Controller
with_source s i r = with_sources s (set s.sources i r)

abbrev pub with_core : Controller → ℕ → Core → Controller
with_core s k c = with_cores s (set s.cores k c)

-- All but the boxes and the delivered marks: every box empty, every mark off.
abbrev pub bare : Controller → Controller
bare s = controller_with s.n s.m (map (with_delivered false) s.sources) (map emptied s.cores)

-- Document 01: "fresh".
abbrev pub reset : ℕ → ℕ → Controller
reset n m = controller_with n m (replicate max_sources reset_source) (replicate max_cores reset_core)

-- ---- answers

abbrev pub answer : Controller → ℕ → ℕ → ℕ → Answer
answer s number id cycles = record { state = s; number = number; id = source_id id; cycles = cycles }

abbrev pub found : ℕ → ℕ → Found
found number position = record { number = number; position = position }

abbrev pub ranged : ℕ → ℕ → Ranged
ranged number ranges = record { number = number; ranges = ranges }

abbrev pub taken : ℕ → SourceId → Core → Taken
taken number id c = record { number = number; id = id; core = c }

abbrev pub claimed_as : Taken → Claimed
claimed_as t = record { number = t.number; id = t.id }
