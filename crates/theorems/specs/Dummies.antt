-- Wrong controllers: the dummies of document 01, and some that a weaker statement would let pass. Definitions only; nothing here
-- needs to be believed. Each is a function from a state and a command to an answer, as `execute` is.
-- Source: document 01, "How tight each statement is" and "Numbers for no"; what requests 2, 5 and 7 of document 02 changed.
use Rattle.std.specs.Prelude.{ℕ, zero, suc, ◌+◌, ◌*◌, ◌%◌, map, Bool, true, ◌&&◌, cond, ltb, eqb}
use Rattle.model.specs.declared.Core.{Core}
use Rattle.model.specs.declared.Controller.{Controller}
use Rattle.model.specs.declared.Cycle.{Cycle}
use Rattle.model.specs.declared.Cycle.TheVariants.{Retract}
use Rattle.model.specs.declared.Command.{Command}
use Rattle.model.specs.declared.Command.TheVariants.{OnSource, OnCore}
use Rattle.model.specs.declared.SourceAction.TheVariants.{SetSourcePriority, Mask, Unmask, Trigger, Redeliver, Complete}
use Rattle.model.specs.Records.{core_id, index_of, source_at, core_at, with_delivered, with_dropped, empty_box, core_with, controller_with}
use Rattle.model.specs.Records.{with_cores, with_source, reset, answer}
use Rattle.model.specs.Requests.{current_priority}
use Rattle.lists.specs.Walks.{some, walk}
use Rattle.model.specs.Arbitration.{highest}
use Rattle.model.specs.Settling.{first_dirty, arbitrate, apply}
use Rattle.model.specs.Commands.{already_pending, priority_in_use, source_refusal, core_refusal, refusal, effect, answered_id, settled}
use Rattle.model.specs.Commands.{drop_counted, execute}
use Rattle.model.specs.Behaviours.{Behaviour}

-- ---- the dummies of document 01

-- Every command is accepted, and the state given is handed back.
abbrev pub change_nothing : Behaviour
change_nothing s c = answer s 0 0 0

-- Every command is refused by the same number.
abbrev pub refuse_everything : ℕ → Behaviour
refuse_everything number s c = answer s number 0 0

-- What `execute` answers, with another state: f of the one handed back.
abbrev pub handing_back : (Controller → Controller) → Behaviour
handing_back f s c =
    answer (f (execute s c).state) (execute s c).number (execute s c).id.0 (execute s c).cycles

-- Number, id and cycles are right, and the state handed back is always the fresh one.
abbrev pub always_fresh : Behaviour
always_fresh = handing_back (λ s. reset s.n s.m)

-- All is right but the count of cycles, which is always the largest.
abbrev pub always_two_m : Behaviour
always_two_m s c = answer (execute s c).state (execute s c).number (execute s c).id.0 (2 * s.m)

abbrev pub some_filled : Controller → Bool
some_filled s = some s.m (λ k. (core_at s k).message.filled)

-- A triggered request is marked delivered, though no box takes it.
abbrev pub marked : Command → Controller → Controller
marked (OnSource id (SetSourcePriority p)) s = s
marked (OnSource id Mask) s = s
marked (OnSource id Unmask) s = s
marked (OnSource id Trigger) s = with_source s (index_of id) (with_delivered true (source_at s (index_of id)))
marked (OnSource id Redeliver) s = s
marked (OnSource id Complete) s = s
marked (OnCore k a) s = s

-- The first delivery is right. While a box is filled an accepted command has its effect and nothing settles: a triggered request is
-- marked delivered and goes into no box.
abbrev pub flags_only : Behaviour
flags_only s c =
    cond (some_filled s && eqb (execute s c).number 0) (answer (marked c (effect s c)) 0 (answered_id s c) 0) (execute s c)

-- ---- controllers that a demand on priorities alone would let pass

-- The core stands at the priority that its box gave it, and the box is empty.
abbrev pub raised : Core → Core
raised c = core_with (current_priority c) empty_box

-- No state handed back has a filled box, though every current priority is right: no request can be claimed.
abbrev pub hollow : Behaviour
hollow = handing_back (λ s. with_cores s (map raised s.cores))

-- Each state handed back has a source more than the one before.
abbrev pub growing : Behaviour
growing = handing_back (λ s. controller_with (suc s.n) s.m s.sources s.cores)

-- ---- a controller that disturbs a core too many

-- A tie between cores falls to the lowest number, whatever their boxes hold: document 01's rule before request 2.
abbrev pub next_by_number : Controller → Cycle
next_by_number s =
    cond
    (ltb (first_dirty s.cores s.m) s.m)
    (Retract (core_id (first_dirty s.cores s.m)))
    (arbitrate s (highest s.sources s.n) (walk (λ j k. ltb (current_priority (core_at s j)) (current_priority (core_at s k))) s.m))

unfoldable pub settle_by_number : ℕ → Controller → Controller
settle_by_number zero s = s
settle_by_number (suc f) s = settle_by_number f (apply (next_by_number s) s)

abbrev pub tie_to_lowest : Behaviour
tie_to_lowest s c =
    cond (eqb (refusal s c) 0)
    (answer (settle_by_number (2 * s.m) (effect s c)) 0 (answered_id s c) (execute s c).cycles) (execute s c)

-- ---- controllers that refuse wrongly

-- The state with f of the count at the source that a command names.
abbrev pub recounted : (ℕ → ℕ) → Controller → Command → Controller
recounted f s (OnSource id a) =
    with_source s (index_of id) (with_dropped (f (source_at s (index_of id)).dropped) (source_at s (index_of id)))
recounted f s (OnCore k a) = s

-- A refusal hands back the fresh state.
abbrev pub fresh_when_refused : Behaviour
fresh_when_refused s c =
    cond (eqb (execute s c).number 0) (execute s c) (answer (reset s.n s.m) (execute s c).number 0 0)

-- A bad core is refused as a bad source: 4 for 3.
abbrev pub core_as_source : Behaviour
core_as_source s c = cond (eqb (execute s c).number 3) (answer s 4 0 0) (execute s c)

-- What is checked of a command after its id or core number.
abbrev pub later_refusal : Controller → Command → ℕ
later_refusal s (OnSource id a) = source_refusal s (index_of id) a
later_refusal s (OnCore k a) = core_refusal s k.0 a

-- The priority is checked before the id: 5 where 4 is due.
abbrev pub priority_first : Behaviour
priority_first s c = cond (eqb (execute s c).number 4 && eqb (later_refusal s c) 5) (answer s 5 0 0) (execute s c)

-- No trigger is counted as dropped: document 01's rule before request 7.
abbrev pub uncounted : Behaviour
uncounted s c = cond (eqb (execute s c).number already_pending) (answer s already_pending 0 0) (execute s c)

-- A count at 65,535 goes on from 0.
abbrev pub wrapping : Behaviour
wrapping s c =
    cond (eqb (execute s c).number already_pending) (answer (recounted (λ x. (x + 1) % 65536) s c) already_pending 0 0) (execute s c)

-- Every refusal of a command on a source counts there.
abbrev pub counts_refusals : Behaviour
counts_refusals s c =
    cond (eqb (execute s c).number 0) (execute s c) (answer (drop_counted s c) (execute s c).number 0 0)

-- A complete clears its source's count.
abbrev pub cleared_by : Command → Controller → Controller
cleared_by (OnSource id (SetSourcePriority p)) s = s
cleared_by (OnSource id Mask) s = s
cleared_by (OnSource id Unmask) s = s
cleared_by (OnSource id Trigger) s = s
cleared_by (OnSource id Redeliver) s = s
cleared_by (OnSource id Complete) s = with_source s (index_of id) (with_dropped 0 (source_at s (index_of id)))
cleared_by (OnCore k a) s = s

abbrev pub complete_clears : Behaviour
complete_clears s c = handing_back (cleared_by c) s c

-- Set source priority is accepted on a pending source, whose request keeps its own: document 01's rule before request 5.
abbrev pub sets_under_request : Behaviour
sets_under_request s c =
    cond (eqb (execute s c).number priority_in_use) (settled (effect s c) (answered_id s c)) (execute s c)
