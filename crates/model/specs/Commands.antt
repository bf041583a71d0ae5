-- Making a controller, the eight commands, and the run of a list of them. Definitions only. Assumes nothing.
-- Source: document 01, "Eight commands" and "Numbers for no"; number 9 is document 02's, request 5, and the count of dropped triggers,
-- request 7.
--   effect s c      what command c does before settling
--   refusal s c     the number for no, 0 for none: the checks of each command in their order
--   execute s c     the whole command, on any state: a refused one hands back the state it was given, id 0 and 0 cycles; a trigger
--                   refused by 6 hands it back with one more dropped trigger at its source
--   make n m        a fresh controller, or refusal 2 with the fresh one of sizes (1, 1)
--   number_for r    the number of a refusal by its name in code; number_in, that of a result, 0 for one that isn't refused
--   run s cs        the state after a list of commands, refused ones included
use Rattle.std.specs.Prelude.{ℕ, ◌*◌, List, map, Bool, true, false, not, cond, get_or, set, ltb, leb, eqb, Result, Ok, Err}
use Rattle.model.specs.declared.SourceId.{SourceId}
use Rattle.model.specs.declared.CoreId.{CoreId}
use Rattle.model.specs.declared.Source.{Source}
use Rattle.model.specs.declared.Core.{Core}
use Rattle.model.specs.declared.Controller.{Controller}
use Rattle.model.specs.declared.Answer.{Answer}
use Rattle.model.specs.declared.Command.{Command}
use Rattle.model.specs.declared.Command.TheVariants.{OnSource, OnCore}
use Rattle.model.specs.declared.SourceAction.{SourceAction}
use Rattle.model.specs.declared.SourceAction.TheVariants.{SetSourcePriority, Mask, Unmask, Trigger, Redeliver, Complete}
use Rattle.model.specs.declared.CoreAction.{CoreAction}
use Rattle.model.specs.declared.CoreAction.TheVariants.{SetCorePriority, Claim}
use Rattle.model.specs.declared.Refusal.{Refusal}
use Rattle.model.specs.declared.Refusal.TheVariants.{Malformed, BadSize, BadCore, BadSource, BadPriority, AlreadyPending, NothingToClaim}
use Rattle.model.specs.declared.Refusal.TheVariants.{NotClaimed, PriorityInUse}
use Rattle.model.specs.Records.{index_of, with_configured, with_mask, with_delivered, opened, ended, empty_box, dirtied, core_with, no_core}
use Rattle.model.specs.Records.{dropped_one, source_at, core_at, with_cores, with_source, reset, answer}
use Rattle.model.specs.Priorities.{top_priority}
use Rattle.model.specs.Requests.{claimed}
use Rattle.lists.specs.Numbers.{between}
use Rattle.model.specs.WellFormed.{sizes_in_range, well_formed}
use Rattle.model.specs.Settling.{settle, cycles_of}
use Rattle.model.specs.Behaviours.{run_by}

-- ---- the effect before settling

-- A filled box becomes dirty.
abbrev pub soiled : Core → Core
soiled c = core_with c.configured (dirtied c.message)

-- The software takes the request over: the core rises to the request's priority, and its box is emptied.
abbrev pub claimed_core : Core → Core
claimed_core c = core_with c.message.priority empty_box

-- By the row of the source that a command names.
abbrev pub source_after : SourceAction → Source → Source
source_after (SetSourcePriority p) r = with_configured p r
source_after Mask r = with_mask true r
source_after Unmask r = with_mask false r
source_after Trigger r = opened r
source_after Redeliver r = with_delivered false r
source_after Complete r = ended r

-- By the rows of all cores: set core priority makes every filled box dirty.
abbrev pub cores_after : CoreAction → ℕ → List Core → List Core
cores_after (SetCorePriority p) k l = map soiled (set l k (core_with p (get_or l k no_core).message))
cores_after Claim k l = set l k (claimed_core (get_or l k no_core))

unfoldable pub effect : Controller → Command → Controller
effect s (OnSource id a) = with_source s (index_of id) (source_after a (source_at s (index_of id)))
effect s (OnCore k a) = with_cores s (cores_after a k.0 s.cores)

-- ---- numbers for no

abbrev pub malformed : ℕ
malformed = 1

abbrev pub bad_size : ℕ
bad_size = 2

abbrev pub bad_core : ℕ
bad_core = 3

abbrev pub bad_source : ℕ
bad_source = 4

abbrev pub bad_priority : ℕ
bad_priority = 5

abbrev pub already_pending : ℕ
already_pending = 6

abbrev pub nothing_to_claim : ℕ
nothing_to_claim = 7

abbrev pub not_claimed : ℕ
not_claimed = 8

-- The priority belongs to a request that is pending: waiting, in a box or claimed.
abbrev pub priority_in_use : ℕ
priority_in_use = 9

abbrev pub number_for : Refusal → ℕ
number_for Malformed = malformed
number_for BadSize = bad_size
number_for BadCore = bad_core
number_for BadSource = bad_source
number_for BadPriority = bad_priority
number_for AlreadyPending = already_pending
number_for NothingToClaim = nothing_to_claim
number_for NotClaimed = not_claimed
number_for PriorityInUse = priority_in_use

abbrev pub number_in : {A : Type 0} → Result A Refusal → ℕ
number_in (Ok x) = 0
number_in (Err r) = number_for r

-- The number if the check fails, else what the later checks say.
abbrev pub unless : Bool → ℕ → ℕ → ℕ
unless passes number later = cond passes later number

abbrev pub names_source : Controller → SourceId → Bool
names_source s id = between 1 s.n id.0

abbrev pub names_core : Controller → CoreId → Bool
names_core s k = ltb k.0 s.m

-- The checks of a source's command after that of its id, which stands at i in the list.
abbrev pub source_refusal : Controller → ℕ → SourceAction → ℕ
source_refusal s i (SetSourcePriority p) =
    unless (between 1 (top_priority s.n) p) bad_priority (unless (not (source_at s i).pending) priority_in_use 0)
source_refusal s i Mask = 0
source_refusal s i Unmask = 0
source_refusal s i Trigger = unless (not (source_at s i).pending) already_pending 0
source_refusal s i Redeliver = unless (claimed s i) not_claimed 0
source_refusal s i Complete = unless (claimed s i) not_claimed 0

-- The checks of a core's command after that of its number.
abbrev pub core_refusal : Controller → ℕ → CoreAction → ℕ
core_refusal s k (SetCorePriority p) = unless (leb p (top_priority s.n)) bad_priority 0
core_refusal s k Claim = unless (core_at s k).message.filled nothing_to_claim 0

-- The checks after that of the state.
unfoldable pub refusal_of : Controller → Command → ℕ
refusal_of s (OnSource id a) = unless (names_source s id) bad_source (source_refusal s (index_of id) a)
refusal_of s (OnCore k a) = unless (names_core s k) bad_core (core_refusal s k.0 a)

unfoldable pub refusal : Controller → Command → ℕ
refusal s c = unless (well_formed s) malformed (refusal_of s c)

-- ---- whole commands

-- Only claim answers an id.
unfoldable pub answered_id : Controller → Command → ℕ
answered_id s (OnSource id a) = 0
answered_id s (OnCore k (SetCorePriority p)) = 0
answered_id s (OnCore k Claim) = (core_at s k.0).message.source.0

unfoldable pub settled : Controller → ℕ → Answer
settled s id = answer (settle (2 * s.m) s) 0 id (cycles_of (2 * s.m) s)

-- One more trigger of the named source is dropped.
abbrev pub drop_counted : Controller → Command → Controller
drop_counted s (OnSource id a) = with_source s (index_of id) (dropped_one (source_at s (index_of id)))
drop_counted s (OnCore k a) = s

-- What a command that is refused by a number hands back: the state it was given; by 6, with that count.
abbrev pub after_refusal : Controller → Command → ℕ → Controller
after_refusal s c number = cond (eqb number already_pending) (drop_counted s c) s

unfoldable pub refused : Controller → Command → ℕ → Answer
refused s c number = answer (after_refusal s c number) number 0 0

unfoldable pub execute : Controller → Command → Answer
execute s c = cond (eqb (refusal s c) 0) (settled (effect s c) (answered_id s c)) (refused s c (refusal s c))

unfoldable pub make : ℕ → ℕ → Answer
make n m = cond (sizes_in_range n m) (answer (reset n m) 0 0 0) (answer (reset 1 1) bad_size 0 0)

abbrev pub run : Controller → List Command → Controller
run s cs = run_by execute s cs
