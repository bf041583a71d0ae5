-- What is claimed of the definitions. Propositions only; each is proved in a crate above this one. Assumes nothing.
-- Source: the three demands, and document 01 in its order. docs/THEOREMS.md names the proof of each.
-- A statement over any `Behaviour` is proved of `execute`, and refuted of document 01's dummies.
use Rattle.std.specs.Prelude.{ℕ, suc, ◌+◌, ◌*◌, ◌^◌, ◌<◌, ◌≤◌, min, ◌≡◌, ◌↔◌, ◌≢◌, List, Bool, true, false, ◌||◌, cond, get_or, take, eqb}
use Rattle.model.specs.WellFormed.{NoneAbove, Frugal, frugal, Quiet, quiet, Clean, boxes_clean, Consistent, consistent, well_formed}
use Rattle.model.specs.WellFormed.{WellFormed}
use Rattle.lists.specs.Walks.{FirstOf, comparisons}
use Rattle.model.specs.declared.Source.{Source}
use Rattle.model.specs.declared.SourceId.{SourceId}
use Rattle.model.specs.declared.CoreId.{CoreId}
use Rattle.model.specs.declared.Core.{Core}
use Rattle.model.specs.declared.Controller.{Controller}
use Rattle.model.specs.declared.Answer.{Answer}
use Rattle.model.specs.declared.Cycle.TheVariants.{Rest}
use Rattle.model.specs.declared.Command.{Command}
use Rattle.model.specs.declared.Command.TheVariants.{OnSource, OnCore}
use Rattle.model.specs.declared.SourceAction.{SourceAction}
use Rattle.model.specs.declared.SourceAction.TheVariants.{SetSourcePriority, Mask, Unmask, Trigger, Redeliver, Complete}
use Rattle.model.specs.declared.CoreAction.{CoreAction}
use Rattle.model.specs.declared.CoreAction.TheVariants.{SetCorePriority, Claim}
use Rattle.model.specs.Records.{max_sources, max_cores, no_source, no_core, source_id, index_of, source_with, box_with, core_with, source_at}
use Rattle.model.specs.Records.{most_dropped, core_at, bare, reset, answer}
use Rattle.model.specs.Priorities.{floor_log2, top_priority}
use Rattle.model.specs.Requests.{current_priority, candidate, claimed, Owner, Owns}
use Rattle.model.specs.Arbitration.{higher, highest, highest_by_walk, highest_id, lower, least}
use Rattle.model.specs.Settling.{deliver, interrupted_by, next, settle, is_retraction, is_delivery, count_of, cycles_of}
use Rattle.model.specs.Commands.{effect, malformed, bad_core, bad_source, bad_priority, already_pending, nothing_to_claim, not_claimed}
use Rattle.model.specs.Commands.{priority_in_use, refusal, drop_counted, execute, make}
use Rattle.model.specs.Ledger.{Ledger, Entry, no_request, opening, ledger, collection, Placement, given, in_boxes, request_priority}
use Rattle.model.specs.Ledger.{current_priorities, placed_by, filled_boxes, entries_by}
use Rattle.model.specs.Drops.{drops, drops_in}
use Rattle.lists.specs.Numbers.{one_more_up_to}
use Rattle.lists.specs.Rows.{row}
use Rattle.lists.specs.Sorting.{sort_down}
use Rattle.model.specs.Behaviours.{Behaviour, run_by}

-- ---- sizes and priorities

pub record InRange (n m : ℕ) : Type 0 where
  pub some_source : 1 ≤ n
  pub n_le : n ≤ max_sources
  pub some_core : 1 ≤ m
  pub m_le : m ≤ max_cores

-- floor_log2 n is the k with 2^k ≤ n < 2^(k+1).
abbrev pub FloorLog2Exact : Type 0
FloorLog2Exact = (n : ℕ) → 1 ≤ n → n < 2 ^ 16 → (2 ^ floor_log2 n ≤ n) × (n < 2 ^ (floor_log2 n + 1))

-- The four values of document 01.
abbrev pub TopPriorityValues : Type 0
TopPriorityValues = (top_priority 1 ≡ 3) × (top_priority 32 ≡ 127) × (top_priority 127 ≡ 255) × (top_priority 128 ≡ 511)

-- ---- making

-- A fresh controller exactly for sizes in range; any other sizes are refused by 2 with the fresh one of (1, 1).
abbrev pub MakesExactly : Type 0
MakesExactly =
    (n m : ℕ) →
    (InRange n m → make n m ≡ answer (reset n m) 0 0 0) × (¬ InRange n m → make n m ≡ answer (reset 1 1) 2 0 0)

abbrev pub ResetWellFormed : Type 0
ResetWellFormed = (n m : ℕ) → InRange n m → WellFormed (reset n m)

-- ---- soundness

abbrev pub TestExact : Type 0
TestExact = (s : Controller) → (well_formed s ≡ true) ↔ WellFormed s

-- Each layer's test means its proposition; without a core that of the third has no least priority to compare with.
abbrev pub LayersExact : Type 0
LayersExact =
    (s : Controller) →
    ((consistent s ≡ true) ↔ Consistent s) ×
    ((boxes_clean s ≡ true) ↔ Clean s) × (1 ≤ s.m → (quiet s ≡ true) ↔ Quiet s) × ((frugal s ≡ true) ↔ Frugal s)

abbrev pub WellFormedKept : Type 0
WellFormedKept = (s : Controller) (c : Command) → WellFormed s → WellFormed (execute s c).state

-- ---- settling

-- No box is dirty, and no candidate is above the least current priority: the next cycle does nothing.
pub record AtRest (s : Controller) : Type 0 where
  pub rests : next s ≡ Rest
  pub clean : Clean s
  pub none_above : NoneAbove s

-- The answer a to a command whose effect is e, on m cores, held against f cycles of settling: it has the state and the count that they
-- give, that state is at rest, and at most m of the cycles are retractions and at most m deliveries.
pub record EndedBy (f m : ℕ) (e : Controller) (a : Answer) : Type 0 where
  pub same_state : settle f e ≡ a.state
  pub same_count : cycles_of f e ≡ a.cycles
  pub at_rest : AtRest a.state
  pub retractions_le : count_of is_retraction f e ≤ m
  pub deliveries_le : count_of is_delivery f e ≤ m

-- The bound of 2m cycles cuts nothing short: an accepted command answers what any number of cycles from 2m on gives.
abbrev pub NothingCutShort : Type 0
NothingCutShort =
    (s : Controller) (c : Command) → refusal s c ≡ 0 → (f : ℕ) → 2 * s.m ≤ f → EndedBy f s.m (effect s c) (execute s c)

-- On every state, sound or not.
abbrev pub CyclesBounded : Type 0
CyclesBounded = (s : Controller) (c : Command) → (execute s c).cycles ≤ 2 * s.m

-- The answer to a command on source i + 1 whose effect is e, if its request is delivered at most, and to the least core.
abbrev pub delivered_once : Controller → ℕ → Answer
delivered_once e i =
    cond
    (interrupted_by (core_at e (least e.cores e.m)) (source_at e i)) (answer (deliver e i (least e.cores e.m)) 0 0 1)
    (answer e 0 0 0)

-- A command on a source makes one delivery, of that source's request, exactly if it is above the least core; else the state is at rest.
abbrev pub OneDelivery : Type 0
OneDelivery =
    (s : Controller) (id : SourceId) (a : SourceAction) → refusal s (OnSource id a) ≡ 0 →
    execute s (OnSource id a) ≡ delivered_once (effect s (OnSource id a)) (index_of id)

-- ---- the comparator tree

abbrev pub TreeIsWalk : Type 0
TreeIsWalk = (l : List Source) (n : ℕ) → highest l n ≡ highest_by_walk l n

abbrev pub TreeFindsFirst : Type 0
TreeFindsFirst = (l : List Source) (n : ℕ) → 1 ≤ n → FirstOf (higher l) n (highest l n)

abbrev pub LeastIsFirst : Type 0
LeastIsFirst = (l : List Core) (m : ℕ) → 1 ≤ m → FirstOf (lower l) m (least l m)

-- Core i is below core j: its current priority is less, or the same, and only i's box is filled.
pub data Below (l : List Core) (i j : ℕ) : Type 0 where
  less : current_priority (get_or l i no_core) < current_priority (get_or l j no_core) → Below l i j
  filled_first :
      current_priority (get_or l i no_core) ≡ current_priority (get_or l j no_core) → (get_or l i no_core).message.filled ≡ true →
      (get_or l j no_core).message.filled ≡ false → Below l i j

abbrev pub LowerExact : Type 0
LowerExact = (l : List Core) (i j : ℕ) → (lower l i j ≡ true) ↔ Below l i j

-- Core i goes before core j: it is below, or the two stand alike and its number is lower.
pub data GoesBefore (l : List Core) (i j : ℕ) : Type 0 where
  below : Below l i j → GoesBefore l i j
  lower_number :
      current_priority (get_or l i no_core) ≡ current_priority (get_or l j no_core) →
      (get_or l i no_core).message.filled ≡ (get_or l j no_core).message.filled → i < j → GoesBefore l i j

-- The least core is one of the m, and goes before every other of them.
abbrev pub LeastGoesFirst : Type 0
LeastGoesFirst =
    (l : List Core) (m : ℕ) → 1 ≤ m → (least l m < m) × ((j : ℕ) → j < m → j ≢ least l m → GoesBefore l (least l m) j)

-- The id is 0 exactly when there is no candidate; else it is that of the candidate of highest priority, the lowest id on a tie.
pub record HighestCandidate (l : List Source) (n : ℕ) : Type 0 where
  pub none : highest_id l n ≡ 0 → (i : ℕ) → i < n → candidate (get_or l i no_source) ≡ false
  pub inside : (w : ℕ) → highest_id l n ≡ suc w → (w < n) × (candidate (get_or l w no_source) ≡ true)
  pub highest :
      (w i : ℕ) → highest_id l n ≡ suc w → i < n → candidate (get_or l i no_source) ≡ true →
      (get_or l i no_source).priority ≤ (get_or l w no_source).priority
  pub lowest_id :
      (w i : ℕ) → highest_id l n ≡ suc w → i < w → candidate (get_or l i no_source) ≡ true →
      (get_or l i no_source).priority < (get_or l w no_source).priority

abbrev pub HighestIdExact : Type 0
HighestIdExact = (l : List Source) (n : ℕ) → 1 ≤ n → HighestCandidate l n

-- The longest path over n sources has d comparisons, d the least number with 2^d at least n.
abbrev pub TreeDepthExact : Type 0
TreeDepthExact = (n : ℕ) → 1 ≤ n → (n ≤ 2 ^ comparisons n n) × ((d : ℕ) → n ≤ 2 ^ d → comparisons n n ≤ d)

abbrev pub TreeDepthBounded : Type 0
TreeDepthBounded = (n : ℕ) → 1 ≤ n → n < 2 ^ 16 → comparisons n n ≤ floor_log2 n + 1

-- ---- owners, and what commands leave alone

-- A pending request has exactly one owner, and only a pending one has any.
abbrev pub OneOwner : Type 0
OneOwner =
    (s : Controller) → WellFormed s → (i : ℕ) → i < s.n →
    ((source_at s i).pending ≡ true → (o : Owner) × Owns s i o × ((o' : Owner) → Owns s i o' → o' ≡ o)) ×
    ((o : Owner) → Owns s i o → (source_at s i).pending ≡ true)

-- ---- the rows of "Eight commands", field by field

-- A field keeps its value or gets another.
pub data Change (A : Type 0) : Type 0 where
  keep : Change A
  becomes : A → Change A

abbrev pub changed : {A : Type 0} → Change A → A → A
changed keep old = old
changed (becomes value) old = value

-- The columns of a source: configured priority, mask, pending, delivered, and the request's priority. No row has the count of dropped
-- triggers.
abbrev pub source_by : Change ℕ → Change Bool → Change Bool → Change Bool → Change ℕ → Source → Source
source_by configured masked pending delivered priority r =
    source_with
    (changed configured r.configured)
    (changed masked r.masked)
    (changed pending r.pending)
    (changed delivered r.delivered)
    (changed priority r.priority)
    r.dropped

-- The columns of a core: configured priority; of its box: filled, dirty, id, and priority.
abbrev pub core_by : Change ℕ → Change Bool → Change Bool → Change ℕ → Change ℕ → Core → Core
core_by configured filled dirty id priority c =
    core_with (changed configured c.configured)
    (box_with
    (changed filled c.message.filled)
    (changed dirty c.message.dirty)
    (source_id (changed id c.message.source.0))
    (changed priority c.message.priority))

-- The row of a command on a source, for that source.
abbrev pub source_row : SourceAction → Source → Source
source_row (SetSourcePriority p) r = source_by (becomes p) keep keep keep keep r
source_row Mask r = source_by keep (becomes true) keep keep keep r
source_row Unmask r = source_by keep (becomes false) keep keep keep r
source_row Trigger r = source_by keep keep (becomes true) (becomes false) (becomes r.configured) r
source_row Redeliver r = source_by keep keep keep (becomes false) keep r
source_row Complete r = source_by keep keep (becomes false) (becomes false) (becomes 0) r

-- The row of a command on a core, for any core; named: it is the one that the command names.
abbrev pub core_row : CoreAction → Bool → Core → Core
core_row (SetCorePriority p) named c =
    core_by (cond named (becomes p) keep) keep (cond c.message.filled (becomes true) keep) keep keep c
core_row Claim named c =
    cond named (core_by (becomes c.message.priority) (becomes false) (becomes false) (becomes 0) (becomes 0) c) c

-- Source id's record r after a command and before settling, and core k's record c.
abbrev pub source_in : Command → ℕ → Source → Source
source_in (OnSource x a) id r = cond (eqb x.0 id) (source_row a r) r
source_in (OnCore j a) id r = r

abbrev pub core_in : Command → ℕ → Core → Core
core_in (OnSource x a) k c = c
core_in (OnCore j a) k c = core_row a (eqb j.0 k) c

-- Before settling a command changes just the fields of its row; settling then changes just boxes and delivered marks.
pub record RowMet (s : Controller) (c : Command) : Type 0 where
  pub sizes : ((effect s c).n ≡ s.n) × ((effect s c).m ≡ s.m)
  pub sources : (i : ℕ) → source_at (effect s c) i ≡ source_in c (suc i) (source_at s i)
  pub cores : (k : ℕ) → core_at (effect s c) k ≡ core_in c k (core_at s k)
  pub settled : bare (execute s c).state ≡ bare (effect s c)

abbrev pub RowsMet : Type 0
RowsMet = (s : Controller) (c : Command) → refusal s c ≡ 0 → RowMet s c

-- Settling leaves all else alone in every state, however many cycles it takes.
abbrev pub SettlingLeavesBare : Type 0
SettlingLeavesBare = (f : ℕ) (s : Controller) → bare (settle f s) ≡ bare s

-- A request stays pending from its own accepted trigger to its own accepted complete: no other row has that column.
abbrev pub PendingChanges : Type 0
PendingChanges =
    (s : Controller) (c : Command) (i : ℕ) →
    (source_at (execute s c).state i).pending ≡ cond (eqb (refusal s c) 0) (source_in c (suc i) (source_at s i)).pending
    (source_at s i).pending

-- Only an accepted claim or set core priority on a core changes that core's configured priority.
abbrev pub ConfiguredChanges : Type 0
ConfiguredChanges =
    (s : Controller) (c : Command) (k : ℕ) →
    (core_at (execute s c).state k).configured ≡ cond (eqb (refusal s c) 0) (core_in c k (core_at s k)).configured
    (core_at s k).configured

-- What answers an id is a claim, and an accepted claim answers that of the box.
abbrev pub OnlyClaimAnswers : Type 0
OnlyClaimAnswers = (s : Controller) (c : Command) → (execute s c).id.0 ≢ 0 → (k : CoreId) × (c ≡ OnCore k Claim)

abbrev pub ClaimAnswersBox : Type 0
ClaimAnswersBox =
    (s : Controller) (k : CoreId) → refusal s (OnCore k Claim) ≡ 0 → (execute s (OnCore k Claim)).id ≡ (core_at s k.0).message.source

-- ---- demand 2

-- Every command on every state is answered as document 01 derives it: number, id, cycles and state.
abbrev pub DemandTwo : Behaviour → Type 0
DemandTwo x = (s : Controller) (c : Command) → x s c ≡ execute s c

-- ---- demand 3

-- The state s after a list of commands, held against the ledger b of the same list, for n sources and m cores. The last clause is
-- document 02's, request 2.
pub record PriorityStrict (n m : ℕ) (b : Ledger) (s : Controller) : Type 0 where
  -- the sizes are those that the controller was made with
  pub n_same : s.n ≡ n
  pub m_same : s.m ≡ m
  -- the current priorities, sorted from the top, are the m highest numbers of the collection
  pub top_m : sort_down (current_priorities m s) ≡ take m (sort_down (collection n m b s))
  -- the filled boxes are a placement, each with the priority of the request it places
  pub boxes_placed : Placement n m b s (in_boxes s)
  pub box_priority :
      (k : ℕ) → k < m → (core_at s k).message.filled ≡ true →
      (1 ≤ (core_at s k).message.source.0) × ((core_at s k).message.priority ≡ request_priority b (core_at s k).message.source.0)
  -- each core's current priority is what that placement gives it: by its box, else by the ledger's configured priority
  pub current_given : (k : ℕ) → k < m → current_priority (core_at s k) ≡ given b (in_boxes s) k
  -- no placement is higher at any place
  pub none_higher :
      (P : ℕ → ℕ) → Placement n m b s P → (j : ℕ) → get_or (sort_down (row m (given b P))) j 0 ≤ get_or (sort_down (current_priorities m s)) j 0
  -- no placement with the same current priorities, sorted, gives fewer requests than there are filled boxes
  pub fewest_boxes :
      (P : ℕ → ℕ) → Placement n m b s P → sort_down (row m (given b P)) ≡ sort_down (current_priorities m s) → filled_boxes m s ≤ placed_by m P

-- After every list of commands, of any length and with any arguments, refused ones included, from a fresh controller of any size in range.
abbrev pub EveryListStrict : Behaviour → Type 0
EveryListStrict x =
    (n m : ℕ) (cs : List Command) → InRange n m →
    PriorityStrict n m (ledger opening (entries_by x (make n m).state cs)) (run_by x (make n m).state cs)

pub record DemandThree : Type 0 where
  pub every_list_strict : EveryListStrict execute
  -- no command costs more than 2m cycles, and more would change nothing
  pub cycles_bounded : CyclesBounded
  pub nothing_cut_short : NothingCutShort

-- ---- requests and their sources: document 02, request 5

-- "A pending request's priority always equals its source's": waiting, in a box or claimed, masked or not.
abbrev pub Follows : Source → Type 0
Follows r = r.pending ≡ true → r.priority ≡ r.configured

-- "From a fresh controller": after every list of commands, refused ones included. A sound state that is handed in need not be so.
abbrev pub PriorityFollowsSource : Behaviour → Type 0
PriorityFollowsSource x =
    (n m : ℕ) (cs : List Command) → InRange n m → (i : ℕ) → i < n → Follows (source_at (run_by x (reset n m) cs) i)

-- In the ledger b: a request, open or claimed, has the priority that its source is configured with.
abbrev pub FollowsIn : Ledger → ℕ → Type 0
FollowsIn b id = b.request id ≢ no_request → request_priority b id ≡ b.configured id

abbrev pub LedgerFollowsSource : Behaviour → Type 0
LedgerFollowsSource x =
    (n m : ℕ) (cs : List Command) → InRange n m → (id : ℕ) → 1 ≤ id → id ≤ n → FollowsIn (ledger opening (entries_by x (reset n m) cs)) id

-- ---- refusals

-- The lines of "Numbers for no" that a command can meet, each with its number.
pub data Row (s : Controller) : Command → ℕ → Type 0 where
  not_sound : {c : Command} → ¬ WellFormed s → Row s c malformed
  no_such_core : {k : CoreId} {a : CoreAction} → s.m ≤ k.0 → Row s (OnCore k a) bad_core
  no_such_source : {id : SourceId} {a : SourceAction} → ¬ ((1 ≤ id.0) × (id.0 ≤ s.n)) → Row s (OnSource id a) bad_source
  source_priority : {id : SourceId} {p : ℕ} → ¬ ((1 ≤ p) × (p ≤ top_priority s.n)) → Row s (OnSource id (SetSourcePriority p)) bad_priority
  core_priority : {k : CoreId} {p : ℕ} → top_priority s.n < p → Row s (OnCore k (SetCorePriority p)) bad_priority
  is_pending : {id : SourceId} → (source_at s (index_of id)).pending ≡ true → Row s (OnSource id Trigger) already_pending
  unfilled_box : {k : CoreId} → (core_at s k.0).message.filled ≡ false → Row s (OnCore k Claim) nothing_to_claim
  not_redelivered : {id : SourceId} → claimed s (index_of id) ≡ false → Row s (OnSource id Redeliver) not_claimed
  not_completed : {id : SourceId} → claimed s (index_of id) ≡ false → Row s (OnSource id Complete) not_claimed
  -- document 02, request 5: also to the priority that it has
  in_use :
      {id : SourceId} {p : ℕ} → (source_at s (index_of id)).pending ≡ true → Row s (OnSource id (SetSourcePriority p)) priority_in_use

-- "Order: 1, then 3 or 4, then 5, then 6, 7 or 8"; and 9 "is checked after 5".
abbrev pub turn : ℕ → ℕ
turn number = cond (eqb number 1) 1 (cond (eqb number 3 || eqb number 4) 2 (cond (eqb number 5) 3 4))

-- "Given exactly when, no earlier check refusing"; accepted exactly when no line is met.
pub record Refusals (number : ℕ) (s : Controller) (c : Command) : Type 0 where
  pub given : (k : ℕ) → 1 ≤ k → (number ≡ k) ↔ (Row s c k × ((j : ℕ) → Row s c j → turn k ≤ turn j))
  pub accepted : (number ≡ 0) ↔ ((k : ℕ) → ¬ Row s c k)

abbrev pub RefusalsExact : Behaviour → Type 0
RefusalsExact x = (s : Controller) (c : Command) → Refusals (x s c).number s c

-- The number that a command answers is its refusal's.
abbrev pub RefusalAnswered : Type 0
RefusalAnswered = (s : Controller) (c : Command) → (execute s c).number ≡ refusal s c

-- A command refused by a number other than 6 hands back the state given, id 0 and 0 cycles.
abbrev pub RefusedUnchanged : Behaviour → Type 0
RefusedUnchanged x =
    (s : Controller) (c : Command) → (x s c).number ≢ 0 → (x s c).number ≢ already_pending →
    x s c ≡ answer s (x s c).number 0 0

-- ---- dropped triggers: document 02, request 7

-- "The one refusal that now alters a state, in that count only": what 6 hands back is the state given with one more at the source named.
abbrev pub DroppedCounted : Behaviour → Type 0
DroppedCounted x =
    (s : Controller) (c : Command) → (x s c).number ≡ already_pending → x s c ≡ answer (drop_counted s c) already_pending 0 0

-- Of every command on every state, and of every source: the count is one more, held, exactly if a trigger of it is answered by 6, else
-- as before. No accepted command changes a count, nor does settling.
abbrev pub DroppedChanges : Behaviour → Type 0
DroppedChanges x =
    (s : Controller) (c : Command) (i : ℕ) →
    let before = (source_at s i).dropped in
    (source_at (x s c).state i).dropped ≡ cond (drops (suc i) c (x s c).number) (one_more_up_to most_dropped before) before

-- "The number of such refusals in the run, or 65,535 if there were more", the number from commands and answers alone.
abbrev pub CountsDrops : List Entry → Controller → Type 0
CountsDrops es s = (i : ℕ) → (source_at s i).dropped ≡ min most_dropped (drops_in (suc i) es)

-- "From a fresh controller": after every list of commands.
abbrev pub DroppedIsHistory : Behaviour → Type 0
DroppedIsHistory x = (n m : ℕ) (cs : List Command) → CountsDrops (entries_by x (reset n m) cs) (run_by x (reset n m) cs)
