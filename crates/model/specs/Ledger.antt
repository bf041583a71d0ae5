-- The ledger of a list of commands, and what is read off it. Definitions only. Assumes nothing.
-- Source: document 01, "The list and the book". Document 01's word is "book".
--   post b e                 the ledger after one entry: a command with the number and id that it answered, nothing else
--   answers_to s cs           what a list of commands answers; `answers_by` of any behaviour
--   entries s cs             each command of a list with the number and id that it answered
--   competes n m b s id      the request of id 1 to n is open, and lies in a box of cores 0 to m - 1 of s or waits unmasked
--   collection n m b s       every core's configured priority, and the priority of every request that competes
--   Placement n m b s P      P gives each core k below m a request P k, or none (0)
--   placed_by m P             how many requests it gives; `filled_boxes m s` how many boxes are filled
--   sort_down l               l sorted from the top, repeats kept
-- Of the state only the boxes and the cores' current priorities are read.
use Rattle.std.specs.Prelude.{ℕ, suc, ◌<◌, ◌≤◌, ◌≡◌, List, [], ◌∷◌, ◌++◌, Bool, true, false, not, ◌&&◌, ◌||◌, cond, ltb, eqb}
use Rattle.lists.specs.Rows.{gather, row, write}
use Rattle.lists.specs.Walks.{tally}
use Rattle.model.specs.declared.Controller.{Controller}
use Rattle.model.specs.declared.Answer.{Answer}
use Rattle.model.specs.declared.Command.{Command}
use Rattle.model.specs.declared.Command.TheVariants.{OnSource, OnCore}
use Rattle.model.specs.declared.SourceAction.{SourceAction}
use Rattle.model.specs.declared.SourceAction.TheVariants.{SetSourcePriority, Mask, Unmask, Trigger, Redeliver, Complete}
use Rattle.model.specs.declared.CoreAction.{CoreAction}
use Rattle.model.specs.declared.CoreAction.TheVariants.{SetCorePriority, Claim}
use Rattle.model.specs.Records.{core_at}
use Rattle.model.specs.Requests.{current_priority, boxed}
use Rattle.lists.specs.Numbers.{between}
use Rattle.model.specs.Commands.{execute}
use Rattle.model.specs.Behaviours.{Behaviour, answers_by}

-- ---- the ledger

-- At most one request of a source, with its own priority.
pub data Request : Type 0 where
  no_request : Request
  open_request : ℕ → Request
  claimed_request : ℕ → Request

-- By core number, and by source id.
pub record Ledger : Type 0 where
  pub core : ℕ → ℕ
  pub configured : ℕ → ℕ
  pub masked : ℕ → Bool
  pub request : ℕ → Request

pub record Entry : Type 0 where
  pub command : Command
  pub number : ℕ
  pub id : ℕ

abbrev pub opening : Ledger
opening = record { core = λ k. 0; configured = λ id. 1; masked = λ id. true; request = λ id. no_request }

abbrev pub priority_of : Request → ℕ
priority_of no_request = 0
priority_of (open_request p) = p
priority_of (claimed_request p) = p

abbrev pub is_open : Request → Bool
is_open no_request = false
is_open (open_request p) = true
is_open (claimed_request p) = false

abbrev pub write_core : ℕ → ℕ → Ledger → Ledger
write_core k p b =
    record { core = write b.core k p; configured = b.configured; masked = b.masked; request = b.request }

abbrev pub write_configured : ℕ → ℕ → Ledger → Ledger
write_configured id p b =
    record { core = b.core; configured = write b.configured id p; masked = b.masked; request = b.request }

abbrev pub write_mask : ℕ → Bool → Ledger → Ledger
write_mask id x b =
    record { core = b.core; configured = b.configured; masked = write b.masked id x; request = b.request }

abbrev pub write_request : ℕ → Request → Ledger → Ledger
write_request id r b =
    record { core = b.core; configured = b.configured; masked = b.masked; request = write b.request id r }

-- An accepted command on a source.
abbrev pub post_source : Ledger → ℕ → SourceAction → Ledger
post_source b id (SetSourcePriority p) = write_configured id p b
post_source b id Mask = write_mask id true b
post_source b id Unmask = write_mask id false b
post_source b id Trigger = write_request id (open_request (b.configured id)) b
post_source b id Redeliver = write_request id (open_request (priority_of (b.request id))) b
post_source b id Complete = write_request id no_request b

-- An accepted command on a core, with the id it answered.
abbrev pub post_core : Ledger → ℕ → CoreAction → ℕ → Ledger
post_core b k (SetCorePriority p) answered = write_core k p b
post_core b k Claim answered =
    write_core k (priority_of (b.request answered)) (write_request answered (claimed_request (priority_of (b.request answered))) b)

unfoldable pub post_accepted : Ledger → Command → ℕ → Ledger
post_accepted b (OnSource id a) answered = post_source b id.0 a
post_accepted b (OnCore k a) answered = post_core b k.0 a answered

-- A command answering a number other than 0 changes nothing.
unfoldable pub post : Ledger → Entry → Ledger
post b e = cond (eqb e.number 0) (post_accepted b e.command e.id) b

unfoldable pub ledger : Ledger → List Entry → Ledger
ledger b [] = b
ledger b (e ∷ es) = ledger (post b e) es

abbrev pub entry_with : Command → ℕ → ℕ → Entry
entry_with c number id = record { command = c; number = number; id = id }

-- Each command with the number and the id that it answered.
unfoldable pub paired : List Command → List Answer → List Entry
paired [] answers = []
paired (c ∷ cs) [] = []
paired (c ∷ cs) (a ∷ answers) = entry_with c a.number a.id.0 ∷ paired cs answers

-- What goes into the ledger, of any behaviour; and of the commands as defined.
abbrev pub entries_by : Behaviour → Controller → List Command → List Entry
entries_by x s cs = paired cs (answers_by x s cs)

abbrev pub entry_of : Controller → Command → Entry
entry_of s c = entry_with c (execute s c).number (execute s c).id.0

abbrev pub answers_to : Controller → List Command → List Answer
answers_to s cs = answers_by execute s cs

abbrev pub entries : Controller → List Command → List Entry
entries s cs = entries_by execute s cs

-- ---- the collection, and placements

-- An open request lies in a box if a filled box of the state handed back names it, else it waits.
unfoldable pub competes : ℕ → ℕ → Ledger → Controller → ℕ → Bool
competes n m b s id = between 1 n id && is_open (b.request id) && (boxed s.cores m id || not (b.masked id))

abbrev pub request_priority : Ledger → ℕ → ℕ
request_priority b id = priority_of (b.request id)

unfoldable pub collection : ℕ → ℕ → Ledger → Controller → List ℕ
collection n m b s =
    row m b.core ++ gather n (λ i. cond (competes n m b s (suc i)) (request_priority b (suc i) ∷ []) [])

pub record Placement (n m : ℕ) (b : Ledger) (s : Controller) (P : ℕ → ℕ) : Type 0 where
  -- only requests whose priorities the collection holds, each above its core's configured priority
  pub placed : (k : ℕ) → k < m → 1 ≤ P k → competes n m b s (P k) ≡ true
  pub above : (k : ℕ) → k < m → 1 ≤ P k → b.core k < request_priority b (P k)
  -- none used twice
  pub once : (j k : ℕ) → j < m → k < m → 1 ≤ P j → P j ≡ P k → j ≡ k

-- The current priority that a placement gives core k.
abbrev pub given : Ledger → (ℕ → ℕ) → ℕ → ℕ
given b P k = cond (ltb 0 (P k)) (request_priority b (P k)) (b.core k)

-- The filled boxes, as such a function.
abbrev pub in_boxes : Controller → ℕ → ℕ
in_boxes s k = cond (core_at s k).message.filled (core_at s k).message.source.0 0

abbrev pub current_priorities : ℕ → Controller → List ℕ
current_priorities m s = row m (λ k. current_priority (core_at s k))

-- How many requests a placement gives to cores 0 to m - 1, and how many of their boxes are filled.
abbrev pub placed_by : ℕ → (ℕ → ℕ) → ℕ
placed_by m P = tally m (λ k. ltb 0 (P k))

abbrev pub filled_boxes : ℕ → Controller → ℕ
filled_boxes m s = tally m (λ k. (core_at s k).message.filled)
