-- The marked cases T1 to T12 of document 01's "Table of runs", and some further rows of it, as one list. Definitions only.
-- A case is a list of commands from a state, the table's start state unless said, then one command with what it must answer.
--   start           n = 32, m = 2, every source unmasked with priority equal to its id
--   apart           a sound state in which a request's priority isn't its source's; no list of commands leads there from start
--   passes s c      whether the definitions answer from s as the case says
--   drop_cases       what is counted as dropped, and what isn't
use Rattle.std.specs.Prelude.{ℕ, zero, suc, List, [], ◌∷◌, ◌++◌, Bool, true, false, ◌&&◌, eqb}
use Rattle.model.specs.declared.Controller.{Controller}
use Rattle.model.specs.declared.Answer.{Answer}
use Rattle.model.specs.declared.Command.{Command}
use Rattle.model.specs.declared.Command.TheVariants.{OnSource, OnCore}
use Rattle.model.specs.declared.SourceAction.TheVariants.{SetSourcePriority, Mask, Unmask, Trigger, Redeliver, Complete}
use Rattle.model.specs.declared.CoreAction.TheVariants.{SetCorePriority, Claim}
use Rattle.model.specs.Records.{source_id, core_id, source_with, source_at, core_at, with_configured, with_mask, with_dropped, with_source}
use Rattle.model.specs.Records.{reset_source, reset}
use Rattle.model.specs.Requests.{waiting, holds, claimed, Owner, by_source, by_box, by_software}
use Rattle.model.specs.Commands.{execute, run}
use Rattle.model.specs.Ledger.{current_priorities}

-- ---- the commands, by numbers

source_priority : ℕ → ℕ → Command
source_priority id p = OnSource (source_id id) (SetSourcePriority p)

mask : ℕ → Command
mask id = OnSource (source_id id) Mask

unmask : ℕ → Command
unmask id = OnSource (source_id id) Unmask

core_priority : ℕ → ℕ → Command
core_priority k p = OnCore (core_id k) (SetCorePriority p)

trigger : ℕ → Command
trigger id = OnSource (source_id id) Trigger

claim : ℕ → Command
claim k = OnCore (core_id k) Claim

redeliver : ℕ → Command
redeliver id = OnSource (source_id id) Redeliver

complete : ℕ → Command
complete id = OnSource (source_id id) Complete

-- ---- the start state, and the commands that set it up

unfoldable pub numbered : ℕ → Controller → Controller
numbered zero s = s
numbered (suc k) s = with_source (numbered k s) k (with_mask false (with_configured (suc k) reset_source))

unfoldable pub start : Controller
start = numbered 32 (reset 32 2)

unfoldable pub set_up : ℕ → List Command
unfolding source_priority unmask
set_up zero = []
set_up (suc k) = set_up k ++ (source_priority (suc k) (suc k) ∷ unmask (suc k) ∷ [])

-- ---- a case

-- Who owns the request of a source after the case's command.
pub record Sight : Type 0 where
  pub id : ℕ
  pub owner : Owner

pub record Case : Type 0 where
  pub before : List Command
  pub command : Command
  pub number : ℕ
  pub id : ℕ
  pub cycles : ℕ
  pub currents : List ℕ
  pub owners : List Sight

abbrev pub owned_by : Controller → ℕ → Owner → Bool
owned_by s i by_source = waiting (source_at s i)
owned_by s i (by_box k) = holds (suc i) (core_at s k)
owned_by s i by_software = claimed s i

abbrev pub same_numbers : List ℕ → List ℕ → Bool
same_numbers [] [] = true
same_numbers [] (y ∷ ys) = false
same_numbers (x ∷ xs) [] = false
same_numbers (x ∷ xs) (y ∷ ys) = eqb x y && same_numbers xs ys

-- Id 0 owns nothing: a sight of it fails.
abbrev pub seen : Controller → ℕ → Owner → Bool
seen s zero o = false
seen s (suc i) o = owned_by s i o

abbrev pub all_seen : Controller → List Sight → Bool
all_seen s [] = true
all_seen s (x ∷ xs) = seen s x.id x.owner && all_seen s xs

unfoldable pub answers_as : Case → Answer → Bool
answers_as c a =
    eqb a.number c.number &&
    eqb a.id.0 c.id &&
    eqb a.cycles c.cycles && same_numbers (current_priorities 2 a.state) c.currents && all_seen a.state c.owners

unfoldable pub passes : Controller → Case → Bool
passes s c = answers_as c (execute (run s c.before) c.command)

unfoldable pub all_pass : Controller → List Case → Bool
all_pass s [] = true
all_pass s (c ∷ cs) = passes s c && all_pass s cs

-- ---- the table

-- the request of source id waits, lies in the box of core k, or is claimed
waits : ℕ → Sight
waits id = record { id = id; owner = by_source }

in_box : ℕ → ℕ → Sight
in_box id k = record { id = id; owner = by_box k }

taken : ℕ → Sight
taken id = record { id = id; owner = by_software }

-- After the commands before it, a command answers number, id and cycles; the two cores show these current priorities, and these
-- owners are seen.
case : List Command → Command → ℕ → ℕ → ℕ → ℕ → ℕ → List Sight → Case
case before command number id cycles core0 core1 owners =
    record {
      before = before;
      command = command;
      number = number;
      id = id;
      cycles = cycles;
      currents = core0 ∷ core1 ∷ [];
      owners = owners;
    }

-- T1 to T12, in the table's order: the commands before, the command; number, id, cycles; the current priorities; the owners.
unfoldable pub marked : List Case
unfolding case source_priority mask unmask core_priority trigger claim redeliver complete waits in_box taken
marked =
    -- T1: source 4 still masked: it is pending and waits
    case (mask 4 ∷ []) (trigger 4) 0 0 0 0 0 (waits 4 ∷ []) ∷
    -- T2: core 0's box
    case [] (trigger 4) 0 0 1 4 0 (in_box 4 0 ∷ []) ∷
    -- T3
    case (trigger 4 ∷ []) (trigger 3) 0 0 1 4 3 (in_box 4 0 ∷ in_box 3 1 ∷ []) ∷
    -- T4: 3 is put back
    case (trigger 4 ∷ trigger 3 ∷ []) (trigger 5) 0 0 1 4 5 (waits 3 ∷ in_box 4 0 ∷ in_box 5 1 ∷ []) ∷
    -- T5
    case (trigger 4 ∷ trigger 3 ∷ trigger 5 ∷ []) (claim 0) 0 4 0 4 5 (taken 4 ∷ in_box 5 1 ∷ waits 3 ∷ []) ∷
    -- T5, again: the box is empty
    case (trigger 4 ∷ trigger 3 ∷ trigger 5 ∷ claim 0 ∷ []) (claim 0) 7 0 0 4 5 [] ∷
    -- T6: 5 lies in a box
    case (trigger 4 ∷ trigger 3 ∷ trigger 5 ∷ claim 0 ∷ []) (complete 5) 8 0 0 4 5 (in_box 5 1 ∷ []) ∷
    -- T7: the core's priority stays; 3 waits
    case (trigger 4 ∷ trigger 3 ∷ trigger 5 ∷ claim 0 ∷ []) (complete 4) 0 0 0 4 5 (waits 3 ∷ in_box 5 1 ∷ []) ∷
    -- T8: one retraction, two deliveries
    case (trigger 4 ∷ trigger 3 ∷ trigger 5 ∷ claim 0 ∷ complete 4 ∷ []) (core_priority 0 0) 0 0 3 5 3 (in_box 5 0 ∷ in_box 3 1 ∷ []) ∷
    -- T9
    case (core_priority 0 3 ∷ core_priority 1 100 ∷ []) (trigger 4) 0 0 1 4 100 (in_box 4 0 ∷ []) ∷
    -- T9, then: 002's own example
    case (core_priority 0 3 ∷ core_priority 1 100 ∷ trigger 4 ∷ []) (core_priority 1 0) 0 0 2 3 4 (in_box 4 1 ∷ []) ∷
    -- T10: a request of the cores' own priority interrupts nobody
    case (core_priority 0 4 ∷ core_priority 1 4 ∷ []) (trigger 4) 0 0 0 4 4 (waits 4 ∷ []) ∷
    -- T11: the box on core 1
    case (trigger 4 ∷ claim 0 ∷ []) (redeliver 4) 0 0 1 4 4 (in_box 4 1 ∷ []) ∷
    -- T12
    case (trigger 4 ∷ []) (trigger 4) 6 0 0 4 0 (in_box 4 0 ∷ []) ∷
    []

-- Further rows of the table, the rules for a tie between requests and between cores, and what mask, unmask and complete leave alone.
unfoldable pub further : List Case
unfolding case source_priority mask unmask core_priority trigger claim redeliver complete waits in_box taken
further =
    -- T10, then set source 4 to 9: document 02, request 5
    case (core_priority 0 4 ∷ core_priority 1 4 ∷ trigger 4 ∷ []) (source_priority 4 9) 9 0 0 4 4 (waits 4 ∷ []) ∷
    -- 4 waits masked, lies in a box, is claimed; also to the priority that it has
    case (mask 4 ∷ trigger 4 ∷ []) (source_priority 4 9) 9 0 0 0 0 (waits 4 ∷ []) ∷
    case (trigger 4 ∷ []) (source_priority 4 9) 9 0 0 4 0 (in_box 4 0 ∷ []) ∷
    case (trigger 4 ∷ claim 0 ∷ []) (source_priority 4 9) 9 0 0 4 0 (taken 4 ∷ []) ∷
    case (trigger 4 ∷ []) (source_priority 4 4) 9 0 0 4 0 (in_box 4 0 ∷ []) ∷
    -- 4 and 5 are checked first; id 0 would stand where source 1 does
    case (trigger 1 ∷ []) (source_priority 0 9) 4 0 0 1 0 (in_box 1 0 ∷ []) ∷
    case (trigger 4 ∷ []) (source_priority 4 128) 5 0 0 4 0 (in_box 4 0 ∷ []) ∷
    -- another source's request is no matter, nor is one that is completed: the next request has the priority set
    case (trigger 4 ∷ []) (source_priority 5 9) 0 0 0 4 0 (in_box 4 0 ∷ []) ∷
    case (trigger 4 ∷ claim 0 ∷ complete 4 ∷ source_priority 4 9 ∷ []) (trigger 4) 0 0 1 4 9 (in_box 4 1 ∷ []) ∷
    -- source priority 127
    case [] (source_priority 4 127) 0 0 0 0 0 [] ∷
    -- source priority 128
    case [] (source_priority 4 128) 5 0 0 0 0 [] ∷
    -- source priority 0
    case [] (source_priority 4 0) 5 0 0 0 0 [] ∷
    -- core priority 0
    case [] (core_priority 1 0) 0 0 0 0 0 [] ∷
    -- core priority 128
    case [] (core_priority 1 128) 5 0 0 0 0 [] ∷
    -- id 33 with priority 0: the id is checked first
    case [] (source_priority 33 0) 4 0 0 0 0 [] ∷
    -- core 2 of two, with a priority above top: the core is checked first
    case [] (core_priority 2 128) 3 0 0 0 0 [] ∷
    -- 4 in a box, then masked: it can be claimed
    case (trigger 4 ∷ mask 4 ∷ []) (claim 0) 0 4 0 4 0 (taken 4 ∷ []) ∷
    -- 4 in a box, then masked: after any set core priority it waits
    case (trigger 4 ∷ mask 4 ∷ []) (core_priority 1 0) 0 0 1 0 0 (waits 4 ∷ []) ∷
    -- two requests of one priority: the lower id is delivered first
    case (core_priority 0 127 ∷ core_priority 1 127 ∷ source_priority 7 5 ∷ trigger 7 ∷ trigger 5 ∷ []) (core_priority 0 0) 0 0 1 5 127
    (in_box 5 0 ∷ waits 7 ∷ []) ∷
    -- document 02, request 2: cores at 3 and 1, a request of 3, then one of 9: 3 is put back, and core 0 isn't disturbed
    case (core_priority 0 3 ∷ core_priority 1 1 ∷ trigger 3 ∷ []) (trigger 9) 0 0 1 3 9 (in_box 9 1 ∷ waits 3 ∷ []) ∷
    -- a lower current priority goes before a filled box
    case (core_priority 1 3 ∷ trigger 4 ∷ []) (trigger 9) 0 0 1 4 9 (in_box 4 0 ∷ in_box 9 1 ∷ []) ∷
    -- mask answers no id
    case [] (mask 4) 0 0 0 0 0 [] ∷
    -- a masked request that waits: unmask delivers it, and answers no id
    case (mask 4 ∷ trigger 4 ∷ []) (unmask 4) 0 0 1 4 0 (in_box 4 0 ∷ []) ∷
    -- complete leaves the mask: the next request waits
    case (trigger 4 ∷ claim 0 ∷ mask 4 ∷ complete 4 ∷ []) (trigger 4) 0 0 0 4 0 (waits 4 ∷ []) ∷
    []

-- ---- a request whose priority isn't its source's

-- T10 with source 4 at 9 under its request of 4, which set source priority refuses.
unfoldable pub apart : Controller
unfolding core_priority trigger
apart = with_source (run start (core_priority 0 4 ∷ core_priority 1 4 ∷ trigger 4 ∷ [])) 3 (source_with 9 false true false 4 0)

-- Sound, so commands are accepted, and the request's own priority counts: 4 waits on; delivered, its core shows 4.
unfoldable pub asked : List Case
unfolding case source_priority mask unmask core_priority trigger claim redeliver complete waits in_box taken
asked =
    case [] (trigger 3) 0 0 0 4 4 (waits 3 ∷ waits 4 ∷ []) ∷
    case [] (unmask 4) 0 0 0 4 4 (waits 4 ∷ []) ∷
    case [] (core_priority 1 0) 0 0 1 4 4 (in_box 4 1 ∷ []) ∷
    case [] (source_priority 4 4) 9 0 0 4 4 (waits 4 ∷ []) ∷
    []

-- ---- dropped triggers: document 02, request 7

-- Commands from the start state with so many triggers of source 4 dropped already, and the counts of sources 3, 4 and 5 after them.
pub record DropCase : Type 0 where
  pub already : ℕ
  pub commands : List Command
  pub counts : List ℕ

abbrev pub four_dropped : ℕ → Controller
four_dropped x = with_source start 3 (with_dropped x (source_at start 3))

abbrev pub counts_of : Controller → List ℕ
counts_of s = (source_at s 2).dropped ∷ (source_at s 3).dropped ∷ (source_at s 4).dropped ∷ []

unfoldable pub all_counted : List DropCase → Bool
all_counted [] = true
all_counted (d ∷ ds) = same_numbers (counts_of (run (four_dropped d.already) d.commands)) d.counts && all_counted ds

-- What is counted of source 4.
drop : ℕ → List Command → ℕ → DropCase
drop already commands count = record { already = already; commands = commands; counts = 0 ∷ count ∷ 0 ∷ [] }

unfoldable pub drop_cases : List DropCase
unfolding drop source_priority mask unmask core_priority trigger claim redeliver complete
drop_cases =
    -- in a box, waiting masked, claimed
    drop 0 (trigger 4 ∷ trigger 4 ∷ []) 1 ∷
    drop 0 (mask 4 ∷ trigger 4 ∷ trigger 4 ∷ trigger 4 ∷ []) 2 ∷
    drop 0 (trigger 4 ∷ claim 0 ∷ trigger 4 ∷ []) 1 ∷
    -- what is accepted leaves it: redeliver, complete, set source priority, a new trigger
    drop 7 (trigger 4 ∷ claim 0 ∷ redeliver 4 ∷ claim 1 ∷ complete 4 ∷ source_priority 4 9 ∷ trigger 4 ∷ core_priority 0 31 ∷ []) 7 ∷
    -- so does every other refusal: 8, 8, 9, 4, 4, 5, 7
    drop 0
    (mask 4 ∷ trigger 4 ∷ complete 4 ∷ redeliver 4 ∷ source_priority 4 4 ∷ trigger 0 ∷ trigger 33 ∷ source_priority 4 0 ∷ claim 0 ∷ []) 0 ∷
    -- held at 65,535
    drop 65533 (trigger 4 ∷ trigger 4 ∷ []) 65534 ∷
    drop 65534 (trigger 4 ∷ trigger 4 ∷ []) 65535 ∷
    drop 65535 (trigger 4 ∷ trigger 4 ∷ trigger 4 ∷ []) 65535 ∷
    []
