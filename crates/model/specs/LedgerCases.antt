-- Worked pages of the ledger, a collection, and placements. Definitions only. Assumes nothing.
-- Source: document 01, "The list and the book".
--   pages             what the ledger holds after some entries, for two cores and two sources
--   collected         which requests compete, what the collection holds, what a placement gives each core, and what the boxes place
--   PlacementsTold    placements, and neighbours that are none
use Rattle.std.specs.Prelude.{ℕ, suc, List, [], ◌∷◌, ◌++◌, Bool, true, false, not, ◌&&◌, cond, eqb}
use Rattle.std.specs.Bool.{beq}
use Rattle.model.specs.declared.Controller.{Controller}
use Rattle.model.specs.declared.Command.{Command}
use Rattle.model.specs.declared.Command.TheVariants.{OnSource, OnCore}
use Rattle.model.specs.declared.SourceAction.TheVariants.{SetSourcePriority, Mask, Unmask, Trigger, Redeliver, Complete}
use Rattle.model.specs.declared.CoreAction.TheVariants.{SetCorePriority, Claim}
use Rattle.model.specs.Records.{source_id, core_id, holding, core_with, with_core, reset}
use Rattle.model.specs.Ledger.{Request, no_request, open_request, claimed_request, Ledger, Entry, opening, ledger, competes, collection}
use Rattle.model.specs.Ledger.{Placement, given, in_boxes}
use Rattle.lists.specs.Rows.{row}
use Rattle.lists.specs.Sorting.{sort_down}
use Rattle.model.specs.Cases.{same_numbers}

-- ---- entries

abbrev refused_by : ℕ → Command → Entry
refused_by number c = record { command = c; number = number; id = 0 }

abbrev accepted : Command → Entry
accepted c = refused_by 0 c

abbrev source_priority : ℕ → ℕ → Entry
source_priority id p = accepted (OnSource (source_id id) (SetSourcePriority p))

abbrev mask : ℕ → Entry
mask id = accepted (OnSource (source_id id) Mask)

abbrev unmask : ℕ → Entry
unmask id = accepted (OnSource (source_id id) Unmask)

abbrev core_priority : ℕ → ℕ → Entry
core_priority k p = accepted (OnCore (core_id k) (SetCorePriority p))

abbrev trigger : ℕ → Entry
trigger id = accepted (OnSource (source_id id) Trigger)

-- The claim of core k that answered an id.
abbrev claim : ℕ → ℕ → Entry
claim k id = record { command = OnCore (core_id k) Claim; number = 0; id = id }

abbrev redeliver : ℕ → Entry
redeliver id = accepted (OnSource (source_id id) Redeliver)

abbrev complete : ℕ → Entry
complete id = accepted (OnSource (source_id id) Complete)

-- ---- pages

pub record Page : Type 0 where
  pub entries : List Entry
  -- configured priorities of cores 0 and 1, and of sources 1 and 2; the masks and requests of those sources
  pub cores : List ℕ
  pub configured : List ℕ
  pub masks : List Bool
  pub requests : List Request

abbrev page : List Entry → List ℕ → List ℕ → List Bool → List Request → Page
page entries cores configured masks requests =
    record { entries = entries; cores = cores; configured = configured; masks = masks; requests = requests }

abbrev pub same_request : Request → Request → Bool
same_request no_request no_request = true
same_request no_request (open_request q) = false
same_request no_request (claimed_request q) = false
same_request (open_request p) no_request = false
same_request (open_request p) (open_request q) = eqb p q
same_request (open_request p) (claimed_request q) = false
same_request (claimed_request p) no_request = false
same_request (claimed_request p) (open_request q) = false
same_request (claimed_request p) (claimed_request q) = eqb p q

-- The list's values are those of f from a number on.
abbrev pub listed : {A : Type 0} → (A → A → Bool) → (ℕ → A) → ℕ → List A → Bool
listed same f at [] = true
listed same f at (x ∷ xs) = same (f at) x && listed same f (suc at) xs

abbrev pub reads : Ledger → Page → Bool
reads b p =
    listed eqb b.core 0 p.cores &&
    listed eqb b.configured 1 p.configured &&
    listed beq b.masked 1 p.masks && listed same_request b.request 1 p.requests

unfoldable pub all_read : List Page → Bool
all_read [] = true
all_read (p ∷ ps) = reads (ledger opening p.entries) p && all_read ps

-- A request of source 2 at priority 5, its source set to 6 afterwards, which the commands refuse by 9; the same claimed by core 1.
abbrev opened : List Entry
opened = source_priority 2 5 ∷ trigger 2 ∷ source_priority 2 6 ∷ []

abbrev taken : List Entry
taken = opened ++ (claim 1 2 ∷ [])

abbrev pair : {A : Type 0} → A → A → List A
pair x y = x ∷ y ∷ []

abbrev idle : List Request
idle = pair no_request no_request

abbrev masked : List Bool
masked = pair true true

-- In document 01's order: the opening; refused commands; priorities; masks; trigger, claim, redeliver, complete.
unfoldable pub pages : List Page
pages =
    page [] (pair 0 0) (pair 1 1) masked idle ∷
    page (refused_by 5 (OnSource (source_id 2) (SetSourcePriority 9)) ∷ []) (pair 0 0) (pair 1 1) masked idle ∷
    page (source_priority 2 5 ∷ []) (pair 0 0) (pair 1 5) masked idle ∷
    page (core_priority 1 4 ∷ []) (pair 0 4) (pair 1 1) masked idle ∷
    page (unmask 2 ∷ []) (pair 0 0) (pair 1 1) (pair true false) idle ∷
    page (unmask 2 ∷ mask 2 ∷ []) (pair 0 0) (pair 1 1) masked idle ∷
    page opened (pair 0 0) (pair 1 6) masked (pair no_request (open_request 5)) ∷
    page taken (pair 0 5) (pair 1 6) masked (pair no_request (claimed_request 5)) ∷
    page (taken ++ (refused_by 6 (OnSource (source_id 2) Trigger) ∷ [])) (pair 0 5) (pair 1 6) masked (pair no_request (claimed_request 5)) ∷
    page (taken ++ (redeliver 2 ∷ [])) (pair 0 5) (pair 1 6) masked (pair no_request (open_request 5)) ∷
    page (taken ++ (complete 2 ∷ [])) (pair 0 5) (pair 1 6) masked idle ∷ []

-- ---- a collection

-- Six sources, two cores. Core 0 is at 2, core 1 at 3. Request 1 (priority 5) is masked and lies in core 0's box; 2 (priority 3) waits
-- unmasked; 3 (priority 6) waits masked; 4 (priority 7) is unmasked and claimed; 5 (priority 1) waits unmasked; 6 is unmasked and has
-- none. Ids 0 and 7, which are no sources, have open requests in the ledger.
unfoldable pub book : Ledger
book =
    ledger opening
    (source_priority 1 5 ∷ trigger 1 ∷
    source_priority 2 3 ∷ unmask 2 ∷ trigger 2 ∷
    source_priority 3 6 ∷ trigger 3 ∷
    source_priority 4 7 ∷ unmask 4 ∷ trigger 4 ∷ claim 1 4 ∷
    unmask 5 ∷ trigger 5 ∷ unmask 6 ∷
    unmask 0 ∷ trigger 0 ∷ unmask 7 ∷ trigger 7 ∷
    core_priority 0 2 ∷ core_priority 1 3 ∷ [])

unfoldable pub boxes : Controller
boxes = with_core (reset 6 2) 0 (core_with 2 (holding (source_id 1) 5))

abbrev competing : ℕ → Bool
competing id = competes 6 2 book boxes id

-- Request a for core 0 and request b for core 1; 0 for none.
abbrev pub placing : ℕ → ℕ → ℕ → ℕ
placing a b k = cond (eqb k 0) a (cond (eqb k 1) b 0)

unfoldable pub collected : List Bool
collected =
    competing 1 ∷
    competing 2 ∷
    not (competing 3) ∷
    not (competing 4) ∷
    competing 5 ∷
    not (competing 6) ∷
    not (competing 0) ∷
    not (competing 7) ∷
    same_numbers (sort_down (collection 6 2 book boxes)) (5 ∷ 3 ∷ 3 ∷ 2 ∷ 1 ∷ []) ∷
    same_numbers (row 2 (given book (placing 2 1))) (pair 3 5) ∷
    same_numbers (row 2 (given book (placing 0 1))) (pair 2 5) ∷
    same_numbers (row 2 (given book (placing 0 0))) (pair 2 3) ∷
    same_numbers (row 2 (in_boxes boxes)) (pair 1 0) ∷ []

-- ---- placements

abbrev pub Placed : ℕ → ℕ → Type 0
Placed a b = Placement 6 2 book boxes (placing a b)

-- Some that are placements, and neighbours that are none.
pub record PlacementsTold : Type 0 where
  pub both_placed : Placed 2 1
  pub none_placed : Placed 0 0
  -- request 2 has the priority of core 1, request 5 one below that of core 0
  pub not_equal : ¬ (Placed 0 2)
  pub not_below : ¬ (Placed 5 0)
  pub not_twice : ¬ (Placed 1 1)
  -- a masked request that waits, and a claimed one
  pub not_masked : ¬ (Placed 3 0)
  pub not_claimed : ¬ (Placed 4 0)
