-- Triggers that were dropped, counted from commands and what they answered, nothing of the state. Definitions only. Assumes nothing.
-- Source: document 02, request 7: "a count of triggers refused by 6".
--   drops id c number    the command c is a trigger of source id, and was answered by 6
--   drops_in id es        how many of the entries are
use Rattle.std.specs.Prelude.{ℕ, ◌+◌, List, [], ◌∷◌, Bool, true, false, ◌&&◌, cond, eqb}
use Rattle.model.specs.declared.Command.{Command}
use Rattle.model.specs.declared.Command.TheVariants.{OnSource, OnCore}
use Rattle.model.specs.declared.SourceAction.{SourceAction}
use Rattle.model.specs.declared.SourceAction.TheVariants.{SetSourcePriority, Mask, Unmask, Trigger, Redeliver, Complete}
use Rattle.model.specs.Commands.{already_pending}
use Rattle.model.specs.Ledger.{Entry}

abbrev pub is_trigger : SourceAction → Bool
is_trigger (SetSourcePriority p) = false
is_trigger Mask = false
is_trigger Unmask = false
is_trigger Trigger = true
is_trigger Redeliver = false
is_trigger Complete = false

abbrev pub drops : ℕ → Command → ℕ → Bool
drops id (OnSource x a) number = is_trigger a && eqb x.0 id && eqb number already_pending
drops id (OnCore k a) number = false

unfoldable pub drops_in : ℕ → List Entry → ℕ
drops_in id [] = 0
drops_in id (e ∷ es) = cond (drops id e.command e.number) 1 0 + drops_in id es
