-- A command as three numbers. Definitions only. Assumes nothing.
-- Source: document 01's numbers 0 to 7 of the commands ("The bus monitor's text").
-- The numbers are the command's own, 0 to 7; the id or the core; and the priority, which only 0 and 3 use.
--   command_of number at p                the command that they name; a number above 7 names none
--   number_of c, target_of c, level_of c    the numbers of a command; one without a priority has 0 there
use Rattle.std.specs.Prelude.{ℕ, cond, eqb, Option, Some, None}
use Rattle.model.specs.declared.Command.{Command}
use Rattle.model.specs.declared.Command.TheVariants.{OnSource, OnCore}
use Rattle.model.specs.declared.SourceAction.{SourceAction}
use Rattle.model.specs.declared.SourceAction.TheVariants.{SetSourcePriority, Mask, Unmask, Trigger, Redeliver, Complete}
use Rattle.model.specs.declared.CoreAction.{CoreAction}
use Rattle.model.specs.declared.CoreAction.TheVariants.{SetCorePriority, Claim}
use Rattle.model.specs.Records.{source_id, core_id}

abbrev pub on_source : ℕ → SourceAction → Option Command
on_source at a = Some (OnSource (source_id at) a)

abbrev pub on_core : ℕ → CoreAction → Option Command
on_core at a = Some (OnCore (core_id at) a)

unfoldable pub command_of : ℕ → ℕ → ℕ → Option Command
command_of number at p =
    cond (eqb number 0) (on_source at (SetSourcePriority p))
    (cond (eqb number 1) (on_source at Mask)
    (cond (eqb number 2) (on_source at Unmask)
    (cond (eqb number 3) (on_core at (SetCorePriority p))
    (cond (eqb number 4) (on_source at Trigger)
    (cond (eqb number 5) (on_core at Claim)
    (cond (eqb number 6) (on_source at Redeliver) (cond (eqb number 7) (on_source at Complete) None)))))))

abbrev pub source_number : SourceAction → ℕ
source_number (SetSourcePriority p) = 0
source_number Mask = 1
source_number Unmask = 2
source_number Trigger = 4
source_number Redeliver = 6
source_number Complete = 7

abbrev pub core_number : CoreAction → ℕ
core_number (SetCorePriority p) = 3
core_number Claim = 5

abbrev pub source_level : SourceAction → ℕ
source_level (SetSourcePriority p) = p
source_level Mask = 0
source_level Unmask = 0
source_level Trigger = 0
source_level Redeliver = 0
source_level Complete = 0

abbrev pub core_level : CoreAction → ℕ
core_level (SetCorePriority p) = p
core_level Claim = 0

abbrev pub number_of : Command → ℕ
number_of (OnSource id a) = source_number a
number_of (OnCore k a) = core_number a

-- the source's id or the core's number
abbrev pub target_of : Command → ℕ
target_of (OnSource id a) = id.0
target_of (OnCore k a) = k.0

abbrev pub level_of : Command → ℕ
level_of (OnSource id a) = source_level a
level_of (OnCore k a) = core_level a
