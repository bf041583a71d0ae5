-- The checks of a command by the one record that it looks at. Helpers of contracts; nothing here needs to be believed: they are those of
-- `source_refusal` and `core_refusal`.
--   source_refusal_by n r claimed a    of an action on a source's record r; claimed says whether its request is
--   core_refusal_by n c a              of an action on a core's record c
use Rattle.std.specs.Prelude.{ℕ, Bool, not, leb}
use Rattle.lists.specs.Numbers.{between}
use Rattle.model.specs.declared.Source.{Source}
use Rattle.model.specs.declared.Core.{Core}
use Rattle.model.specs.declared.SourceAction.{SourceAction}
use Rattle.model.specs.declared.SourceAction.TheVariants.{SetSourcePriority, Mask, Unmask, Trigger, Redeliver, Complete}
use Rattle.model.specs.declared.CoreAction.{CoreAction}
use Rattle.model.specs.declared.CoreAction.TheVariants.{SetCorePriority, Claim}
use Rattle.model.specs.Priorities.{top_priority}
use Rattle.model.specs.Commands.{bad_priority, already_pending, nothing_to_claim, not_claimed, priority_in_use, unless}

abbrev pub source_refusal_by : ℕ → Source → Bool → SourceAction → ℕ
source_refusal_by n r claimed (SetSourcePriority p) =
    unless (between 1 (top_priority n) p) bad_priority (unless (not r.pending) priority_in_use 0)
source_refusal_by n r claimed Mask = 0
source_refusal_by n r claimed Unmask = 0
source_refusal_by n r claimed Trigger = unless (not r.pending) already_pending 0
source_refusal_by n r claimed Redeliver = unless claimed not_claimed 0
source_refusal_by n r claimed Complete = unless claimed not_claimed 0

abbrev pub core_refusal_by : ℕ → Core → CoreAction → ℕ
core_refusal_by n c (SetCorePriority p) = unless (leb p (top_priority n)) bad_priority 0
core_refusal_by n c Claim = unless c.message.filled nothing_to_claim 0
