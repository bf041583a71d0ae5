-- `source_steps::offer` meets its contract: the two numbers tell whether the definition delivers. Assumes nothing.
use Rattle.std.proofs.Common.{arith, rules, refl}
use Rattle.source_steps.proofs.Offering.{core_fits, names_one, offer_rests, offer_delivers}
use Rattle.source_steps.proofs.offer.Goals as goal

pub returns-then-priority_of-current_of : goal.returns-then-priority_of-current_of
returns-then-priority_of-current_of c =
    offer_rests c.requires c.lowest-key.ensures c.priority_of.ensures c.current_of.ensures
    (omega (arith, c.if-priority_of-current_of.true)) (refl, c.after-then-priority_of-current_of.ensures.0, c.after-then-priority_of-current_of.ensures.1)

pub core_at-c-requires : goal.core_at-c-requires
core_at-c-requires c = (c.requires.held.size, core_fits c.requires c.lowest-key.ensures c.core_of-k.ensures)

pub deliver-requires : goal.deliver-requires
deliver-requires c =
    let given = c.requires in (
      given.held.size,
      search rules,
      core_fits given c.lowest-key.ensures c.core_of-k.ensures,
      names_one given c.lowest-key.ensures c.core_of-k.ensures c.core_at-c.ensures,
    )

pub returns : goal.returns
returns c =
    offer_delivers c.requires c.lowest-key.ensures c.core_of-k.ensures c.core_at-c.ensures c.priority_of.ensures
    c.current_of.ensures (omega (arith, c.if-priority_of-current_of.false)) c.deliver.ensures (refl, c.after-2.ensures.0, c.after-2.ensures.1)
