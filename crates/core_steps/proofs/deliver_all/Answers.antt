-- `core_steps::deliver_all` meets its contract: each turn is the next cycle. Assumes nothing.
use Rattle.core_steps.proofs.Deliveries.{delivered_none, turn_fits, turn_rests, turn_source, turn_core, turn_names}
use Rattle.core_steps.proofs.Deliveries.{delivered_more, delivered_rest, delivered_all}
use Rattle.core_steps.proofs.deliver_all.Goals as goal

pub loop-t-init : goal.loop-t-init
loop-t-init c = delivered_none c.requires

pub returns-then-priority_of-current_of : goal.returns-then-priority_of-current_of
returns-then-priority_of-current_of c =
    delivered_rest c.loop-t.invariant
    (turn_rests c.loop-t.invariant c.sources_in-n.ensures c.cores_in-m.ensures c.greatest-top.ensures c.lowest-key.ensures
    c.priority_of.ensures c.current_of.ensures c.if-priority_of-current_of.true)

pub source_of-i-requires : goal.source_of-i-requires
source_of-i-requires c = turn_fits c.loop-t.invariant c.sources_in-n.ensures c.cores_in-m.ensures c.greatest-top.ensures c.lowest-key.ensures

pub source_at-r-requires : goal.source_at-r-requires
source_at-r-requires c = (
  c.loop-t.invariant.held.size,
  turn_source c.loop-t.invariant c.sources_in-n.ensures c.cores_in-m.ensures c.greatest-top.ensures c.lowest-key.ensures
      c.priority_of.ensures c.current_of.ensures c.if-priority_of-current_of.false c.source_of-i.ensures c.core_of-k.ensures,
)

pub core_at-c-requires : goal.core_at-c-requires
core_at-c-requires c = (
  c.loop-t.invariant.held.size,
  turn_core c.loop-t.invariant c.sources_in-n.ensures c.cores_in-m.ensures c.greatest-top.ensures c.lowest-key.ensures
      c.priority_of.ensures c.current_of.ensures c.if-priority_of-current_of.false c.source_of-i.ensures c.core_of-k.ensures,
)

pub deliver-requires : goal.deliver-requires
deliver-requires c = (
  c.loop-t.invariant.held.size,
  turn_source c.loop-t.invariant c.sources_in-n.ensures c.cores_in-m.ensures c.greatest-top.ensures c.lowest-key.ensures
      c.priority_of.ensures c.current_of.ensures c.if-priority_of-current_of.false c.source_of-i.ensures c.core_of-k.ensures,
  turn_core c.loop-t.invariant c.sources_in-n.ensures c.cores_in-m.ensures c.greatest-top.ensures c.lowest-key.ensures
      c.priority_of.ensures c.current_of.ensures c.if-priority_of-current_of.false c.source_of-i.ensures c.core_of-k.ensures,
  turn_names c.loop-t.invariant c.sources_in-n.ensures c.cores_in-m.ensures c.greatest-top.ensures c.lowest-key.ensures
      c.priority_of.ensures c.current_of.ensures c.if-priority_of-current_of.false c.source_of-i.ensures c.core_of-k.ensures c.core_at-c.ensures,
)

pub loop-t-preserved : goal.loop-t-preserved
loop-t-preserved c =
    delivered_more c.loop-t.invariant c.sources_in-n.ensures c.cores_in-m.ensures c.greatest-top.ensures c.lowest-key.ensures
    c.priority_of.ensures c.current_of.ensures c.if-priority_of-current_of.false c.source_of-i.ensures c.core_of-k.ensures c.core_at-c.ensures c.source_at-r.ensures
    c.deliver.ensures c.loop-t-test.true

pub returns : goal.returns
returns c = delivered_all c.loop-t.invariant c.requires c.cores_in-m.ensures c.loop-t-test.false
