-- `vcd_reader::changes::pass` meets its contract. Assumes nothing.
use mathlib.Core.Path.{sym, ◌∙◌}
use Rattle.vcd_reader.proofs.Changing.{passes_vector, passes_level, passes_time, passes_turn}
use Rattle.vcd_reader.proofs.changes.pass.Goals as goal

pub returns-else-not-placed-clause-passed : goal.returns-else-not-placed-clause-passed
returns-else-not-placed-clause-passed c =
    let here = c.in_ok-b.ensures.lookup.3 in
    passes_vector _ c.args.i here.0 c.args.r.now c.requires _ c.in_ok-g.g _ (sym (here.1 0))
    (sym c.is_binary.ensures ∙ c.if-is_binary.true) c.in_ok-g.ensures (c.placed.ensures.taken c.if-not-placed.false)

pub returns-else-r-c-clause-passed : goal.returns-else-r-c-clause-passed
returns-else-r-c-clause-passed c =
    let here = c.in_ok-b.ensures.lookup.3 in
    rw c.bit_value-r.ensures
    (passes_level _ c.args.i here.0 c.args.r.now c.requires _ c.in_ok-c.c c.skip.result (sym (here.1 0))
    (sym c.is_bit.ensures ∙ c.if-is_bit.true) c.in_ok-c.ensures c.if-r-c.false c.skip.ensures)

pub returns-in_ok-t-clause-passed : goal.returns-in_ok-t-clause-passed
returns-in_ok-t-clause-passed c =
    let here = c.in_ok-b.ensures.lookup.3 in
    passes_time _ c.args.i here.0 c.args.r.now c.requires c.in_ok-t.t c.skip-then-b-eq35.result
    (sym (here.1 0) ∙ c.if-b-eq35.true) c.in_ok-t.ensures c.skip-then-b-eq35.ensures

pub returns-in_ok-k-clause-passed : goal.returns-in_ok-k-clause-passed
returns-in_ok-k-clause-passed c =
    let here = c.in_ok-b.ensures.lookup.3 in
    rw c.place_of-r.ensures
    (passes_turn _ c.args.i here.0 c.args.r.now c.requires c.in_ok-k.k c.skip-else-b-eq35.result
    (rw c.is_block.ensures at c.in_ok-k.ensures) c.skip-else-b-eq35.ensures)
