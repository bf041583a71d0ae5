-- `vcd_writer::put_text` meets its contract. The loop's invariant is `WrittenFrom`. Assumes nothing.
use Rattle.std.proofs.Common.{◌≡◌, suc, ◌-◌, arith}
use Rattle.vcd_writer.proofs.Texts.{written_room, written_one, written_first, written_all}
use Rattle.vcd_writer.proofs.put_text.Goals as goal

pub put_command-end-requires : goal.put_command-end-requires
put_command-end-requires c =
    let l = c.loop-k in
    let one_less : suc (l.k - 1) ≡ l.k = omega arith in
    (omega arith, rw c.at.ensures (written_room _ _ _ l.text l.k (l.k - 1) l.end l.invariant one_less))

pub loop-k-preserved : goal.loop-k-preserved
loop-k-preserved c =
    let l = c.loop-k in
    let one_less : suc (l.k - 1) ≡ l.k = omega arith in
    written_one _ _ _ l.text l.k (l.k - 1) l.end l.invariant one_less (rw c.at.ensures at c.put_command-end.ensures)

pub put_definitions-requires : goal.put_definitions-requires
put_definitions-requires c =
    let l = c.loop-k in
    written_first _ _ _ l.text l.k l.end l.invariant c.loop-k-test.false

pub returns : goal.returns
returns c =
    let l = c.loop-k in
    written_all _ _ _ l.text l.k l.end l.invariant c.loop-k-test.false c.put_definitions.ensures
