-- `encoding::put_state` meets its contract: both loops keep `Written`, that the bytes so far are those of the records passed.
-- Assumes nothing.
use Rattle.std.proofs.Common.{◌≡◌, length, arith, rules}
use Rattle.model.specs.Records.{max_sources, max_cores}
use Rattle.lists.proofs.Arrays.{unmapped}
use Rattle.encoding.proofs.Writing.{written_none, source_more, core_more, all_written}
use Rattle.encoding.proofs.put_state.Goals as goal

pub loop-i-init : goal.loop-i-init
loop-i-init c =
    let a = c.args in
    let sources : length a.s.sources ≡ max_sources = search (rules, unmapped) in
    let cores : length a.s.cores ≡ max_cores = search (rules, unmapped) in
    written_none a.s a.b.now c.put_word.new.b c.put_word-2.new.b (record { sources = sources; cores = cores }) c.requires
    c.put_word.ensures c.put_word-2.ensures

pub loop-i-preserved : goal.loop-i-preserved
loop-i-preserved c =
    let l = c.loop-i in
    source_more c.args.s l.b c.put_source_at.new.b l.i l.invariant c.loop-i-test.true c.put_source_at.ensures

pub loop-k-init : goal.loop-k-init
loop-k-init c =
    let l = c.loop-i in
    let all : l.i ≡ max_sources = omega arith in
    rw all at l.invariant

pub loop-k-preserved : goal.loop-k-preserved
loop-k-preserved c =
    let l = c.loop-k in
    core_more c.args.s l.b c.put_core_at.new.b max_sources l.k l.invariant (omega arith) c.loop-k-test.true c.put_core_at.ensures

pub returns : goal.returns
returns c =
    let l = c.loop-k in
    all_written c.args.s l.b max_sources l.k l.invariant (omega arith) c.loop-k-test.false
