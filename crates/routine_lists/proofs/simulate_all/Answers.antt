-- A turn takes the call that its bytes name, and the table counts its handover; where the loop ends, no call is left or none is named.
use lib.ListN.{get_or}
use Rattle.std.proofs.Common.{◌≡◌, ◌+◌, ◌*◌, arith, rules, refl, sym, ap, ◌∙◌, is_some}
use Rattle.layout.specs.Bytes.{command_size}
use Rattle.layout.proofs.Fives.{fives_read}
use Rattle.layout.proofs.Lists.{run_end, run_stop}
use Rattle.routines.specs.Routines.{table_after}
use Rattle.routines.specs.Calls.{one_call}
use Rattle.in_place.proofs.Refused.{none_here}
use Rattle.routine_steps.specs.Simulated.{simulation_in, Same, Went}
use Rattle.routine_steps.proofs.Gone.{go_refused}
use Rattle.routine_lists.proofs.Simulating.{read_call, kept_by, raised_by, count_fits, simulate_more, simulate_done}
use Rattle.routine_lists.proofs.simulate_all.Goals as goal
use Rattle.routine_lists.proofs.simulate_all.Goals.{then-is_some, else-is_some, then-sound, else-sound}

-- a handover that is counted has its place in the table
pub count-raised-requires : goal.count-raised-requires
count-raised-requires c =
    let l = c.loop-k in
    let named = sym c.call_of-read.ensures ∙ c.in-Some.is in
    let went : Went (simulation_in l.memory) c.in-Some.c c.if-sound.o c.if-sound.memory.state.now c.if-sound.memory.active.now
    c.if-sound.memory.holder.now c.if-sound.ranking =
    elim c.if-sound.branch [
      | then-sound w ↦ rw (w.memory-is, w.ranking-is, w.o-is) w.step-o.ensures.went
      | else-sound w ↦
          rw (w.memory-is, w.ranking-is, w.o-is)
          (go_refused _ _ _ _ l.invariant.1 (none_here l.ranking (l.invariant.3 ∙ w.if-sound.false)))
    ] in
    count_fits l.memory.state.now l.counts (get_or c.args.list.now (command_size * l.k) 0) c.word_at-at.result c.word_at.result named went c.last_holder-from.result c.last_holder-from.ensures (sym c.is_some.ensures ∙ c.if-is_some.true)

pub loop-k-preserved : goal.loop-k-preserved
loop-k-preserved c =
    let l = c.loop-k in
    let i = command_size * l.k in
    let number = get_or c.args.list.now i 0 in
    let at = c.word_at-at.result in
    let p = c.word_at.result in
    let named = sym c.call_of-read.ensures ∙ c.in-Some.is in
    let read = fives_read read_call c.args.list.now i c.word_at-at.ensures c.word_at.ensures (ap one_call named) in
    let went : Went (simulation_in l.memory) c.in-Some.c c.if-sound.o c.if-sound.memory.state.now c.if-sound.memory.active.now
    c.if-sound.memory.holder.now c.if-sound.ranking =
    elim c.if-sound.branch [
      | then-sound w ↦ rw (w.memory-is, w.ranking-is, w.o-is) w.step-o.ensures.went
      | else-sound w ↦
          rw (w.memory-is, w.ranking-is, w.o-is)
          (go_refused _ _ _ _ l.invariant.1 (none_here l.ranking (l.invariant.3 ∙ w.if-sound.false)))
    ] in
    let same : Same l.memory c.if-sound.memory =
    elim c.if-sound.branch [ then-sound w ↦ rw w.memory-is w.step-o.ensures.same | else-sound w ↦ rw w.memory-is (refl, refl, refl) ] in
    let kept : is_some c.if-sound.ranking ≡ is_some l.ranking =
    elim c.if-sound.branch [ then-sound w ↦ rw w.ranking-is w.step-o.ensures.kept | else-sound w ↦ rw w.ranking-is refl ] in
    let counted : c.if-is_some.counts ≡ table_after l.counts (simulation_in l.memory) c.in-Some.c =
    elim c.if-is_some.branch [
      | then-is_some w ↦
          raised_by l.memory.state.now l.counts number at p named went c.last_holder-from.result c.last_holder-from.ensures (sym c.is_some.ensures ∙ w.if-is_some.true) (w.counts-is ∙ w.count-raised.ensures)
      | else-is_some w ↦ kept_by l.memory.state.now l.counts number at p named went c.last_holder-from.result c.last_holder-from.ensures (sym c.is_some.ensures ∙ w.if-is_some.false) w.counts-is
    ] in
    let next : i + command_size ≡ command_size * (l.k + 1) = omega arith in (
      rw next at (simulate_more l.memory.state.now l.invariant.0 (omega arith) read went c.numbers_of-number.ensures c.put_answer.ensures counted),
      went.running,
      search rules,
      kept ∙ l.invariant.3,
    )

-- the next bytes name no call
pub returns-in_default : goal.returns-in_default
returns-in_default c =
    let a = c.args in
    let l = c.loop-k in
    let read = fives_read read_call a.list.now (command_size * l.k) c.word_at-at.ensures c.word_at.ensures
    (ap one_call (sym c.call_of-read.ensures ∙ c.in_default.is)) in
    simulate_done a.state.now a.active.now a.holder.now a.list.now a.answers.now a.table.now c.requires
    (run_stop l.invariant.0 (omega arith) read) (omega arith) l.invariant.1.whole c.put_table.ensures (search rules) (search rules) (search rules)

-- the list has ended
pub returns : goal.returns
returns c =
    let a = c.args in
    let l = c.loop-k in
    simulate_done a.state.now a.active.now a.holder.now a.list.now a.answers.now a.table.now c.requires
    (run_end l.invariant.0 (omega arith)) (omega arith) l.invariant.1.whole c.put_table-2.ensures (search rules) (search rules) (search rules)
