-- `recording_calls::replay_all` meets its contract: a command that is taken runs on the state in the bytes, and its answer has room behind
-- those before it. Assumes nothing.
use mathlib.Core.Path.{◌≡◌}
use Rattle.std.proofs.Common.{arith}
use Rattle.model.specs.Records.{reset}
use Rattle.layout.specs.Bytes.{state_from}
use Rattle.layout.proofs.Answers.{same_bytes_lem}
use Rattle.in_place.proofs.Refused.{says_same}
use Rattle.recording_calls.proofs.Parts.{next_one}
use Rattle.recording_calls.proofs.Reached.{counted_room}
use Rattle.recording_calls.proofs.Answers.{replayed_none, replay_room, replayed_more, replay_end, replay_refused, made, encoded}
use Rattle.recording_calls.proofs.replay_all.Goals as goal

pub returns-then-made-ne0 : goal.returns-then-made-ne0
returns-then-made-ne0 c =
    let a = c.args in
    replay_refused a.n a.m c.make-made.result c.make-made.ensures a.text.now a.state.now a.answers.now c.report_with.result
    c.if-made-ne0.true c.report_with.ensures c.requires

pub begin-ranking-requires : goal.begin-ranking-requires
begin-ranking-requires c =
    let a = c.args in
    (encoded a.n a.m c.make-made.result c.make-made.ensures c.if-made-ne0.false c.put_state.ensures).0

pub loop-next_at-init : goal.loop-next_at-init
loop-next_at-init c =
    let a = c.args in
    let fresh : state_from c.put_state.new.b ≡ reset a.n a.m =
    (encoded a.n a.m c.make-made.result c.make-made.ensures c.if-made-ne0.false c.put_state.ensures).1 in (
      omega arith,
      rw (fresh, c.start-reader.ensures) (replayed_none a.text.now a.answers.now (reset a.n a.m)),
      c.begin-ranking.ensures,
    )

pub overflow_mul-count : goal.overflow_mul-count
overflow_mul-count c =
    let one = next_one c.next-a.ensures c.in-Some.is c.then_some-next_at.ensures c.in-Some-taken.ensures in
    omega (arith, (replay_room c.loop-next_at.invariant.1 one c.args.state.now c.requires).1)

pub put_answer-requires : goal.put_answer-requires
put_answer-requires c =
    let one = next_one c.next-a.ensures c.in-Some.is c.then_some-next_at.ensures c.in-Some-taken.ensures in
    (replay_room c.loop-next_at.invariant.1 one c.args.state.now c.requires).0

pub overflow_add-count : goal.overflow_add-count
overflow_add-count c =
    let one = next_one c.next-a.ensures c.in-Some.is c.then_some-next_at.ensures c.in-Some-taken.ensures in
    omega (arith, (replay_room c.loop-next_at.invariant.1 one c.args.state.now c.requires).1)

pub loop-next_at-preserved-in-Some-taken : goal.loop-next_at-preserved-in-Some-taken
loop-next_at-preserved-in-Some-taken c =
    let one = next_one c.next-a.ensures c.in-Some.is c.then_some-next_at.ensures c.in-Some-taken.ensures in
    let went = c.step-o.ensures in (
      grind (arith, c.next-a.ensures.within, c.then_some-next_at.ensures),
      replayed_more c.loop-next_at.invariant.1 one went.state_is c.put_answer.ensures (same_bytes_lem (says_same _ c.numbers_of-number.ensures went.says)),
      went.going,
    )

pub overflow_cast-count : goal.overflow_cast-count
overflow_cast-count c = omega (arith, counted_room c.args.text.now c.loop-next_at.invariant.1.reached)

pub returns : goal.returns
returns c =
    let a = c.args in
    let sizes = made a.n a.m c.make-made.result c.make-made.ensures c.if-made-ne0.false in
    replay_end a.n a.m a.text.now a.state.now a.answers.now {r = c.loop-next_at.reader} c.requires sizes.0 c.loop-next_at.invariant.1
    (rw c.in_default.is) c.loop-next_at.invariant.2.whole c.report_of.ensures
