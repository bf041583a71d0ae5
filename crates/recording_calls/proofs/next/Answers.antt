-- `recording_calls::next` meets its contract. Assumes nothing.
use mathlib.Core.Path.{refl}
use Rattle.recording_calls.proofs.Parts.{advanced, ended}
use Rattle.recording_calls.proofs.next.Goals as goal

pub returns-then-at-text : goal.returns-then-at-text
returns-then-at-text c =
    let a = c.args in
    advanced a.text.now a.at a.r c.advance.result c.advance.ensures c.if-at-text.true

pub returns : goal.returns
returns c =
    let a = c.args in
    ended a.text.now a.at a.r _ c.if-at-text.false c.requires
    c.finish-last.result c.finish-last.ensures refl refl refl refl
