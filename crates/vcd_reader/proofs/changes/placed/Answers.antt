-- `vcd_reader::changes::placed` meets its contract: the first variable with the code is the one that `vector_signal` names.
-- Assumes nothing.
use Rattle.recording.specs.declared.Signal.TheVariants.{Cmd, Core, Arg, Prio}
use Rattle.vcd_reader.proofs.Changing.{names_cmd, names_core_lem, names_arg, names_prio, places_some}
use Rattle.vcd_reader.proofs.changes.placed.Goals as goal

pub returns-then-c-vs-clause-taken : goal.returns-then-c-vs-clause-taken
returns-then-c-vs-clause-taken c =
    let t = c.takes_value.ensures in
    places_some _ _ _ Cmd _ _ c.if-code-eq0.false (names_cmd _ _ c.if-code-eq0.false c.if-c-vs.true) t.fits t.value

pub returns-then-c-vs-2-clause-taken : goal.returns-then-c-vs-2-clause-taken
returns-then-c-vs-2-clause-taken c =
    let t = c.takes_value-then-c-vs-2.ensures in
    places_some _ _ _ Core _ _ c.if-code-eq0.false (names_core_lem _ _ c.if-code-eq0.false c.if-c-vs.false c.if-c-vs-2.true)
    t.fits t.value

pub returns-then-c-vs-3-clause-taken : goal.returns-then-c-vs-3-clause-taken
returns-then-c-vs-3-clause-taken c =
    let t = c.takes_value-then-c-vs-3.ensures in
    places_some _ _ _ Arg _ _ c.if-code-eq0.false
    (names_arg _ _ c.if-code-eq0.false c.if-c-vs.false c.if-c-vs-2.false c.if-c-vs-3.true) t.fits t.value

pub returns-then-c-vs-4-clause-taken : goal.returns-then-c-vs-4-clause-taken
returns-then-c-vs-4-clause-taken c =
    let t = c.takes_value-then-c-vs-4.ensures in
    places_some _ _ _ Prio _ _ c.if-code-eq0.false
    (names_prio _ _ c.if-code-eq0.false c.if-c-vs.false c.if-c-vs-2.false c.if-c-vs-3.false c.if-c-vs-4.true) t.fits t.value
