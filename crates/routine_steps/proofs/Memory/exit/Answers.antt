-- `routine_steps::Memory::exit` meets its contract: the two checks, then the request completed and the core set to 0. Assumes nothing.
use mathlib.Core.Path.{refl, ap, ◌∙◌}
use Rattle.std.proofs.Common.{arith}
use Rattle.routines.specs.Routines.{holder_number}
use Rattle.routine_steps.proofs.Numbers.{core_refused, idle_core}
use Rattle.routine_steps.proofs.Done.{exit_named, exit_core, exit_accepted, exit_refused, exit_ready, exit_cycles, exit_done}
use Rattle.routine_steps.proofs.Memory.exit.Goals as goal

pub returns-then-not-names_core-clause-did : goal.returns-then-not-names_core-clause-did
returns-then-not-names_core-clause-did c =
    let unnamed = exit_named c.requires c.args.core c.cores_in.ensures c.names_core.ensures c.if-not-names_core.true in
    exit_refused c.requires c.args.core 3 (core_refused _ c.requires.sound c.args.core unnamed) (λ z. absurd (omega (arith, z)))
    ((refl, refl, refl), refl)

pub bounds-active-k : goal.bounds-active-k
bounds-active-k c =
    exit_core c.requires c.args.core
    (exit_named c.requires c.args.core c.cores_in.ensures c.names_core.ensures c.if-not-names_core.false)

pub returns-then-id-eq0-clause-did : goal.returns-then-id-eq0-clause-did
returns-then-id-eq0-clause-did c =
    let named = exit_named c.requires c.args.core c.cores_in.ensures c.names_core.ensures c.if-not-names_core.false in
    exit_refused c.requires c.args.core 8 (idle_core _ c.requires.sound c.args.core named c.if-id-eq0.true)
    (λ z. absurd (omega (arith, z))) ((refl, refl, refl), refl)

pub on_core-lowered-requires : goal.on_core-lowered-requires
on_core-lowered-requires c =
    let named = exit_named c.requires c.args.core c.cores_in.ensures c.names_core.ensures c.if-not-names_core.false in
    let accepted = exit_accepted c.requires c.args.core named c.if-id-eq0.false in
    exit_ready c.requires c.args.core accepted c.on_source-completed.ensures

pub overflow_add-cycles_of : goal.overflow_add-cycles_of
overflow_add-cycles_of c =
    let named = exit_named c.requires c.args.core c.cores_in.ensures c.names_core.ensures c.if-not-names_core.false in
    let accepted = exit_accepted c.requires c.args.core named c.if-id-eq0.false in
    omega (arith, exit_cycles c.requires c.args.core accepted c.on_source-completed.ensures c.on_core-lowered.ensures, c.cycles_of.ensures, c.cycles_of-2.ensures)

pub returns-clause-did : goal.returns-clause-did
returns-clause-did c =
    let named = exit_named c.requires c.args.core c.cores_in.ensures c.names_core.ensures c.if-not-names_core.false in
    let accepted = exit_accepted c.requires c.args.core named c.if-id-eq0.false in
    let (id, cycles, from) = c.after.ensures in
    exit_done c.requires c.args.core accepted c.on_source-completed.ensures c.on_core-lowered.ensures
    ((refl, id, cycles ∙ rw (c.cycles_of.ensures, c.cycles_of-2.ensures)), ap holder_number from) refl
