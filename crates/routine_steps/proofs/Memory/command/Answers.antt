-- `routine_steps::Memory::command` meets its contract: refused as the controller's command is, and accepted with the holders as they then are.
-- Assumes nothing.
use mathlib.Core.Path.{◌≡◌, refl, ap}
use Rattle.std.proofs.Common.{arith, rules, Err}
use Rattle.in_place.proofs.Refused.{number_not_zero}
use Rattle.routines.specs.Routines.{holder_number}
use Rattle.routine_steps.proofs.Done.{as_command, command_refused, command_source, command_done}
use Rattle.routine_steps.proofs.Memory.command.Goals as goal

pub returns-in_err-accepted-clause-did : goal.returns-in_err-accepted-clause-did
returns-in_err-accepted-clause-did c =
    let did = as_command c.requires c.args.id c.args.a c.into.ensures c.in_err-accepted.ensures in
    let e = c.in_err-accepted.field-0.0 in
    let passed : c.from_residual.result ≡ Err e = search rules in
    command_refused c.requires c.args.id c.args.a did (number_not_zero e) (rw passed ((refl, refl, refl), refl))

pub overflow_sub-id : goal.overflow_sub-id
overflow_sub-id c =
    let did = as_command c.requires c.args.id c.args.a c.into.ensures c.in_ok-accepted.ensures in
    omega (arith, (command_source c.requires c.args.id c.args.a did refl).0)

pub hold_after-requires : goal.hold_after-requires
hold_after-requires c =
    let did = as_command c.requires c.args.id c.args.a c.into.ensures c.in_ok-accepted.ensures in
    (command_source c.requires c.args.id c.args.a did refl).1

pub returns-clause-did : goal.returns-clause-did
returns-clause-did c =
    let did = as_command c.requires c.args.id c.args.a c.into.ensures c.in_ok-accepted.ensures in
    let (id, cycles, from) = c.after.ensures in
    command_done c.requires c.args.id c.args.a did refl ((refl, id, cycles), ap holder_number from) c.hold_after.ensures
