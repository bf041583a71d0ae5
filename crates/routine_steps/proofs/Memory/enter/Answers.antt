-- `routine_steps::Memory::enter` meets its contract: refused as its claim is; else claimed, handed back, and two numbers stored. Assumes nothing.
use mathlib.Core.Path.{◌≡◌, refl}
use Rattle.std.proofs.Common.{arith, rules, Err}
use Rattle.in_place.proofs.Refused.{number_not_zero}
use Rattle.routine_steps.proofs.Done.{enter_refused, enter_ready, enter_core, enter_source, enter_cycles, enter_done}
use Rattle.routine_steps.proofs.Memory.enter.Goals as goal

pub returns-in_err-claimed-clause-did : goal.returns-in_err-claimed-clause-did
returns-in_err-claimed-clause-did c =
    let e = c.in_err-claimed.field-0.0 in
    let passed : c.from_residual.result ≡ Err e = search rules in
    enter_refused c.requires c.args.core c.in_err-claimed.ensures (number_not_zero e) (rw passed ((refl, refl, refl), refl))

pub bounds-self-k : goal.bounds-self-k
bounds-self-k c = enter_core c.requires c.args.core c.in_ok-claimed.ensures refl

pub hand_back-back-requires : goal.hand_back-back-requires
hand_back-back-requires c = enter_ready c.requires c.args.core c.in_ok-claimed.ensures

pub overflow_sub-i : goal.overflow_sub-i
overflow_sub-i c = omega (arith, (enter_source c.requires c.args.core c.in_ok-claimed.ensures refl).0)

pub bounds-self-i : goal.bounds-self-i
bounds-self-i c = (enter_source c.requires c.args.core c.in_ok-claimed.ensures refl).1

pub bounds-self-k-2 : goal.bounds-self-k-2
bounds-self-k-2 c = enter_core c.requires c.args.core c.in_ok-claimed.ensures refl

pub overflow_add-self : goal.overflow_add-self
overflow_add-self c =
    let inside = enter_core c.requires c.args.core c.in_ok-claimed.ensures refl in
    omega (arith, inside, c.requires.sound.active_length)

pub bounds-self-i-2 : goal.bounds-self-i-2
bounds-self-i-2 c = (enter_source c.requires c.args.core c.in_ok-claimed.ensures refl).1

pub overflow_add-result : goal.overflow_add-result
overflow_add-result c =
    omega (arith, enter_cycles c.requires c.args.core c.in_ok-claimed.ensures refl c.hand_back-back.ensures, c.cycles_of.ensures)

pub returns-clause-did : goal.returns-clause-did
returns-clause-did c =
    enter_done c.requires c.args.core c.in_ok-claimed.ensures refl c.hand_back-back.ensures
    ((refl, refl, rw c.cycles_of.ensures), c.holder_from-from.ensures) refl refl
