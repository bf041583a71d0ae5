-- `vcd_reader::advancing::after_skipped` meets its contract. Assumes nothing.
use mathlib.Core.Path.{refl}
use Rattle.vcd_reader.proofs.Follows.{advances_quiet}
use Rattle.vcd_reader.proofs.advancing.after_skipped.Goals as goal

pub returns-in-Ok : goal.returns-in-Ok
returns-in-Ok c =
    let e = c.in-Ok.ensures in
    advances_quiet _ c.no_command.ensures (e.ends _ _ c.requires.1 c.args.r refl c.requires.0) e.moves

pub returns-in-Err : goal.returns-in-Err
returns-in-Err c =
    let e = c.in-Err.ensures in
    advances_quiet _ c.no_command-in-Err.ensures (e.passes _ _ c.requires.1 c.args.r refl c.requires.0) e.moves
