-- `vcd_reader::advancing::after_definitions` meets its contract. Assumes nothing.
use Rattle.std.proofs.Common.{arith}
use Rattle.vcd_reader.proofs.Follows.{advances_quiet}
use Rattle.vcd_reader.proofs.advancing.after_definitions.Goals as goal

pub returns-else-i-text : goal.returns-else-i-text
returns-else-i-text c =
    let f = c.definitions-i.ensures c.args.r c.requires.0 c.requires.1 in
    advances_quiet _ c.no_command.ensures f (λ h. omega (arith, c.if-i-text.false))
