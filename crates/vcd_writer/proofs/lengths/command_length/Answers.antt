-- `vcd_writer::lengths::command_length` meets its contract. Assumes nothing.
use Prim.Native.Nat.{ℕ}
use mathlib.Core.Path.{ap, ◌∙◌}
use lib.ListN.{length}
use Rattle.std.proofs.Common.{arith}
use Rattle.recording.specs.Writing.{digits}
use Rattle.vcd_writer.specs.Lines.{value_of}
use Rattle.vcd_writer.proofs.Parts.{lines_length}
use Rattle.vcd_writer.proofs.lengths.command_length.Goals as goal

-- how many bits a number has
abbrev bits : ℕ → ℕ
bits x = length (digits 2 x)

pub returns : goal.returns
returns c =
    let a = c.args in
    let core = c.count_digits-core.ensures.0 ∙ ap bits c.core.ensures in
    let arg = c.count_digits-arg.ensures.0 ∙ ap bits c.arg.ensures in
    let prio = c.count_digits-prio.ensures.0 ∙ ap bits c.prio.ensures in
    let all = lines_length a.k (value_of a.numbers) in (
      omega (arith, c.count_digits-time.ensures.0, c.count_digits-cmd.ensures.0, core, arg, prio, all),
      omega arith,
    )
