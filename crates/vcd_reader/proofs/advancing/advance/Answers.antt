-- `vcd_reader::advancing::advance` meets its contract. Assumes nothing.
use Rattle.std.proofs.Common.{arith, rules}
use borrow.Author.Tests.{ne_eqb}
use Rattle.vcd_reader.proofs.Follows.{follows_none, follows_bad, advances_quiet}
use Rattle.vcd_reader.proofs.Passing.{skips_body, skips_definition}
use Rattle.vcd_reader.proofs.advancing.advance.Goals as goal

pub returns-then-from-text : goal.returns-then-from-text
returns-then-from-text c =
    advances_quiet _ c.no_command.ensures (follows_none _ _ _) (λ h. omega (arith, c.if-from-text.true))

pub returns-then-r-ne0 : goal.returns-then-r-ne0
returns-then-r-ne0 c =
    let inside = c.if-from-text.false in
    advances_quiet _ c.no_command-then-r-ne0.ensures
    (follows_bad _ _ _ (omega (arith, inside)) (ne_eqb _ _ c.if-r-ne0.true)) (λ h. h)

pub after_skipped-requires : goal.after_skipped-requires
after_skipped-requires c = search (rules, skips_body)

pub after_skipped-requires-in-SkipDefinition : goal.after_skipped-requires-in-SkipDefinition
after_skipped-requires-in-SkipDefinition c = search (rules, skips_definition)
