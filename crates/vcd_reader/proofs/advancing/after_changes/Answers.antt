-- `vcd_reader::advancing::after_changes` meets its contract. Assumes nothing.
use Rattle.std.specs.Prelude.{Some}
use mathlib.Core.Path.{sym, ap, ◌∙◌}
use Rattle.std.proofs.Common.{arith}
use Rattle.recording.specs.Records.{read_with}
use Rattle.recording.specs.Stamps.{strobe_of}
use Rattle.vcd_reader.specs.Skipping.{change_place}
use Rattle.vcd_reader.specs.Changes.{after_command}
use Rattle.vcd_reader.proofs.Follows.{advances_word, advances_after, advances_quiet}
use Rattle.vcd_reader.proofs.Changing.{starts_word, first_end, takes_command}
use Rattle.vcd_reader.proofs.advancing.after_changes.Goals as goal

pub returns-then-i-text : goal.returns-then-i-text
returns-then-i-text c =
    let f = c.quiet-p.ensures.follows in
    advances_quiet _ c.no_command.ensures f (λ h. omega (arith, c.if-i-text.true))

pub returns : goal.returns
returns c =
    let t = c.args.text.now in
    let q = c.quiet-p in
    let r = q.result.reader in
    let i = q.result.end in
    let a = c.in-Some.t in
    let there = c.in-Some.ensures in
    let place = q.ensures.changes.place ∙ ap change_place (sym c.is_block.ensures ∙ c.if-not-is_block.true) in
    let starts = starts_word t i c.if-i-text.false 35 c.if-text-i-eq35.true (omega arith) in
    let ends = first_end t i c.if-i-text.false 35 c.if-text-i-eq35.true (omega arith) a.end there.end in
    rw (c.taken_at.ensures, c.strobe.ensures)
    (advances_after t q.ensures.follows c.if-i-text.false
    (advances_word t i c.if-i-text.false starts a.end ends r (read_with (after_command r a.time) (Some (strobe_of r)))
    (takes_command t i c.if-i-text.false r place q.ensures.changes.good a c.if-text-i-eq35.true there
    (c.takes.ensures c.if-takes.true))))
