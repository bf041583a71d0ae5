-- `vcd_writer::psic_write` meets its contract. Assumes nothing.
use Rattle.std.proofs.Common.{sym, refl, ◌∙◌}
use Rattle.vcd_writer.proofs.Calls.{write_unreadable, too_many, too_large, too_long, write_all}
use Rattle.vcd_writer.proofs.psic_write.Goals as goal
use Rattle.vcd_writer.proofs.psic_write.Goals.{
  then-count-gt-MAX_COMMANDS-via-then-count-gt-MAX_COMMANDS,
  then-count-gt-MAX_COMMANDS-via-else-count-gt-MAX_COMMANDS+then-not-all_fit,
}

pub returns-then-not-is_run : goal.returns-then-not-is_run
returns-then-not-is_run c = write_unreadable _ _ (sym c.is_run.ensures ∙ c.if-not-is_run.true)

pub returns-then-count-gt-MAX_COMMANDS : goal.returns-then-count-gt-MAX_COMMANDS
returns-then-count-gt-MAX_COMMANDS c =
    let run = sym c.is_run.ensures ∙ c.if-not-is_run.false in
    elim c.then-count-gt-MAX_COMMANDS.branch [
      | then-count-gt-MAX_COMMANDS-via-then-count-gt-MAX_COMMANDS w ↦ too_many _ _ run w.if-count-gt-MAX_COMMANDS.true
      | then-count-gt-MAX_COMMANDS-via-else-count-gt-MAX_COMMANDS+then-not-all_fit w ↦
          too_large _ _ run (sym w.all_fit.ensures ∙ w.if-not-all_fit.true)
    ]

pub returns-then-text-size : goal.returns-then-text-size
returns-then-text-size c =
    let run = sym c.is_run.ensures ∙ c.if-not-is_run.false in
    too_long _ _ run (rw c.text_length-size.ensures.0 at c.if-text-size.true)

pub returns : goal.returns
returns c =
    let run = sym c.is_run.ensures ∙ c.if-not-is_run.false in
    let fit = sym c.all_fit.ensures ∙ c.if-not-all_fit.false in
    write_all _ _ run c.if-count-gt-MAX_COMMANDS.false fit c.text_length-size.ensures.0 c.if-text-size.false refl c.put_text.ensures
