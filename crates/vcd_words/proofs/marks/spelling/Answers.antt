-- `vcd_words::marks::spelling` meets its contract, keyword by keyword. Assumes nothing.

use Rattle.vcd_words.proofs.marks.spelling.Goals as goal

pub returns-in-Date : goal.returns-in-Date
returns-in-Date c = rw (c.spelling_with.ensures, c.in-Date.is)

pub returns-in-Version : goal.returns-in-Version
returns-in-Version c = rw (c.spelling_with-in-Version.ensures, c.in-Version.is)

pub returns-in-Comment : goal.returns-in-Comment
returns-in-Comment c = rw (c.spelling_with-in-Comment.ensures, c.in-Comment.is)

pub returns-in-Timescale : goal.returns-in-Timescale
returns-in-Timescale c = rw (c.spelling_with-in-Timescale.ensures, c.in-Timescale.is)

pub returns-in-Scope : goal.returns-in-Scope
returns-in-Scope c = rw (c.spelling_with-in-Scope.ensures, c.in-Scope.is)

pub returns-in-Upscope : goal.returns-in-Upscope
returns-in-Upscope c = rw (c.spelling_with-in-Upscope.ensures, c.in-Upscope.is)

pub returns-in-Var : goal.returns-in-Var
returns-in-Var c = rw (c.spelling_with-in-Var.ensures, c.in-Var.is)

pub returns-in-EndDefinitions : goal.returns-in-EndDefinitions
returns-in-EndDefinitions c = rw (c.spelling_with-in-EndDefinitions.ensures, c.in-EndDefinitions.is)

pub returns-in-End : goal.returns-in-End
returns-in-End c = rw (c.spelling_with-in-End.ensures, c.in-End.is)

pub returns-in-DumpVars : goal.returns-in-DumpVars
returns-in-DumpVars c = rw (c.spelling_with-in-DumpVars.ensures, c.in-DumpVars.is)

pub returns-in-DumpAll : goal.returns-in-DumpAll
returns-in-DumpAll c = rw (c.spelling_with-in-DumpAll.ensures, c.in-DumpAll.is)

pub returns-in-DumpOn : goal.returns-in-DumpOn
returns-in-DumpOn c = rw (c.spelling_with-in-DumpOn.ensures, c.in-DumpOn.is)

pub returns-in-DumpOff : goal.returns-in-DumpOff
returns-in-DumpOff c = rw (c.spelling_with-in-DumpOff.ensures, c.in-DumpOff.is)

pub returns-in-Wire : goal.returns-in-Wire
returns-in-Wire c = rw (c.spelling_with-in-Wire.ensures, c.in-Wire.is)

pub returns-in-Stb : goal.returns-in-Stb
returns-in-Stb c = rw (c.spelling_with-in-Stb.ensures, c.in-Stb.is)

pub returns-in-Cmd : goal.returns-in-Cmd
returns-in-Cmd c = rw (c.spelling_with-in-Cmd.ensures, c.in-Cmd.is)

pub returns-in-Core : goal.returns-in-Core
returns-in-Core c = rw (c.spelling_with-in-Core.ensures, c.in-Core.is)

pub returns-in-Arg : goal.returns-in-Arg
returns-in-Arg c = rw (c.spelling_with-in-Arg.ensures, c.in-Arg.is)

pub returns-in-Prio : goal.returns-in-Prio
returns-in-Prio c = rw (c.spelling_with-in-Prio.ensures, c.in-Prio.is)
