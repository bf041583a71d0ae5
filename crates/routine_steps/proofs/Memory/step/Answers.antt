-- `routine_steps::Memory::step` meets its contract: an unsound simulation refuses every call, and a sound one does as the three kinds of calls do.
-- Assumes nothing.
use Rattle.routine_steps.proofs.Gone.{go_refused, stands, gone_on}
use Rattle.routine_steps.proofs.Memory.step.Goals as goal

pub returns-in_default-clause-went : goal.returns-in_default-clause-went
returns-in_default-clause-went c = go_refused _ _ _ c.args.c c.requires c.in_default.is

pub command-requires : goal.command-requires
command-requires c = stands _ _ _ c.args.c c.requires c.in-Some.is

pub enter-requires : goal.enter-requires
enter-requires c = stands _ _ _ c.args.c c.requires c.in-Some.is

pub exit-requires : goal.exit-requires
exit-requires c = stands _ _ _ c.args.c c.requires c.in-Some.is

pub returns-in-Direct-clause-went : goal.returns-in-Direct-clause-went
returns-in-Direct-clause-went c = gone_on _ _ _ c.args.c c.requires c.in-Some.is c.in-Direct.is c.command.ensures.did

pub returns-in-Enter-clause-went : goal.returns-in-Enter-clause-went
returns-in-Enter-clause-went c = gone_on _ _ _ c.args.c c.requires c.in-Some.is c.in-Enter.is c.enter.ensures.did

pub returns-in-Exit-clause-went : goal.returns-in-Exit-clause-went
returns-in-Exit-clause-went c = gone_on _ _ _ c.args.c c.requires c.in-Some.is c.in-Exit.is c.exit.ensures.did
