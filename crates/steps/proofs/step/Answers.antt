-- `steps::step` meets its contract: an unsound state refuses every command, and a sound one does as the two kinds of commands do. Assumes
-- nothing.
use Rattle.steps.proofs.Gone.{go_refused, ready, gone_on}
use Rattle.steps.proofs.step.Goals as goal

pub returns-in_default : goal.returns-in_default
returns-in_default c = go_refused _ c.args.c c.requires c.in_default.is

pub on_source-requires : goal.on_source-requires
on_source-requires c = ready _ c.args.c c.requires c.in-Some.is

pub on_core-requires : goal.on_core-requires
on_core-requires c = ready _ c.args.c c.requires c.in-Some.is

pub returns-in-OnSource : goal.returns-in-OnSource
returns-in-OnSource c = gone_on _ c.args.c c.requires c.in-Some.is c.in-OnSource.is c.on_source.ensures

pub returns-in-OnCore : goal.returns-in-OnCore
returns-in-OnCore c = gone_on _ c.args.c c.requires c.in-Some.is c.in-OnCore.is c.on_core.ensures
