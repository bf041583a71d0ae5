-- `exports::psic_run` meets its contract. The loop's invariant is `RunTo`: the first k commands are taken, and what is left of the list
-- ends as the whole does from the start; and the state in the bytes can go on, sound or not as it was. Assumes nothing.
use Rattle.std.proofs.Common.{◌≡◌, ◌*◌}
use Rattle.std.specs.Option.{is_some}
use Rattle.layout.specs.Bytes.{command_size, state_from}
use Rattle.layout.proofs.Answers.{read_command, controller}
use Rattle.layout.proofs.Lists.{RunTo}
use Rattle.steps.specs.Going.{Going}
use Rattle.exports.proofs.psic_run.Given as goal

abbrev pub invariant-loop-k : goal.invariant-loop-k
invariant-loop-k l =
    RunTo read_command controller l.list l.initial.answers (state_from l.initial.state) l.answers (state_from l.state) (command_size * l.k) ×
    Going l.ranking l.state × (is_some l.ranking ≡ l.sound)
