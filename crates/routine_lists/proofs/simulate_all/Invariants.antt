-- `routine_lists::simulate_all` meets its contract. The loop's invariant is `RunTo`: the first k calls are taken, and what is left of the
-- list ends as the whole does from the start; and the simulation in memory can go on. Assumes nothing.
use Rattle.std.proofs.Common.{◌≡◌, ◌*◌}
use Rattle.std.specs.Option.{is_some}
use Rattle.layout.specs.Bytes.{command_size}
use Rattle.layout.proofs.Lists.{RunTo}
use Rattle.routines.specs.Calls.{table_in}
use Rattle.routine_laws.proofs.Called.{counting, routines_machine}
use Rattle.routine_steps.specs.Simulated.{simulation_in, Same, Running}
use Rattle.routine_lists.proofs.Simulating.{read_call}
use Rattle.routine_lists.proofs.simulate_all.Given as goal

abbrev pub invariant-loop-k : goal.invariant-loop-k
invariant-loop-k l =
    RunTo read_call routines_machine l.list l.initial.answers (counting (simulation_in l.initial.memory) (table_in l.initial.table)) l.answers
    (counting (simulation_in l.memory) l.counts) (command_size * l.k) ×
    Running l.ranking l.memory.state.now l.memory.active.now l.memory.holder.now × Same l.initial.memory l.memory × (is_some l.ranking ≡ l.sound)
