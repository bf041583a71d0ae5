-- `cases::main` is safe and ends. The loop's invariant: no more rows are marked than were run, and no more are good than marked.
-- Assumes nothing.
use Rattle.std.proofs.Common.{◌≤◌}
use Rattle.cases.proofs.main.Given as goal

abbrev pub invariant-loop-step : goal.invariant-loop-step
invariant-loop-step l = (l.marked ≤ l.step-index) × (l.good ≤ l.marked)
