use Rattle.std.proofs.Common.{◌≡◌, ◌≤◌}
use Rattle.task_steps.specs.Columns.{widest_below}
use Rattle.task_steps.proofs.column.widest.Given as goal

abbrev pub invariant-loop-j : goal.invariant-loop-j
invariant-loop-j l = record {
  first : l.widest ≡ widest_below (record { lows = l.lows; highs = l.highs }) l.j;
  known : l.widest ≤ l.j;
}
