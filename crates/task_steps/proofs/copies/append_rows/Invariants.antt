use Rattle.std.proofs.Common.{◌≡◌, ◌++◌}
use Rattle.task_steps.proofs.copies.append_rows.Given as goal

abbrev pub invariant-loop-row : goal.invariant-loop-row
invariant-loop-row l = l.rows ≡ l.fn.rows ++ l.yielded
