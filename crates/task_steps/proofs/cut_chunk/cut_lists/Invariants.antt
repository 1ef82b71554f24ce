use Rattle.std.proofs.Common.{◌≡◌}
use Rattle.cut_separate.specs.Laws.{rows_of_cuts}
use Rattle.task_steps.specs.CutTasks.{entries_of_cuts}
use Rattle.task_steps.proofs.cut_chunk.cut_lists.Given as goal

abbrev pub invariant-loop-cut : goal.invariant-loop-cut
invariant-loop-cut l = record {
  entries : l.entries ≡ entries_of_cuts l.yielded;
  rows : l.rows ≡ rows_of_cuts l.yielded;
}
