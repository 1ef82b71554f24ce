use Rattle.std.proofs.Common.{◌≡◌, ◌++◌, take}
use Rattle.work_stamp.proofs.write.push_columns.Given as goal

abbrev pub invariant-loop-col : goal.invariant-loop-col
invariant-loop-col l = l.out ≡ l.initial.out ++ take l.col-index l.cols
