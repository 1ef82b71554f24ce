use Rattle.std.proofs.Common.{◌≡◌, ◌++◌, drop}
use Rattle.width_admit.specs.Held.{held_rows_from}
use Rattle.width_admit.proofs.build.rows_of.Given as goal

abbrev pub invariant-loop-at : goal.invariant-loop-at
invariant-loop-at l = l.rows ++ held_rows_from l.mps.cols l.at (drop l.at l.file_rows) ≡ held_rows_from l.mps.cols 0 l.file_rows
