use Rattle.std.proofs.Common.{List, ◌++◌, take}
use Rattle.ip_core.specs.declared.row.Row.{Row}
use Rattle.row_propagate.specs.Kept.{AreSums}
use Rattle.row_propagate.proofs.sums.add_sums.Given as goal

abbrev pub invariant-loop-row : goal.invariant-loop-row
invariant-loop-row l = (before : List Row) → AreSums before l.bounds l.initial.sums → AreSums (before ++ take l.row-index l.rows) l.bounds l.sums
