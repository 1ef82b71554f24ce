use Rattle.std.proofs.Common.{◌≡◌, List, ◌++◌, length, take}
use Rattle.ip_core.specs.declared.row.Row.{Row}
use Rattle.row_propagate.specs.Kept.{AreColumns}
use Rattle.row_propagate.proofs.columns.add_rows.Given as goal

abbrev pub invariant-loop-index : goal.invariant-loop-index
invariant-loop-index l = record {
  len : length l.columns ≡ length l.initial.columns;
  columns : (before : List Row) → length before ≡ l.first → AreColumns (length l.initial.columns) before l.initial.columns → AreColumns (length l.initial.columns) (before ++ take l.index l.rows) l.columns;
}
