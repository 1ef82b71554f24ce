use Rattle.std.proofs.Common.{◌≡◌, take}
use Rattle.ip_core.specs.Dense.{dense_rows}
use Rattle.ip_core.proofs.dense.dense_rows.Given as goal

abbrev pub invariant-loop-row : goal.invariant-loop-row
invariant-loop-row l = l.list ≡ dense_rows (take l.row-index l.rows)
