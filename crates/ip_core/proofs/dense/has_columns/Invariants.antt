use Rattle.std.proofs.Common.{◌≡◌, All, length, take}
use Rattle.ip_core.proofs.dense.has_columns.Given as goal

abbrev pub invariant-loop-row : goal.invariant-loop-row
invariant-loop-row l = All (λ row. length row.coefs.now ≡ l.columns) (take l.row-index l.rows)
