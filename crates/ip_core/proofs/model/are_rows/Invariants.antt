use Rattle.std.proofs.Common.{All, length, take}
use Rattle.ip_core.specs.Rows.{IsRow}
use Rattle.ip_core.proofs.model.are_rows.Given as goal

abbrev pub invariant-loop-row : goal.invariant-loop-row
invariant-loop-row l = All (IsRow (length l.parts.cols) l.parts.root) (take l.row-index l.parts.rows)
