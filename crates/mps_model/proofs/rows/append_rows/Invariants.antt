use Rattle.std.proofs.Common.{◌≡◌, ◌++◌, drop}
use Rattle.mps_model.specs.Prints.{row_lines}
use Rattle.mps_model.proofs.rows.append_rows.Given as goal

abbrev pub invariant-loop-row : goal.invariant-loop-row
invariant-loop-row l = l.text ++ row_lines (drop l.row-index l.rows) ≡ l.initial.text ++ row_lines l.rows
