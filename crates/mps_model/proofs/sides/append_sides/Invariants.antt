use Rattle.std.proofs.Common.{◌≡◌, ◌++◌, drop}
use Rattle.mps_model.specs.Prints.{side_lines}
use Rattle.mps_model.proofs.sides.append_sides.Given as goal

abbrev pub invariant-loop-row : goal.invariant-loop-row
invariant-loop-row l = l.lines ++ side_lines (drop l.row-index l.rows) ≡ l.initial.lines ++ side_lines l.rows
