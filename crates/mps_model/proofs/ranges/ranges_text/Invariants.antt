use Rattle.std.proofs.Common.{◌≡◌, ◌++◌, drop}
use Rattle.mps_model.specs.Prints.{range_lines}
use Rattle.mps_model.proofs.ranges.ranges_text.Given as goal

abbrev pub invariant-loop-row : goal.invariant-loop-row
invariant-loop-row l = l.lines ++ range_lines (drop l.row-index l.rows) ≡ range_lines l.rows
