use Rattle.std.proofs.Common.{◌≡◌, ◌++◌, drop}
use Rattle.mps_model.specs.Prints.{bound_lines}
use Rattle.mps_model.proofs.bounds.bounds_text.Given as goal

abbrev pub invariant-loop-col : goal.invariant-loop-col
invariant-loop-col l = l.lines ++ bound_lines (drop l.col-index l.cols) ≡ bound_lines l.cols
