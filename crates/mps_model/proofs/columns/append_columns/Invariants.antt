use Rattle.std.proofs.Common.{◌≡◌, ◌++◌, drop, false}
use Rattle.mps_model.specs.Prints.{columns_lines}
use Rattle.mps_model.proofs.columns.append_columns.Given as goal

abbrev pub invariant-loop-col : goal.invariant-loop-col
invariant-loop-col l = l.text ++ columns_lines l.mps.objective l.mps.rows l.integer (drop l.col-index l.col-items) ≡ l.initial.text ++ columns_lines l.mps.objective l.mps.rows false l.col-items
