use Rattle.std.proofs.Common.{◌≡◌, false, take}
use Rattle.std.specs.List.{list_any}
use Rattle.mps_lines.specs.Lines.{is_separator}
use Rattle.mps_lines.proofs.line.cut_piece.Given as goal

abbrev pub invariant-loop-place : goal.invariant-loop-place
invariant-loop-place l = list_any is_separator (take l.place l.line) ≡ false
