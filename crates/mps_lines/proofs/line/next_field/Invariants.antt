use Rattle.std.proofs.Common.{◌≡◌, length}
use Rattle.mps_lines.specs.Lines.{fields}
use Rattle.mps_lines.proofs.line.next_field.Given as goal

abbrev pub invariant-loop-piece : goal.invariant-loop-piece
invariant-loop-piece l = fields l.rest ≡ fields l.line

abbrev pub decreases-loop-piece : goal.decreases-loop-piece
decreases-loop-piece l = length l.rest
