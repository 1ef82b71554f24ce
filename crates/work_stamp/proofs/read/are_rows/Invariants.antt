use Rattle.std.proofs.Common.{◌≡◌, length}
use Rattle.work_stamp.specs.Reads.{are_rows}
use Rattle.work_stamp.proofs.read.are_rows.Given as goal

abbrev pub invariant-loop-left : goal.invariant-loop-left
invariant-loop-left l = are_rows l.left ≡ are_rows l.words

abbrev pub decreases-loop-left : goal.decreases-loop-left
decreases-loop-left l = length l.left
