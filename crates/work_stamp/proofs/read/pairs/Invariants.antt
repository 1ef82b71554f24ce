use Rattle.std.proofs.Common.{◌≡◌, ◌++◌, length, true}
use Rattle.work_stamp.specs.Reads.{are_rows, pairs_of}
use Rattle.work_stamp.proofs.read.pairs.Given as goal

abbrev pub invariant-loop-left : goal.invariant-loop-left
invariant-loop-left l = record { read : l.pairs ++ pairs_of l.left ≡ pairs_of l.words; rows : are_rows l.left ≡ true }

abbrev pub decreases-loop-left : goal.decreases-loop-left
decreases-loop-left l = length l.left
