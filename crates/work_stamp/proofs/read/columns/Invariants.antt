use Rattle.std.proofs.Common.{◌≡◌, take}
use Rattle.work_stamp.proofs.read.columns.Given as goal

abbrev pub invariant-loop-word : goal.invariant-loop-word
invariant-loop-word l = l.cols ≡ take l.word-index l.words
