use Rattle.std.proofs.Common.{◌≡◌, take}
use Rattle.work_stamp.specs.Reads.{signed_numbers}
use Rattle.work_stamp.proofs.read.signed_numbers.Given as goal

abbrev pub invariant-loop-word : goal.invariant-loop-word
invariant-loop-word l = l.values ≡ signed_numbers (take l.word-index l.words)
