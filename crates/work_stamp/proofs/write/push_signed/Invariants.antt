use Rattle.std.proofs.Common.{◌≡◌, ◌++◌, take}
use Rattle.work_stamp.specs.Words.{signed_words}
use Rattle.work_stamp.proofs.write.push_signed.Given as goal

abbrev pub invariant-loop-value : goal.invariant-loop-value
invariant-loop-value l = l.out ≡ l.initial.out ++ signed_words (take l.value-index l.values)
