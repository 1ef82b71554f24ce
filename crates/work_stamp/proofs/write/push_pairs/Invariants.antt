use Rattle.std.proofs.Common.{◌≡◌, ◌++◌, take}
use Rattle.work_stamp.specs.Words.{pair_words}
use Rattle.work_stamp.proofs.write.push_pairs.Given as goal

abbrev pub invariant-loop-pair : goal.invariant-loop-pair
invariant-loop-pair l = l.out ≡ l.initial.out ++ pair_words (take l.pair-index l.pairs)
