use Rattle.std.proofs.Common.{arith}
use Rattle.work_stamp.proofs.Lists.{length-pair_words}
use Rattle.work_stamp.proofs.write.derivation_count.Goals as goal

pub returns-in-Gomory-clause-value : goal.returns-in-Gomory-clause-value
returns-in-Gomory-clause-value c = grind (arith, length-pair_words)
