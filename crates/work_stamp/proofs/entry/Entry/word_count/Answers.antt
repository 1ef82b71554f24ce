use Rattle.std.proofs.Common.{arith}
use Rattle.work_stamp.proofs.Lists.{length-signed_words}
use Rattle.work_stamp.proofs.entry.Entry.word_count.Goals as goal

pub returns-in-Found-clause-value : goal.returns-in-Found-clause-value
returns-in-Found-clause-value c = grind (arith, length-signed_words)
