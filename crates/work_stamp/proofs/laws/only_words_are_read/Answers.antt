use Rattle.work_stamp.proofs.ReadBack.{reads_only_words}
use Rattle.work_stamp.proofs.laws.only_words_are_read.Goals as goal

pub returns : goal.returns
returns c = reads_only_words
