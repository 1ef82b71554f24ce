use Rattle.work_stamp.proofs.Reading.{reads_again}
use Rattle.work_stamp.proofs.laws.words_are_read_again.Goals as goal

pub returns : goal.returns
returns c = reads_again
