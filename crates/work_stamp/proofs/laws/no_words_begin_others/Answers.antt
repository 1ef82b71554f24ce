use Rattle.work_stamp.proofs.ReadBack.{no_words_begin_others}
use Rattle.work_stamp.proofs.laws.no_words_begin_others.Goals as goal

pub returns : goal.returns
returns c = no_words_begin_others
