use Rattle.dual_ascent.proofs.Choices.{row_takes_first_greatest}
use Rattle.dual_ascent.proofs.laws.row_takes_first_greatest.Goals as goal

pub returns : goal.returns
returns c = row_takes_first_greatest
