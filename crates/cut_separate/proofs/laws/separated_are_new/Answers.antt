use Rattle.cut_separate.proofs.Separating.{separated_are_new}
use Rattle.cut_separate.proofs.laws.separated_are_new.Goals as goal

pub returns : goal.returns
returns c = separated_are_new
