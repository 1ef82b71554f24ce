use Rattle.cut_separate.proofs.Separating.{new_cuts_are_derived}
use Rattle.cut_separate.proofs.laws.new_cuts_are_derived.Goals as goal

pub returns : goal.returns
returns c = new_cuts_are_derived
