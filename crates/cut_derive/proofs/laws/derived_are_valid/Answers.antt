use Rattle.cut_derive.proofs.Following.{derived_are_valid}
use Rattle.cut_derive.proofs.laws.derived_are_valid.Goals as goal

pub returns : goal.returns
returns c = derived_are_valid
