use Rattle.cut_derive.proofs.Following.{derived_over_more}
use Rattle.cut_derive.proofs.laws.derived_over_more.Goals as goal

pub returns : goal.returns
returns c = derived_over_more
