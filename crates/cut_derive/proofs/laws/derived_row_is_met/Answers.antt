use Rattle.cut_derive.proofs.Following.{derived_row_is_met}
use Rattle.cut_derive.proofs.laws.derived_row_is_met.Goals as goal

pub returns : goal.returns
returns c = derived_row_is_met
