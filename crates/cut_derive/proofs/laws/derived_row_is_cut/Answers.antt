use Rattle.cut_derive.proofs.Following.{derived_row_is_cut}
use Rattle.cut_derive.proofs.laws.derived_row_is_cut.Goals as goal

pub returns : goal.returns
returns c = derived_row_is_cut
