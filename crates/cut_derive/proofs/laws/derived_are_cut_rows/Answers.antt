use Rattle.cut_derive.proofs.Following.{derived_are_cut_rows}
use Rattle.cut_derive.proofs.laws.derived_are_cut_rows.Goals as goal

pub returns : goal.returns
returns c = derived_are_cut_rows
