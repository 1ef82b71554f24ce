use Rattle.dual_ascent.proofs.Climbing.{no_row_lowers}
use Rattle.dual_ascent.proofs.laws.no_row_lowers.Goals as goal

pub returns : goal.returns
returns c = no_row_lowers
