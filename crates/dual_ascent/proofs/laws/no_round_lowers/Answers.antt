use Rattle.dual_ascent.proofs.Climbing.{no_round_lowers}
use Rattle.dual_ascent.proofs.laws.no_round_lowers.Goals as goal

pub returns : goal.returns
returns c = no_round_lowers
