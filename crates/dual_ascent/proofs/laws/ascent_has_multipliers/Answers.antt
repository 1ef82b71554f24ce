use Rattle.dual_ascent.proofs.Multipliers.{ascent_has_multipliers}
use Rattle.dual_ascent.proofs.laws.ascent_has_multipliers.Goals as goal

pub returns : goal.returns
returns c = ascent_has_multipliers
