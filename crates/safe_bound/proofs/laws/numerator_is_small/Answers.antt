use Rattle.safe_bound.proofs.Smallness.{numerator_is_small}
use Rattle.safe_bound.proofs.laws.numerator_is_small.Goals as goal

pub returns : goal.returns
returns c = numerator_is_small
