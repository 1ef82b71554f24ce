use Rattle.safe_bound.proofs.Safety.{bound_is_safe}
use Rattle.safe_bound.proofs.laws.bound_is_safe.Goals as goal

pub returns : goal.returns
returns c = bound_is_safe
