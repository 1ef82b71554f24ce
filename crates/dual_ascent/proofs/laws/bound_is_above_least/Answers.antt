use Rattle.dual_ascent.proofs.LeastBounds.{bound_is_above_least, bound_is_above_limit, bound_fits}
use Rattle.dual_ascent.proofs.laws.bound_is_above_least.Goals as goal

pub returns : goal.returns
returns c = record { least = bound_is_above_least; limit = bound_is_above_limit; fits = bound_fits }
