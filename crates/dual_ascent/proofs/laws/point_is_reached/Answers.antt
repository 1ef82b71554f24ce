use Rattle.dual_ascent.proofs.LeastBounds.{point_is_reached}
use Rattle.dual_ascent.proofs.laws.point_is_reached.Goals as goal

pub returns : goal.returns
returns c = point_is_reached
