use Rattle.dual_ascent.proofs.PassedPoints.{failing_point_is_passed}
use Rattle.dual_ascent.proofs.laws.failing_point_is_passed.Goals as goal

pub returns : goal.returns
returns c = failing_point_is_passed
