use Rattle.width_admit.proofs.FilePoints.{admission_keeps_points}
use Rattle.width_admit.proofs.laws.admission_keeps_points.Goals as goal

pub returns : goal.returns
returns c = admission_keeps_points
