use Rattle.width_admit.proofs.FilePoints.{admission_keeps_rows}
use Rattle.width_admit.proofs.laws.admission_keeps_rows.Goals as goal

pub returns : goal.returns
returns c = admission_keeps_rows
