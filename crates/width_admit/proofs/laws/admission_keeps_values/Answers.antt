use Rattle.width_admit.proofs.FileValues.{admission_keeps_values}
use Rattle.width_admit.proofs.laws.admission_keeps_values.Goals as goal

pub returns : goal.returns
returns c = admission_keeps_values
