use Rattle.cert_check.proofs.Faultless.{accepted_is_faultless}
use Rattle.cert_check.proofs.laws.accepted_is_faultless.Goals as goal

pub returns : goal.returns
returns c = accepted_is_faultless
