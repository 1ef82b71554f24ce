use Rattle.cert_check.proofs.Truth.{accepted_is_true}
use Rattle.cert_check.proofs.laws.accepted_is_true.Goals as goal

pub returns : goal.returns
returns c = accepted_is_true
