use Rattle.cert_line.proofs.Exactly.{reading_is_exact}
use Rattle.cert_line.proofs.laws.reading_is_exact.Goals as goal

pub returns : goal.returns
returns c = reading_is_exact
