use Rattle.cert_text.proofs.RoundTrips.{read_is_text}
use Rattle.cert_text.proofs.laws.read_is_its_text.Goals as goal

pub returns : goal.returns
returns c bytes other read = read_is_text bytes other read.is
