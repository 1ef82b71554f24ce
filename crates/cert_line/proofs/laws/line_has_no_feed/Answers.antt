use Rattle.cert_line.proofs.Exactly.{line_has_no_feed}
use Rattle.cert_line.proofs.laws.line_has_no_feed.Goals as goal

pub returns : goal.returns
returns c = line_has_no_feed
