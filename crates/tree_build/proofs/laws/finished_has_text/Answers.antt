use Rattle.tree_build.proofs.CertificateRanges.{finished_has_text}
use Rattle.tree_build.proofs.laws.finished_has_text.Goals as goal

pub returns : goal.returns
returns c = finished_has_text
