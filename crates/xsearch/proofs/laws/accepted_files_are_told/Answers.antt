use Rattle.xsearch.proofs.AcceptedChecks.{accepted_files_are_told}
use Rattle.xsearch.proofs.laws.accepted_files_are_told.Goals as goal

pub returns : goal.returns
returns c = accepted_files_are_told
