use Rattle.search_truth.proofs.Covers.{search_is_true}
use Rattle.search_truth.proofs.search_is_true.Goals as goal

pub returns : goal.returns
returns c = search_is_true
