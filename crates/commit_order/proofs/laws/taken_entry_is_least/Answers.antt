use Rattle.commit_order.proofs.LeastEntries.{least_law}
use Rattle.commit_order.proofs.laws.taken_entry_is_least.Goals as goal

pub returns : goal.returns
returns c = least_law
