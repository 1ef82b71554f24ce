use Rattle.commit_order.proofs.Waiting.{waited_first}
use Rattle.commit_order.proofs.laws.taken_entry_waited_first.Goals as goal

pub returns : goal.returns
returns c = waited_first
