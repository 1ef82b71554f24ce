use Rattle.commit_order.proofs.Waiting.{waits_last}
use Rattle.commit_order.proofs.laws.fed_entry_waits_last.Goals as goal

pub returns : goal.returns
returns c = waits_last
