use Rattle.stamp_machine.proofs.Merges.{least_first}
use Rattle.stamp_machine.proofs.laws.least_key_is_first.Goals as goal

pub returns : goal.returns
returns c = least_first
