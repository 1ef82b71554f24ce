use Rattle.stamp_machine.proofs.Merges.{same_histories}
use Rattle.stamp_machine.proofs.laws.sorted_histories_are_same.Goals as goal

pub returns : goal.returns
returns c = same_histories
