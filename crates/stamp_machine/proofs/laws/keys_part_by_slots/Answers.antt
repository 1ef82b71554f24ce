use Rattle.stamp_machine.proofs.Merges.{sides}
use Rattle.stamp_machine.proofs.laws.keys_part_by_slots.Goals as goal

pub returns : goal.returns
returns c = sides
