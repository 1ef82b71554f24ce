use Rattle.round_dive.proofs.FixedBoxes.{fixed_box_is_decided}
use Rattle.round_dive.proofs.laws.fixed_box_is_decided.Goals as goal

pub returns : goal.returns
returns c = fixed_box_is_decided
