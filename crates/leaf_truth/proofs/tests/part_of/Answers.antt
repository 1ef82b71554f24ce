use Rattle.leaf_truth.proofs.TestBoxes.{within_cuts}
use Rattle.leaf_truth.proofs.tests.part_of.Goals as goal

pub returns : goal.returns
returns c = within_cuts _ _ _ _ _ _ _ c.in_ok-part.ensures c.cut_low.ensures c.cut_high.ensures
