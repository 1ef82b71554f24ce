use Rattle.node_pool.specs.Lemmas.Boxes.{boxes_are_parts}
use Rattle.node_pool.proofs.laws.boxes_are_parts.Goals as goal

pub returns : goal.returns
returns c = boxes_are_parts
