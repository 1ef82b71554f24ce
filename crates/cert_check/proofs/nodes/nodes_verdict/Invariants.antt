use Rattle.std.proofs.Common.{◌≡◌, ◌+◌, [], ◌∷◌, drop}
use Rattle.leaf_truth.specs.Rooms.{HasRoom}
use Rattle.cert_check.specs.Nodes.{nodes_fault}
use Rattle.cert_check.specs.Walks.{AreWithin}
use Rattle.cert_check.proofs.nodes.nodes_verdict.Given as goal

abbrev pub invariant-loop-node : goal.invariant-loop-node
invariant-loop-node l = record {
  line : l.line ≡ l.first_line + l.node-index;
  fault : nodes_fault l.model l.cuts l.value l.line (l.walk.here ∷ l.walk.later) (drop l.node-index l.nodes) ≡ nodes_fault l.model l.cuts l.value l.first_line (l.model.root ∷ []) l.nodes;
  within : AreWithin l.model.root (l.walk.here ∷ l.walk.later);
  room : HasRoom l.model l.cuts l.scratch;
}
