use Rattle.std.proofs.Common.{◌≡◌, drop}
use Rattle.leaf_truth.specs.Multipliers.{rise_after}
use Rattle.leaf_truth.proofs.multipliers.rise_after.Given as goal

abbrev pub invariant-loop-pair : goal.invariant-loop-pair
invariant-loop-pair l = rise_after l.last (drop l.pair-index l.pairs) ≡ rise_after l.fn.name l.pairs
