use Rattle.std.proofs.Common.{◌≡◌, drop}
use Rattle.leaf_truth.specs.Multipliers.{multipliers}
use Rattle.leaf_truth.proofs.multipliers.write_multipliers.Given as goal

abbrev pub invariant-loop-at : goal.invariant-loop-at
invariant-loop-at l = l.mults ≡ multipliers l.model.rows l.cuts (drop l.at l.pairs)
