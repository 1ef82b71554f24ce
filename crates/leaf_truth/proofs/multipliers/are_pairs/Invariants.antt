use Rattle.std.proofs.Common.{◌≡◌, drop}
use Rattle.std.specs.List.{list_all}
use Rattle.leaf_truth.specs.Multipliers.{is_pair}
use Rattle.leaf_truth.proofs.multipliers.are_pairs.Given as goal

abbrev pub invariant-loop-pair : goal.invariant-loop-pair
invariant-loop-pair l = list_all (is_pair l.rows l.cuts) (drop l.pair-index l.pairs) ≡ list_all (is_pair l.rows l.cuts) l.pairs
