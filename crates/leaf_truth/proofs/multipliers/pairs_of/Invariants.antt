use Rattle.std.proofs.Common.{◌≡◌, ◌++◌, drop}
use Rattle.leaf_truth.specs.Multipliers.{name_at, pairs_from, pairs_of}
use Rattle.leaf_truth.proofs.multipliers.pairs_of.Given as goal

abbrev pub invariant-loop-place : goal.invariant-loop-place
invariant-loop-place l = l.pairs ++ pairs_from (name_at l.rows) l.place (drop l.place l.mults) ≡ pairs_of l.rows l.mults
