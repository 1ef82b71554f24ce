use Rattle.std.proofs.Common.{◌≡◌, ◌++◌, drop}
use Rattle.sample_model.specs.Samples.{cols_of}
use Rattle.sample_model.proofs.sample.columns.Given as goal

abbrev pub invariant-loop-at : goal.invariant-loop-at
invariant-loop-at l = l.columns ++ cols_of l.knapsack.coefficients l.at (drop l.at l.uppers) (drop l.at l.costs) ≡ cols_of l.knapsack.coefficients 0 l.uppers l.costs
