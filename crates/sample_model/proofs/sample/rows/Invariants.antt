use Rattle.std.proofs.Common.{◌≡◌, ◌++◌, drop}
use Rattle.sample_model.specs.Samples.{rows_of}
use Rattle.sample_model.proofs.sample.rows.Given as goal

abbrev pub invariant-loop-at : goal.invariant-loop-at
invariant-loop-at l = l.rows ++ rows_of l.knapsack.uppers l.at (drop l.at l.coefficients) ≡ rows_of l.knapsack.uppers 0 l.coefficients
