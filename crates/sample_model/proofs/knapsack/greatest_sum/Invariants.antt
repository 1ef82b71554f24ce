use Rattle.std.proofs.Common.{◌≡◌, ◌≤◌, ◌+◌, ◌*◌, drop}
use Rattle.sample_model.specs.Knapsacks.{greatest_sum}
use Rattle.sample_model.proofs.knapsack.greatest_sum.Given as goal

abbrev pub invariant-loop-at : goal.invariant-loop-at
invariant-loop-at l = record {
  sum : l.sum + greatest_sum (drop l.at l.coefficients) (drop l.at l.uppers) ≡ greatest_sum l.coefficients l.uppers;
  small : l.sum ≤ 150 * l.at;
}
