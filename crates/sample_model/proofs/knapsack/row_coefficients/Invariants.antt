use Rattle.std.proofs.Common.{◌≡◌, ◌-◌, ◌++◌}
use Rattle.sample_model.specs.Draws.{after}
use Rattle.sample_model.specs.Knapsacks.{past_place, row_coefficients}
use Rattle.sample_model.proofs.knapsack.row_coefficients.Given as goal

abbrev pub invariant-loop-at : goal.invariant-loop-at
invariant-loop-at l = record {
  row : l.row ++ row_coefficients (l.cols - l._at) l.draws.state ≡ row_coefficients l.cols l.initial.draws.state;
  state : after past_place (l.cols - l._at) l.draws.state ≡ after past_place l.cols l.initial.draws.state;
}
