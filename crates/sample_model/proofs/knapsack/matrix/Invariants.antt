use Rattle.std.proofs.Common.{◌≡◌, ◌-◌, ◌++◌}
use Rattle.sample_model.specs.Knapsacks.{matrix}
use Rattle.sample_model.proofs.knapsack.matrix.Given as goal

abbrev pub invariant-loop-at : goal.invariant-loop-at
invariant-loop-at l = l.matrix ++ matrix (l.rows - l._at) l.cols l.draws.state ≡ matrix l.rows l.cols l.initial.draws.state
