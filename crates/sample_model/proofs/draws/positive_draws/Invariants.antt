use Rattle.std.proofs.Common.{◌≡◌, ◌-◌, ◌++◌}
use Rattle.sample_model.specs.Draws.{after, next, positive_draws}
use Rattle.sample_model.proofs.draws.positive_draws.Given as goal

abbrev pub invariant-loop-at : goal.invariant-loop-at
invariant-loop-at l = record {
  numbers : l.numbers ++ positive_draws l.n (l.count - l._at) l.draws.state ≡ positive_draws l.n l.count l.initial.draws.state;
  state : after next (l.count - l._at) l.draws.state ≡ after next l.count l.initial.draws.state;
}
