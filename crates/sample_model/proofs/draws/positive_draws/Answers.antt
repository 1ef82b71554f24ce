use Rattle.std.proofs.Common.{◌+◌}
use Rattle.sample_model.specs.Draws.{draw_below, next}
use Rattle.sample_model.proofs.Series.{series_on, after_on}
use Rattle.sample_model.proofs.draws.positive_draws.Goals as goal

pub loop-at-preserved : goal.loop-at-preserved
loop-at-preserved c = record {
  numbers = rw (c.in_ok-push.ensures.ok, c.below.ensures.value, c.below.ensures.state) (series_on (λ y. 1 + draw_below c.args.n y) next c.args.count c.loop-at._at c.loop-at.draws.state c.loop-at.numbers _ c.loop-at-test.true c.loop-at.invariant.numbers);
  state = rw c.below.ensures.state (after_on next c.args.count c.loop-at._at c.loop-at.draws.state _ c.loop-at-test.true c.loop-at.invariant.state);
}
