use Rattle.sample_model.specs.Knapsacks.{coefficient, past_place}
use Rattle.sample_model.proofs.Series.{series_on, after_on}
use Rattle.sample_model.proofs.knapsack.row_coefficients.Goals as goal

pub loop-at-preserved : goal.loop-at-preserved
loop-at-preserved c = record {
  row = rw (c.in_ok-push.ensures.ok, c.coefficient.ensures.value, c.coefficient.ensures.state) (series_on coefficient past_place c.args.cols c.loop-at._at c.loop-at.draws.state c.loop-at.row _ c.loop-at-test.true c.loop-at.invariant.row);
  state = rw c.coefficient.ensures.state (after_on past_place c.args.cols c.loop-at._at c.loop-at.draws.state _ c.loop-at-test.true c.loop-at.invariant.state);
}
