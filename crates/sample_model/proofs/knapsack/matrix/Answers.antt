use Rattle.sample_model.specs.Draws.{after}
use Rattle.sample_model.specs.Knapsacks.{past_place, row_coefficients}
use Rattle.sample_model.proofs.Series.{series_on}
use Rattle.sample_model.proofs.knapsack.matrix.Goals as goal

pub loop-at-preserved : goal.loop-at-preserved
loop-at-preserved c =
    rw (c.in_ok-push.ensures.ok, c.in_ok-row_coefficients.ensures.value, c.in_ok-row_coefficients.ensures.state)
    (series_on (row_coefficients c.args.cols) (after past_place c.args.cols) c.args.rows c.loop-at._at c.loop-at.draws.state c.loop-at.matrix _ c.loop-at-test.true c.loop-at.invariant)
