use Rattle.std.proofs.Common.{arith}
use Rattle.sample_model.proofs.KnapsackLaws.{sum_on, part_small}
use Rattle.sample_model.proofs.knapsack.greatest_sum.Goals as goal

pub overflow_add-sum : goal.overflow_add-sum
overflow_add-sum c =
    let part = part_small c.args.coefficients.now c.args.uppers.now c.loop-at.at c.requires.row c.requires.uppers c.loop-at-test.true in
    omega (arith, part, c.loop-at.invariant.small, c.requires.short, c.requires.row.as_many, c.loop-at-test.true)

pub loop-at-preserved : goal.loop-at-preserved
loop-at-preserved c =
    let part = part_small c.args.coefficients.now c.args.uppers.now c.loop-at.at c.requires.row c.requires.uppers c.loop-at-test.true in
    record {
      sum = sum_on c.args.coefficients.now c.args.uppers.now c.loop-at.at c.loop-at.sum _ c.loop-at-test.true (omega (arith, c.loop-at-test.true, c.requires.row.as_many)) c.loop-at.invariant.sum;
      small = omega (arith, part, c.loop-at.invariant.small);
    }
