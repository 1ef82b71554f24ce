use Rattle.std.proofs.Common.{◌≡◌, ◌+◌, ◌≤◌, ◌^◌, length, ◌+ℤ◌, FitsSigned, to_z, ap, arith}
use Rattle.std.specs.Int.{w128}
use Rattle.ip_core.specs.Numbers.{int_at, int_sum_below}
use Rattle.ip_core.proofs.IntSums.{int_sum_below_more}
use Rattle.safe_bound.specs.Bounds.{share}
use Rattle.ip_core.proofs.RunningSums.{sum_fits, sum_is}
use Rattle.safe_bound.proofs.Sizes.{small_fits}
use Rattle.safe_bound.proofs.Shares.{shares_small}
use Rattle.safe_bound.proofs.costs.shares.Goals as goal

next_fits : (c : goal.After-share-sum) → FitsSigned w128 (int_sum_below (c.loop-j.j + 1) (λ j. share c.args.bounds.now (int_at c.args.costs.now j) j))
next_fits c =
    let few : c.loop-j.j + 1 ≤ length c.args.bounds.now.lows = rw (← c.lows-j-end.ensures.value) (omega (arith, c.loop-j-test.true)) in
    small_fits _ (2 ^ 123) (omega (arith, shares_small c.args.bounds.now c.args.costs.now (c.loop-j.j + 1) few)) (omega arith)

next_is : (c : goal.After-share-sum) → to_z w128 c.loop-j.sum-bits +ℤ c.share-sum.result ≡ int_sum_below (c.loop-j.j + 1) (λ j. share c.args.bounds.now (int_at c.args.costs.now j) j)
next_is c =
    rw (int_sum_below_more (λ j. share c.args.bounds.now (int_at c.args.costs.now j) j) c.loop-j.j, c.share-sum.ensures) (ap (λ z. z +ℤ share c.args.bounds.now (int_at c.args.costs.now c.loop-j.j) c.loop-j.j) c.loop-j.invariant)

pub overflow_add-sum : goal.overflow_add-sum
overflow_add-sum c = sum_fits w128 (to_z w128 c.loop-j.sum-bits) c.share-sum.result _ (record { sfits = c.share-sum.type_inv }) (next_is c) (next_fits c)

pub loop-j-preserved : goal.loop-j-preserved
loop-j-preserved c = sum_is w128 (to_z w128 c.loop-j.sum-bits) c.share-sum.result _ (record { sfits = c.share-sum.type_inv }) (next_is c) (next_fits c)

pub returns-clause-small : goal.returns-clause-small
returns-clause-small c =
    let few : c.loop-j.j ≤ length c.args.bounds.now.lows = rw (← c.lows-j-end.ensures.value) c.loop-j.auto.j-end in
    rw c.loop-j.invariant (shares_small c.args.bounds.now c.args.costs.now c.loop-j.j few)
