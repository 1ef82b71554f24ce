use Rattle.std.proofs.Common.{slice_set, ap, arith, ◌≤◌, ◌^◌}
use Rattle.ip_core.specs.Numbers.{int_at}
use Rattle.safe_bound.proofs.Lowering.{taken_fits, taken_is}
use Rattle.safe_bound.proofs.costs.subtract.Goals as goal

pub overflow_sub-costs : goal.overflow_sub-costs
overflow_sub-costs c =
    let small : c.args.mult ≤ 2 ^ 40 = omega arith in
    taken_fits (int_at c.args.costs.now c.args.col) c.args.mult c.args.coef c.from.result c.from-2.result c.from.ensures c.from-2.ensures c.ranges.coef small c.requires.room

pub returns : goal.returns
returns c =
    let small : c.args.mult ≤ 2 ^ 40 = omega arith in
    ap (slice_set c.args.costs.now c.args.col) (taken_is (int_at c.args.costs.now c.args.col) c.args.mult c.args.coef c.from.result c.from-2.result c.from.ensures c.from-2.ensures c.ranges.coef small c.requires.room)
