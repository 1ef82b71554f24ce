use Rattle.std.proofs.Common.{◌≡◌, ◌∙◌, ◌+◌, ◌<◌, ◌^◌, length, take, get_or, pos, ◌+ℤ◌, ◌*ℤ◌, FitsSigned, w64, to_z, rules, ap, arith}
use Rattle.std.specs.Int.{w128}
use Rattle.std.proofs.lemmas.Int.{to_z-of_z}
use Rattle.ip_core.specs.declared.row.Row.{Row}
use Rattle.safe_bound.specs.Weights.{weighted_least}
use Rattle.ip_core.proofs.RunningSums.{sum_fits, sum_is}
use Rattle.safe_bound.proofs.Sizes.{small_fits, least_narrow}
use Rattle.safe_bound.proofs.Weighted.{weighted_sum_more}
use Rattle.safe_bound.proofs.costs.weighted_least.Goals as goal

next_fits : (c : goal.After-weighted-sum) → FitsSigned w128 (weighted_least (take (c.loop-i.i + 1) c.args.rows.now) c.args.mults.now)
next_fits c = small_fits _ (2 ^ 121) (least_narrow c.args.rows.now c.args.mults.now (c.loop-i.i + 1) c.requires.rows c.requires.small c.requires.few) (omega arith)

next_is : (c : goal.After-weighted-sum) → to_z w128 c.loop-i.sum-bits +ℤ c.weighted-sum.result ≡ weighted_least (take (c.loop-i.i + 1) c.args.rows.now) c.args.mults.now
next_is c =
    let rows = c.args.rows.now in
    let ys = c.args.mults.now in
    let i = c.loop-i.i in
    let row : Row = get_or rows i c.index-rows-i.result in
    let many : i < length ys = omega arith in
    let fits : FitsSigned w64 row.least = search rules in
    let part : c.weighted-sum.result ≡ pos (get_or ys i 0) *ℤ row.least = c.weighted-sum.ensures ∙ ap (λ z. pos (get_or ys i 0) *ℤ z) (to_z-of_z w64 row.least fits) in
    rw (weighted_sum_more (λ (r : Row). r.least) rows ys i c.index-rows-i.result c.loop-i-test.true many, part) (ap (λ z. z +ℤ (pos (get_or ys i 0) *ℤ row.least)) c.loop-i.invariant)

pub overflow_add-sum : goal.overflow_add-sum
overflow_add-sum c = sum_fits w128 (to_z w128 c.loop-i.sum-bits) c.weighted-sum.result _ (record { sfits = c.weighted-sum.type_inv }) (next_is c) (next_fits c)

pub loop-i-preserved : goal.loop-i-preserved
loop-i-preserved c = sum_is w128 (to_z w128 c.loop-i.sum-bits) c.weighted-sum.result _ (record { sfits = c.weighted-sum.type_inv }) (next_is c) (next_fits c)

pub returns-clause-small : goal.returns-clause-small
returns-clause-small c = rw c.loop-i.invariant (least_narrow c.args.rows.now c.args.mults.now c.loop-i.i c.requires.rows c.requires.small c.requires.few)
