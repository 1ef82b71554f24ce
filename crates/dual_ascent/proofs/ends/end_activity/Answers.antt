use Rattle.std.proofs.Common.{◌≡◌, ◌∙◌, ◌+◌, ◌<◌, ◌≤◌, ◌^◌, length, take, get_or, ℤ, pos, ◌+ℤ◌, ◌*ℤ◌, FitsSigned, w64, to_z, of_z, rules, arith}
use Rattle.std.specs.Int.{w128}
use Rattle.ip_core.specs.Numbers.{int_at}
use Rattle.ip_core.specs.declared.row.Term.{Term}
use Rattle.ip_core.proofs.RunningSums.{sum_fits, sum_is}
use Rattle.dual_ascent.specs.Ends.{end_activity}
use Rattle.dual_ascent.proofs.CostMoves.{part_exact, end_activity_more, end_activity_fits}
use Rattle.dual_ascent.proofs.ends.end_activity.Goals as goal

next_is : (c : goal.After-product-sum) → to_z w128 c.loop-term.sum-bits +ℤ c.product-sum.result ≡ end_activity c.args.bounds.now (int_at c.args.costs.now) (take (c.loop-term.term-index + 1) c.args.terms.now)
next_is c =
    let none : Term = record { col = 0; coef = pos 0 } in
    let t : Term = get_or c.args.terms.now c.loop-term.term-index none in
    let coef_fits : FitsSigned w64 t.coef = search rules in
    let cost_fits : FitsSigned w128 (int_at c.args.costs.now t.col) = search rules in
    let part = part_exact c.product-sum.result t.coef c.end_at.result (int_at c.args.costs.now t.col) c.args.bounds.now t.col coef_fits (record { sfits = c.end_at.type_inv }) cost_fits c.product-sum.ensures c.end_at.ensures in
    end_activity_more c.args.bounds.now (int_at c.args.costs.now) c.args.terms.now c.loop-term.term-index none (to_z w128 c.loop-term.sum-bits) c.product-sum.result c.loop-term-test.true c.loop-term.invariant part

pub overflow_add-sum : goal.overflow_add-sum
overflow_add-sum c = sum_fits w128 (to_z w128 c.loop-term.sum-bits) c.product-sum.result _ (record { sfits = c.product-sum.type_inv }) (next_is c) (end_activity_fits c.args.bounds.now (int_at c.args.costs.now) c.args.terms.now (c.loop-term.term-index + 1) c.requires.narrow)

pub loop-term-preserved : goal.loop-term-preserved
loop-term-preserved c = sum_is w128 (to_z w128 c.loop-term.sum-bits) c.product-sum.result _ (record { sfits = c.product-sum.type_inv }) (next_is c) (end_activity_fits c.args.bounds.now (int_at c.args.costs.now) c.args.terms.now (c.loop-term.term-index + 1) c.requires.narrow)
