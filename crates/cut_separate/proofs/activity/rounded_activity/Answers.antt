use Rattle.std.proofs.Common.{◌≤◌, ◌^◌, take, pos, sum_by, unsigned_abs, w64, to_z, arith, le_trans}
use Rattle.ip_core.specs.Rows.{term_width}
use Rattle.ip_core.proofs.NarrowSums.{narrow_sum_fits, narrow_sum_is, front_small}
use Rattle.cut_separate.specs.Violations.{rounded_part, rounded_activity}
use Rattle.cut_separate.proofs.Nearness.{near_rounded}
use Rattle.cut_separate.proofs.activity.rounded_activity.Goals as goal

-- the terms alone are no wider than the row
narrow : (c : goal.After-rounded_part-sum) → sum_by (term_width c.args.root.now) c.args.row.now.terms ≤ 2 ^ 50
narrow c = omega (arith, c.requires.row.narrow)

pub overflow_add-sum : goal.overflow_add-sum
overflow_add-sum c =
    narrow_sum_fits (rounded_part c.args.divisor c.args.values.now) (term_width c.args.root.now) c.args.row.now.terms c.loop-term.term-index (record { col = 0; coef = pos 0 }) (to_z w64 c.loop-term.sum-bits) c.rounded_part-sum.result (near_rounded c.args.root.now c.args.values.now c.args.divisor c.requires.above c.requires.near) (narrow c) (record { sfits = c.rounded_part-sum.type_inv }) (rw (← c.as_slice-term-items.ensures) c.loop-term-test.true) c.loop-term.invariant (rw (← c.as_slice-term-items.ensures) c.rounded_part-sum.ensures)

pub loop-term-preserved : goal.loop-term-preserved
loop-term-preserved c =
    narrow_sum_is (rounded_part c.args.divisor c.args.values.now) (term_width c.args.root.now) c.args.row.now.terms c.loop-term.term-index (record { col = 0; coef = pos 0 }) (to_z w64 c.loop-term.sum-bits) c.rounded_part-sum.result (near_rounded c.args.root.now c.args.values.now c.args.divisor c.requires.above c.requires.near) (narrow c) (record { sfits = c.rounded_part-sum.type_inv }) (rw (← c.as_slice-term-items.ensures) c.loop-term-test.true) c.loop-term.invariant (rw (← c.as_slice-term-items.ensures) c.rounded_part-sum.ensures)

pub returns-clause-small : goal.returns-clause-small
returns-clause-small c =
    let s = c.args.root.now in
    let terms = c.args.row.now.terms in
    let front : unsigned_abs (rounded_activity c.args.divisor c.args.values.now (take c.loop-term.term-index terms)) ≤ sum_by (term_width s) terms = front_small (rounded_part c.args.divisor c.args.values.now) (term_width s) terms c.loop-term.term-index (near_rounded c.args.root.now c.args.values.now c.args.divisor c.requires.above c.requires.near) in
    rw c.loop-term.invariant (le_trans front (omega (arith, c.requires.row.narrow)))
