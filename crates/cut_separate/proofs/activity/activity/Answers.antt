use Rattle.std.proofs.Common.{◌≤◌, ◌^◌, take, pos, sum_by, unsigned_abs, ◌*ℤ◌, w64, to_z, arith, le_trans}
use Rattle.ip_core.specs.Numbers.{int_at}
use Rattle.ip_core.specs.Rows.{activity, term_width}
use Rattle.ip_core.specs.declared.row.Term.{Term}
use Rattle.ip_core.proofs.NarrowSums.{narrow_sum_fits, narrow_sum_is, front_small}
use Rattle.cut_separate.proofs.Nearness.{near_part}
use Rattle.cut_separate.proofs.activity.activity.Goals as goal

-- the terms alone are no wider than the row
narrow : (c : goal.After-value_part-sum) → sum_by (term_width c.args.root.now) c.args.row.now.terms ≤ 2 ^ 50
narrow c = omega (arith, c.requires.row.narrow)

pub overflow_add-sum : goal.overflow_add-sum
overflow_add-sum c =
    narrow_sum_fits (λ (t : Term). t.coef *ℤ int_at c.args.values.now t.col) (term_width c.args.root.now) c.args.row.now.terms c.loop-term.term-index (record { col = 0; coef = pos 0 }) (to_z w64 c.loop-term.sum-bits) c.value_part-sum.result (near_part c.args.root.now c.args.values.now c.requires.near) (narrow c) (record { sfits = c.value_part-sum.type_inv }) (rw (← c.as_slice-term-items.ensures) c.loop-term-test.true) c.loop-term.invariant (rw (← c.as_slice-term-items.ensures) c.value_part-sum.ensures)

pub loop-term-preserved : goal.loop-term-preserved
loop-term-preserved c =
    narrow_sum_is (λ (t : Term). t.coef *ℤ int_at c.args.values.now t.col) (term_width c.args.root.now) c.args.row.now.terms c.loop-term.term-index (record { col = 0; coef = pos 0 }) (to_z w64 c.loop-term.sum-bits) c.value_part-sum.result (near_part c.args.root.now c.args.values.now c.requires.near) (narrow c) (record { sfits = c.value_part-sum.type_inv }) (rw (← c.as_slice-term-items.ensures) c.loop-term-test.true) c.loop-term.invariant (rw (← c.as_slice-term-items.ensures) c.value_part-sum.ensures)

pub returns-clause-small : goal.returns-clause-small
returns-clause-small c =
    let s = c.args.root.now in
    let terms = c.args.row.now.terms in
    let front : unsigned_abs (activity c.args.values.now (take c.loop-term.term-index terms)) ≤ sum_by (term_width s) terms = front_small (λ (t : Term). t.coef *ℤ int_at c.args.values.now t.col) (term_width s) terms c.loop-term.term-index (near_part c.args.root.now c.args.values.now c.requires.near) in
    rw c.loop-term.invariant (le_trans front (omega (arith, c.requires.row.narrow)))
