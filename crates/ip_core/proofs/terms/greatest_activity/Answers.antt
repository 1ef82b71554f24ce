use Rattle.std.proofs.Common.{◌≤◌, ◌^◌, take, pos, sum_by, unsigned_abs, w64, to_z, arith, le_trans}
use Rattle.ip_core.specs.Boxes.{greatest_activity, greatest_part}
use Rattle.ip_core.specs.Rows.{term_width}
use Rattle.ip_core.specs.declared.row.Term.{Term}
use Rattle.ip_core.proofs.BoxParts.{greatest_part_small}
use Rattle.ip_core.proofs.NarrowSums.{narrow_sum_fits, narrow_sum_is, front_small}
use Rattle.ip_core.proofs.terms.greatest_activity.Goals as goal

-- the terms alone are no wider than the row
narrow : (c : goal.After-greatest_part-sum) → sum_by (term_width c.args.bounds.now) c.args.row.now.terms ≤ 2 ^ 50
narrow c = omega (arith, c.requires.narrow)

pub overflow_add-sum : goal.overflow_add-sum
overflow_add-sum c =
    narrow_sum_fits (λ (t : Term). greatest_part c.args.bounds.now t) (term_width c.args.bounds.now) c.args.row.now.terms c.loop-term.term-index (record { col = 0; coef = pos 0 }) (to_z w64 c.loop-term.sum-bits) c.greatest_part-sum.result (greatest_part_small c.args.bounds.now) (narrow c) (record { sfits = c.greatest_part-sum.type_inv }) (rw (← c.as_slice-term-items.ensures) c.loop-term-test.true) c.loop-term.invariant (rw (← c.as_slice-term-items.ensures) c.greatest_part-sum.ensures)

pub loop-term-preserved : goal.loop-term-preserved
loop-term-preserved c =
    narrow_sum_is (λ (t : Term). greatest_part c.args.bounds.now t) (term_width c.args.bounds.now) c.args.row.now.terms c.loop-term.term-index (record { col = 0; coef = pos 0 }) (to_z w64 c.loop-term.sum-bits) c.greatest_part-sum.result (greatest_part_small c.args.bounds.now) (narrow c) (record { sfits = c.greatest_part-sum.type_inv }) (rw (← c.as_slice-term-items.ensures) c.loop-term-test.true) c.loop-term.invariant (rw (← c.as_slice-term-items.ensures) c.greatest_part-sum.ensures)

pub returns-clause-small : goal.returns-clause-small
returns-clause-small c =
    let s = c.args.bounds.now in
    let terms = c.args.row.now.terms in
    let front : unsigned_abs (greatest_activity s (take c.loop-term.term-index terms)) ≤ sum_by (term_width s) terms = front_small (λ (t : Term). greatest_part s t) (term_width s) terms c.loop-term.term-index (greatest_part_small s) in
    rw c.loop-term.invariant (le_trans front (omega (arith, c.requires.narrow)))
