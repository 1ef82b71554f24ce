use Rattle.std.proofs.Common.{pos}
use Rattle.ip_core.specs.Rows.{term_width}
use Rattle.ip_core.proofs.NarrowSums.{narrow_sum_fits, narrow_sum_is}
use Rattle.row_propagate.specs.Rounding.{other_part}
use Rattle.row_propagate.proofs.Parts.{other_part_small}
use Rattle.row_propagate.proofs.activity.others_activity.Goals as goal

pub overflow_add-sum : goal.overflow_add-sum
overflow_add-sum c =
    narrow_sum_fits (other_part c.args.bounds.now c.args.col) (term_width c.args.bounds.now) c.args.terms.now c.loop-term.term-index (record { col = 0; coef = pos 0 }) _ _ (other_part_small c.args.bounds.now c.args.col) c.requires.narrow (record { sfits = c.other_part-sum.type_inv }) c.loop-term-test.true c.loop-term.invariant c.other_part-sum.ensures

pub loop-term-preserved : goal.loop-term-preserved
loop-term-preserved c =
    narrow_sum_is (other_part c.args.bounds.now c.args.col) (term_width c.args.bounds.now) c.args.terms.now c.loop-term.term-index (record { col = 0; coef = pos 0 }) _ _ (other_part_small c.args.bounds.now c.args.col) c.requires.narrow (record { sfits = c.other_part-sum.type_inv }) c.loop-term-test.true c.loop-term.invariant c.other_part-sum.ensures
