use Rattle.std.proofs.Common.{◌≡◌, get_or, pos, unsigned_abs, w64, FitsSigned, rules, arith}
use Rattle.std.proofs.lemmas.Int.{to_z-of_z}
use Rattle.ip_core.specs.declared.row.Term.{Term}
use Rattle.cut_separate.specs.Thresholds.{size_at}
use Rattle.cut_separate.proofs.Taking.{taken_more, at_more, sum_more}
use Rattle.cut_separate.proofs.cover_cuts.taken_columns.Goals as goal

abbrev none : Term
none = record { col = 0; coef = pos 0 }

pub overflow_add-sum : goal.overflow_add-sum
overflow_add-sum c =
    record { fits = omega (arith, c.loop-term.invariant.sum, c.weight_from-sum.ensures.value, c.weight_from-sum.ensures.small, c.size_at-sum.ensures, at_more c.threshold-low.result c.args.bad.now c.loop-term.term-index none c.loop-term-test.true, c.requires.narrow) }

pub loop-term-preserved : goal.loop-term-preserved
loop-term-preserved c =
    let bad = c.args.bad.now in
    let i = c.loop-term.term-index in
    let t : Term = get_or bad i none in
    let fits : FitsSigned w64 t.coef = search rules in
    let size : c.unsigned_abs.result ≡ unsigned_abs t.coef = rw (to_z-of_z w64 t.coef fits) at c.unsigned_abs.ensures.value in
    record {
      cols = taken_more c.args.left bad i c.threshold-low.result c.loop-term.sum none c.loop-term.cols c.add_column.new.cols c.requires.rising c.threshold-low.ensures.more c.threshold-low.ensures.less c.loop-term-test.true c.loop-term.invariant.cols c.loop-term.invariant.sum (rw (c.is_taken-taken.ensures, size) at c.in_ok-add_column.ensures);
      sum = omega (arith, c.loop-term.invariant.sum, c.size_at-sum.ensures, sum_more (size_at c.threshold-low.result) bad i none c.loop-term-test.true);
    }
