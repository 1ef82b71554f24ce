use Rattle.std.proofs.Common.{arith}
use Rattle.std.proofs.lemmas.Bool.{le-ltb, lt-ltb}
use Rattle.width_admit.specs.Admission.{has_many_columns, has_many_rows, has_many_terms}
use Rattle.width_admit.proofs.Refusals.{counted_rows, counted_terms, many_rows, many_terms, few_counts}
use Rattle.width_admit.proofs.refuse.count_refusal.Goals as goal

pub returns-then-row_count : goal.returns-then-row_count
returns-then-row_count c =
    let m = c.args.mps.now in
    many_rows (has_many_columns m) (has_many_rows m) (has_many_terms m) (le-ltb _ _ (omega (arith, c.if-len-gt-MAX_COLUMNS.false, c.len.ensures))) (lt-ltb _ _ (omega (arith, c.if-row_count.true, counted_rows m.cols c.as_slice-rows.result.now m.rows c.row_count.result c.as_slice-rows.ensures c.row_count.ensures)))

pub returns-then-term_count : goal.returns-then-term_count
returns-then-term_count c =
    let m = c.args.mps.now in
    many_terms (has_many_columns m) (has_many_rows m) (has_many_terms m) (le-ltb _ _ (omega (arith, c.if-len-gt-MAX_COLUMNS.false, c.len.ensures))) (le-ltb _ _ (omega (arith, c.if-row_count.false, counted_rows m.cols c.as_slice-rows.result.now m.rows c.row_count.result c.as_slice-rows.ensures c.row_count.ensures))) (lt-ltb _ _ (omega (arith, c.if-term_count.true, counted_terms m.cols c.args.lists.now c.as_slice-rows.result.now m.rows c.term_count.result c.requires.gathered c.as_slice-rows.ensures c.term_count.ensures)))

pub returns : goal.returns
returns c =
    let m = c.args.mps.now in
    few_counts (has_many_columns m) (has_many_rows m) (has_many_terms m) (le-ltb _ _ (omega (arith, c.if-len-gt-MAX_COLUMNS.false, c.len.ensures))) (le-ltb _ _ (omega (arith, c.if-row_count.false, counted_rows m.cols c.as_slice-rows.result.now m.rows c.row_count.result c.as_slice-rows.ensures c.row_count.ensures))) (le-ltb _ _ (omega (arith, c.if-term_count.false, counted_terms m.cols c.args.lists.now c.as_slice-rows.result.now m.rows c.term_count.result c.requires.gathered c.as_slice-rows.ensures c.term_count.ensures)))
