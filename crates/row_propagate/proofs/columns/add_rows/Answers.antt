use Rattle.std.proofs.Common.{◌∙◌, ◌+◌, length, sym, ap, subst, arith}
use Rattle.ip_core.specs.Rows.{AreTerms}
use Rattle.ip_core.specs.declared.row.Row.{Row}
use Rattle.ip_core.specs.declared.row.Term.{Term}
use Rattle.row_propagate.specs.Kept.{HasRowAdded}
use Rattle.row_propagate.proofs.Transposing.{rows_more}
use Rattle.row_propagate.proofs.columns.add_rows.Goals as goal

pub add_row-requires : goal.add_row-requires
add_row-requires c =
    let known = subst (λ (r : Row). AreTerms (length c.args.columns.now) r.terms) (sym c.index-rows-index.is) (c.requires.terms.each c.loop-index.index c.index-rows-index.result c.loop-index-test.true) in
    rw (c.loop-index.invariant.len, c.as_slice.ensures) known

pub loop-index-preserved : goal.loop-index-preserved
loop-index-preserved c = record {
  len = c.in_ok-add_row.ensures.len ∙ c.loop-index.invariant.len;
  columns = λ before many columns. rows_more (length c.args.columns.now) c.args.first c.loop-index.index before c.args.rows.now c.index-rows-index.result c.loop-index.columns c.add_row.new.columns many c.loop-index-test.true c.index-rows-index.is c.in_ok-add_row.ensures.len (c.loop-index.invariant.columns before many columns) (subst (λ ts. HasRowAdded (c.args.first + c.loop-index.index) ts c.loop-index.columns c.add_row.new.columns) c.as_slice.ensures c.in_ok-add_row.ensures.ok);
}
