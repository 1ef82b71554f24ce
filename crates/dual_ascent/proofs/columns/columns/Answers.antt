use Rattle.std.proofs.Common.{◌≡◌, ◌∙◌, ◌+◌, ◌<◌, ◌≤◌, ◌^◌, length, ap, subst, arith, length-append}
use Rattle.ip_core.specs.declared.row.Row.{Row}
use Rattle.safe_bound.specs.Bounds.{all_rows, row_of}
use Rattle.safe_bound.proofs.Smallness.{rows_few}
use Rattle.dual_ascent.specs.Kept.{HasRowAdded}
use Rattle.dual_ascent.proofs.RowFacts.{row_light}
use Rattle.dual_ascent.proofs.Transposing.{AreColumnsUpTo, columns_more, columns_all}
use Rattle.dual_ascent.proofs.columns.columns.Goals as goal

pub loop-row-preserved : goal.loop-row-preserved
loop-row-preserved c =
    let m = c.args.model.now in
    let cuts = c.args.cuts.now in
    let k = c.loop-row.row in
    let rows = ap length c.rows.ensures in
    let known : k < length (all_rows m cuts) = omega (arith, length-append m.rows cuts, rows, c.loop-row-test.true) in
    let terms : c.as_slice.result.now ≡ (row_of m cuts k).terms = c.as_slice.ensures ∙ ap (λ (r : Row). r.terms) c.row_at.ensures in
    let added : HasRowAdded k (row_of m cuts k).terms c.loop-row.lists.items c.add_row.new.lists.items = subst (λ ts. HasRowAdded k ts c.loop-row.lists.items c.add_row.new.lists.items) terms c.in_ok-add_row.ensures in
    columns_more m cuts k c.loop-row.lists.items c.add_row.new.lists.items known (row_light m cuts k c.parts.ensures.limits c.requires known).narrow c.loop-row.invariant added

pub returns : goal.returns
returns c =
    let m = c.args.model.now in
    let cuts = c.args.cuts.now in
    let rows = ap length c.rows.ensures in
    let whole : c.loop-row.row ≡ length (all_rows m cuts) = omega (arith, length-append m.rows cuts, rows, c.loop-row-test.false, c.loop-row.auto.row-end) in
    rw c.of.ensures (columns_all m cuts c.loop-row.lists.items (omega (arith, rows_few m cuts c.parts.ensures.limits c.requires)) (subst (λ n. AreColumnsUpTo m cuts n c.loop-row.lists.items) whole c.loop-row.invariant))
