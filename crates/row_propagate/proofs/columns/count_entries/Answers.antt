use Rattle.std.proofs.Common.{length, sym, subst}
use Rattle.ip_core.specs.Rows.{AreTerms}
use Rattle.ip_core.specs.declared.row.Row.{Row}
use Rattle.row_propagate.proofs.columns.count_entries.Goals as goal

pub count_terms-requires : goal.count_terms-requires
count_terms-requires c = rw (c.as_slice.ensures, c.loop-row.auto.counts) (subst (λ (r : Row). AreTerms (length c.args.counts.now) r.terms) (sym c.row-item.is) (c.requires.each c.loop-row.row-index c.row-item.result c.loop-row-test.true))
