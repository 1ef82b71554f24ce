use Rattle.std.proofs.Common.{◌≡◌, ◌∙◌, ◌+◌, ◌<◌, length, sym, ap, arith, length-append}
use Rattle.ip_core.specs.declared.row.Row.{Row}
use Rattle.safe_bound.specs.Bounds.{all_rows, row_of}
use Rattle.dual_ascent.proofs.RowFacts.{box_columns, row_known, row_narrow}
use Rattle.dual_ascent.proofs.ends.end_activities.Goals as goal

module _ (c : goal.After-as_slice) where
  known : c.loop-row.row < length (all_rows c.args.model.now c.args.cuts.now)
  known =
      let rows = ap length c.rows.ensures in
      omega (arith, length-append c.args.model.now.rows c.args.cuts.now, rows, c.loop-row-test.true)

  is_terms : c.as_slice.result.now ≡ (row_of c.args.model.now c.args.cuts.now c.loop-row.row).terms
  is_terms = c.as_slice.ensures ∙ ap (λ (r : Row). r.terms) c.row_at.ensures

pub end_activity-requires-clause-known : goal.end_activity-requires-clause-known
end_activity-requires-clause-known c = rw (is_terms c) (row_known c.args.model.now c.args.cuts.now c.args.bounds.now c.loop-row.row c.parts-limits.ensures.limits c.requires.cuts c.requires.within (known c))

pub end_activity-requires-clause-costs : goal.end_activity-requires-clause-costs
end_activity-requires-clause-costs c = c.requires.costs ∙ sym (box_columns c.args.model.now c.args.bounds.now c.parts-limits.ensures.limits c.requires.within)

pub end_activity-requires-clause-narrow : goal.end_activity-requires-clause-narrow
end_activity-requires-clause-narrow c = rw (is_terms c) (row_narrow c.args.model.now c.args.cuts.now c.args.bounds.now c.loop-row.row c.parts-limits.ensures.limits c.requires.cuts c.requires.within (known c))
