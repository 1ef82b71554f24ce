use Rattle.std.proofs.Common.{◌≡◌, ◌∙◌, length, ap}
use Rattle.ip_core.specs.Models.{IsModel}
use Rattle.ip_core.proofs.RisingColumns.{rows_short}
use Rattle.dual_ascent.proofs.work.round_work.Goals as goal

pub term_count-requires-clause-short : goal.term_count-requires-clause-short
term_count-requires-clause-short c =
    let m = c.args.model.now in
    let valid : IsModel m = c.parts.ensures.limits in
    let rows : c.as_slice-rows.result.now ≡ m.rows = c.as_slice-rows.ensures ∙ ap (λ p. p.rows) c.parts.ensures.value in
    rw rows (rows_short (length m.cols) m.root m.rows valid.bounds.columns valid.rows)

pub term_count-requires-2-clause-short : goal.term_count-requires-2-clause-short
term_count-requires-2-clause-short c =
    let m = c.args.model.now in
    rows_short (length m.cols) m.root c.args.cuts.now c.parts.ensures.limits.bounds.columns c.requires.rows
