use Rattle.ip_core.proofs.RisingColumns.{rows_short}
use Rattle.task_steps.specs.Lemmas.TaskCuts.{cut_rows}
use Rattle.task_steps.proofs.cut_chunk.cutting_chunk.Goals as goal

pub term_count-requires-clause-short : goal.term_count-requires-clause-short
term_count-requires-clause-short c =
    let m = c.args.model.now in
    let valid = c.parts-limits.ensures.limits in
    rw c.rows.ensures (rows_short _ m.root m.rows valid.bounds.columns valid.rows)

pub term_count-requires-2-clause-short : goal.term_count-requires-2-clause-short
term_count-requires-2-clause-short c =
    let m = c.args.model.now in
    let valid = c.parts-limits.ensures.limits in
    rows_short _ m.root c.args.cuts.now valid.bounds.columns
    (cut_rows m c.args.cuts.now valid c.requires.cuts)
