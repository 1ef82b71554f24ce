use Rattle.std.proofs.Common.{◌∙◌, sym}
use Rattle.cut_derive.proofs.Following.{derived_row_is_cut}
use Rattle.cut_separate.proofs.keep.keep.Goals as goal

pub is_violated-requires-clause-row : goal.is_violated-requires-clause-row
is_violated-requires-clause-row c =
    (derived_row_is_cut c.args.model.now c.args.cuts.now c.args.derivation c.in-Ok.row c.parts-limits.ensures.limits c.requires.cuts.rows (sym c.in_ok-row.ensures ∙ c.in-Ok.is)).valid
