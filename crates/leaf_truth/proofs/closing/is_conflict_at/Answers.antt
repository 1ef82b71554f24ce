use Rattle.std.proofs.Common.{◌∙◌, sym}
use Rattle.leaf_truth.proofs.Solid.{solid_holds, row_ready}
use Rattle.leaf_truth.proofs.closing.is_conflict_at.Goals as goal

pub conflict-requires : goal.conflict-requires
conflict-requires c =
    row_ready c.args.model.now c.args.bounds.now c.in-Some.row.now c.parts-limits.ensures.limits c.requires.within (solid_holds c.args.bounds.now (sym c.requires.solid ∙ c.if-not-no_empty.false)) c.in-Some.ensures.row
