use Rattle.std.proofs.Common.{◌∙◌, sym}
use Rattle.ip_core.proofs.Reaching.{model_within_reach}
use Rattle.leaf_truth.proofs.Solid.{solid_holds}
use Rattle.leaf_truth.proofs.closing.is_bound_by.Goals as goal

pub bound-least-requires-clause-within : goal.bound-least-requires-clause-within
bound-least-requires-clause-within c =
    model_within_reach c.args.model.now c.args.bounds.now c.parts-limits.ensures.limits c.requires.within (solid_holds c.args.bounds.now (sym c.requires.solid ∙ c.if-not-no_empty.false))
