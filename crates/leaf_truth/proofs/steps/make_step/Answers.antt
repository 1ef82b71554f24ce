use Rattle.leaf_truth.proofs.Solid.{solid_holds, row_ready}
use Rattle.leaf_truth.proofs.steps.make_step.Goals as goal

pub tighten-requires-clause-ready : goal.tighten-requires-clause-ready
tighten-requires-clause-ready c =
    row_ready c.args.model.now c.args.bounds.now c.in-Some.row.now c.parts-limits.ensures.limits c.requires.within (solid_holds c.args.bounds.now c.requires.solid) c.in-Some.ensures.row
