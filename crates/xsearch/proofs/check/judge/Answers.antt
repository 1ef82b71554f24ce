use Rattle.std.proofs.Common.{Ok, ap}
use Rattle.xsearch.specs.Checks.{Told}
use Rattle.xsearch.proofs.check.judge.Goals as goal

pub returns-in-Ok : goal.returns-in-Ok
returns-in-Ok c = Told (record {
  is = ap Ok c.in-Ok.ensures;
  truth = c.accepted_is_true.ensures _ _ c.parts-limits.ensures.limits c.requires.tree;
})
