use Rattle.std.proofs.Common.{rules}
use Rattle.cert_check.proofs.Truth.{verdict_is_true, verdicts_are_true}
use Rattle.cert_check.proofs.checker.check.Goals as goal

pub returns-in-Some-clause-truth : goal.returns-in-Some-clause-truth
returns-in-Some-clause-truth c = verdict_is_true c.args.model.now c.args.certificate.now c.in-Some.verdict c.parts-limits.ensures.limits c.requires.tree c.in-Some.ensures

pub returns-clause-truth : goal.returns-clause-truth
returns-clause-truth c = verdicts_are_true c.args.model.now c.args.certificate.now c.tree_verdict.result c.parts-limits.ensures.limits c.requires.tree (search rules)
