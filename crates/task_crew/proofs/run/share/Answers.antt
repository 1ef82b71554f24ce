use Rattle.std.proofs.Common.{ap, ◌∙◌, arith}
use Rattle.task_crew.proofs.Crews.{may_share, worker_kept, worker_others}
use Rattle.task_crew.proofs.run.share.Goals as goal

pub another-others-requires-clause-rule : goal.another-others-requires-clause-rule
another-others-requires-clause-rule g c = may_share _ _ c.requires.more

pub returns-clause-worker : goal.returns-clause-worker
returns-clause-worker g c =
    worker_kept _ _ _ c.requires.worker c.another-others.ensures.rule.0

pub returns-clause-also : goal.returns-clause-also
returns-clause-also g c =
    worker_others _ _ _ c.requires.worker c.requires.more c.another-others.ensures.rule.1

pub returns-clause-none : goal.returns-clause-none
returns-clause-none g c = ap (λ v. v.holds) c.another-others.ensures.rule.0 ∙ c.requires.none

pub returns-clause-nothing : goal.returns-clause-nothing
returns-clause-nothing g c = ap (λ v. v.holds) c.another-others.ensures.rule.1

pub returns-clause-part : goal.returns-clause-part
returns-clause-part g c = ap (λ v. v.parts) c.another-others.ensures.rule.0

pub returns-clause-parts : goal.returns-clause-parts
returns-clause-parts g c =
    let parts = ap (λ v. v.parts) c.another-others.ensures.rule.1 in
    omega (arith, parts, c.requires.more)
