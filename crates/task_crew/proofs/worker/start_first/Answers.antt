use Rattle.std.proofs.Common.{◌≡◌, [], IfOk, subst}
use Rattle.task_crew.proofs.Crews.{over_none}
use Rattle.task_crew.proofs.worker.start_first.Goals as goal

pub start-requires-clause-kept : goal.start-requires-clause-kept
start-requires-clause-kept g c κs within =
    over_none _ _ _ c.requires.none (subst (λ r. IfOk r (λ v. v.items ≡ [])) c.in-Ok.is c.with_capacity.ensures.items)

pub returns-in_default-clause-kept : goal.returns-in_default-clause-kept
returns-in_default-clause-kept g c = over_none _ _ _ c.requires.none c.new.ensures.items
