use Rattle.task_steps.proofs.LimitCauses.{limit_has_cause}
use Rattle.task_steps.proofs.laws.limits_are_met.Goals as goal

pub returns : goal.returns
returns c =
    limit_has_cause c.args.search.now.model c.args.search.now.settings c.args.search.now.valid
    c.args.search.now.paired c.args.limits.now c.requires
