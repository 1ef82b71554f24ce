use Rattle.task_steps.proofs.Truths.{history_is_read}
use Rattle.task_steps.proofs.laws.histories_are_read.Goals as goal

pub returns : goal.returns
returns c =
    history_is_read c.args.search.now.model c.args.search.now.settings c.args.search.now.valid
    c.args.search.now.paired c.args.limits.now c.requires
