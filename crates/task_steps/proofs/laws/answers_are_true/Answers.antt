use Rattle.task_steps.proofs.Truths.{answer_is_true}
use Rattle.task_steps.proofs.laws.answers_are_true.Goals as goal

pub returns : goal.returns
returns c =
    answer_is_true c.args.search.now.model c.args.search.now.settings c.args.search.now.valid
    c.args.search.now.paired c.args.limits.now c.requires
