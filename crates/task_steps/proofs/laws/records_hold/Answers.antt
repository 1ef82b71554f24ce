use Rattle.task_steps.proofs.RecordTruths.{records_hold}
use Rattle.task_steps.proofs.laws.records_hold.Goals as goal

pub returns : goal.returns
returns c =
    records_hold c.args.search.now.model c.args.search.now.settings c.args.search.now.valid
    c.args.search.now.paired c.args.limits.now c.requires
