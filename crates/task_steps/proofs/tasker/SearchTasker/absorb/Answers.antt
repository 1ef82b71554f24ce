use Rattle.task_steps.proofs.Histories.{pool_joins}
use Rattle.task_steps.proofs.tasker.SearchTasker.absorb.Goals as goal

pub absorb-requires : goal.absorb-requires
absorb-requires c =
    rw c.model.ensures (pool_joins c.args.self.now.model c.args.self.now.settings c.args.view.now
    c.args.entry.now c.requires.follows)
