use Rattle.stamp_machine.proofs.Endings.{halts_explained}
use Rattle.stamp_machine.proofs.laws.halts_have_causes.Goals as goal

pub returns : goal.returns
returns g c = halts_explained g.row.T-View.Denot g.row.T-Local.Denot (g.T.Tasker.rules c.args.tasker.now) c.args.limits.now c.requires
