use Rattle.stamp_machine.proofs.Merges.{unread}
use Rattle.stamp_machine.proofs.laws.running_tasks_read_nothing.Goals as goal

pub returns : goal.returns
returns g c = unread (g.T.Tasker.rules c.args.tasker.now) c.args.limits.now
