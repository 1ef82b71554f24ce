use Rattle.stamp_machine.proofs.Openings.{parts}
use Rattle.stamp_machine.proofs.laws.turns_have_parts.Goals as goal

pub returns : goal.returns
returns g c = parts (g.T.Tasker.rules c.args.tasker.now) c.args.limits.now
