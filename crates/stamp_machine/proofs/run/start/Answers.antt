use Rattle.stamp_machine.proofs.Playing.{fresh_pushed}
use Rattle.stamp_machine.proofs.run.start.Goals as goal

pub loop-number-preserved : goal.loop-number-preserved
loop-number-preserved g c =
    fresh_pushed (g.T.Tasker.rules c.args.tasker.now) c.loop-number.number c.loop-number.slots c.push.new.self c.in_ok-local.local c.new.result c.new-in-loop-number-2.result c.new-in-loop-number.result c.loop-number.invariant c.in_ok-local.ensures c.new.ensures c.new-in-loop-number.ensures c.new-in-loop-number-2.ensures c.in_ok-push.ensures.ok
