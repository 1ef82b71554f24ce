use Rattle.task_steps.proofs.Histories.{view_step}
use Rattle.task_steps.proofs.answer.pool_of.Goals as goal

pub loop-item-preserved : goal.loop-item-preserved
loop-item-preserved c =
    view_step c.args.model.now c.args.entries.now c.loop-item.pool c.absorb.new.self
    c.loop-item.item-index c.item-item.result c.loop-item-test.true c.item-item.is
    c.loop-item.invariant c.in_ok-absorb.ensures
