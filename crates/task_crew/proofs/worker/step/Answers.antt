use Rattle.task_crew.proofs.Crews.{if_none, over_next, when_goes_on, when_over}
use Rattle.task_crew.proofs.worker.step.Goals as goal

pub returns-in_default-clause-worker : goal.returns-in_default-clause-worker
returns-in_default-clause-worker g c =
    let work = if_none c.next_item-holder.result.1 c.in_default.is c.next_item-holder.ensures.work in work.worker

pub returns-in_default-clause-work : goal.returns-in_default-clause-work
returns-in_default-clause-work g c =
    when_goes_on c.idle_next-next.result
    (if_none c.next_item-holder.result.1 c.in_default.is c.next_item-holder.ensures.work)

pub returns-in_default-clause-kept : goal.returns-in_default-clause-kept
returns-in_default-clause-kept g c =
    over_next _ _ _ _ _ c.idle_next-next.result
    (if_none c.next_item-holder.result.1 c.in_default.is c.next_item-holder.ensures.work)
    c.as_slice.ensures.value c.idle_next-next.ensures

pub returns-in_default-clause-all : goal.returns-in_default-clause-all
returns-in_default-clause-all g c =
    when_over c.idle_next-next.result
    (if_none c.next_item-holder.result.1 c.in_default.is c.next_item-holder.ensures.all)

pub returns-then-goes_on-clause-work : goal.returns-then-goes_on-clause-work
returns-then-goes_on-clause-work g c = c.serve-after.ensures.work c.if-goes_on.true
