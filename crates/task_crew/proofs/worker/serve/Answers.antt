use Rattle.std.proofs.Common.{ap, refl, subst}
use Rattle.crossbeam_queue.specs.Passes.{view}
use Rattle.task_crew.specs.Crews.{IsAfterTurn}
use Rattle.task_crew.proofs.Crews.{held_kept, serving_item, work_kept, worker_same}
use Rattle.task_crew.proofs.worker.serve.Goals as goal

pub put_back-requires-clause-serving : goal.put_back-requires-clause-serving
put_back-requires-clause-serving g c κs within =
    serving_item _ _ _ _ _ _ c.into_parts-carrier.result.0 c.turn-carrier.result.0 _ c.requires.serving
    c.into_parts-carrier.ensures c.turn-carrier.ensures.run
    c.turn-carrier.ensures.slot (subst (λ x. IsAfterTurn x c.turn-carrier.result.0) c.in-Goes.is c.turn-carrier.ensures.after)
    refl c.new.ensures

pub set_aside-requires-clause-serving : goal.set_aside-requires-clause-serving
set_aside-requires-clause-serving g c κs within =
    serving_item _ _ _ _ _ _ c.into_parts-carrier.result.0 c.turn-carrier.result.0 _ c.requires.serving
    c.into_parts-carrier.ensures c.turn-carrier.ensures.run
    c.turn-carrier.ensures.slot (subst (λ x. IsAfterTurn x c.turn-carrier.result.0) c.in-Waits.is c.turn-carrier.ensures.after)
    refl c.new-in-Waits.ensures

pub put_back-requires-in-Halted-clause-serving : goal.put_back-requires-in-Halted-clause-serving
put_back-requires-in-Halted-clause-serving g c κs within =
    serving_item _ _ _ _ _ _ c.into_parts-carrier.result.0 c.turn-carrier.result.0 _ c.requires.serving
    c.into_parts-carrier.ensures c.turn-carrier.ensures.run
    c.turn-carrier.ensures.slot ((subst (λ x. IsAfterTurn x c.turn-carrier.result.0) c.in-Halted.is c.turn-carrier.ensures.after)).0
    refl c.new-in-Halted.ensures

pub returns-in-Over-clause-worker : goal.returns-in-Over-clause-worker
returns-in-Over-clause-worker g c =
    worker_same _ _ _ c.requires.serving.worker (ap view c.keep.ensures.pass)

pub returns-in-Over-clause-held : goal.returns-in-Over-clause-held
returns-in-Over-clause-held g c =
    held_kept _ _ _ _ _ _ _ _ c.into_parts-carrier.result.0 c.turn-carrier.result.0 c.requires.serving
    c.into_parts-carrier.ensures c.turn-carrier.ensures.slot (ap view c.keep.ensures.pass)
    c.keep.ensures.kept (ap (λ l. l.items) c.keep.ensures.waiting)

pub returns-in-Over-clause-work : goal.returns-in-Over-clause-work
returns-in-Over-clause-work g c = λ _.
    work_kept _ _ _ _ _ _ _ _ c.into_parts-carrier.result.0 c.turn-carrier.result.0 c.requires.serving
    c.into_parts-carrier.ensures c.turn-carrier.ensures.run c.turn-carrier.ensures.slot
    (subst (λ x. IsAfterTurn x c.turn-carrier.result.0) c.in-Over.is c.turn-carrier.ensures.after) (ap view c.keep.ensures.pass)
    c.keep.ensures.kept (ap (λ l. l.items) c.keep.ensures.waiting)

pub returns-in-Broken-clause-worker : goal.returns-in-Broken-clause-worker
returns-in-Broken-clause-worker g c =
    worker_same _ _ _ c.requires.serving.worker (ap view c.keep-in-Broken.ensures.pass)

pub returns-in-Broken-clause-held : goal.returns-in-Broken-clause-held
returns-in-Broken-clause-held g c =
    held_kept _ _ _ _ _ _ _ _ c.into_parts-carrier.result.0 c.turn-carrier.result.0 c.requires.serving
    c.into_parts-carrier.ensures c.turn-carrier.ensures.slot (ap view c.keep-in-Broken.ensures.pass)
    c.keep-in-Broken.ensures.kept (ap (λ l. l.items) c.keep-in-Broken.ensures.waiting)
