use denote.Param.{param}
use Rattle.task_crew.proofs.Crossing.{given_send, taken_send}
use Rattle.task_crew.proofs.run.+fn-workers-join+arg3+workers.Goals as goal

-- The bounds on the type parameters are read off what the function requires: views and locals may be
-- sent, and the tasker, the gate and the runtime may be shared.
pub join-one-requires-send-F : goal.join-one-requires-send-F
join-one-requires-send-F g t c κs within =
    let view = c.requires-raw.1.1.1.1.1.1.0 in
    let local = c.requires-raw.1.1.1.1.1.1.1.0 in
    let tasker = c.requires-raw.1.1.1.1.1.1.1.1.0 in
    let gate = c.requires-raw.1.1.1.1.1.1.1.1.1.0 in
    let runtime = c.requires-raw.1.1.1.1.1.1.1.1.1.1.0 in
    taken_send _ _ _ _ _ g.T.Tasker _ _ _ _ _ _ tasker gate runtime view local

pub join-one-requires-send-A : goal.join-one-requires-send-A
join-one-requires-send-A g t c κs within =
    let view = c.requires-raw.1.1.1.1.1.1.0 in
    let local = c.requires-raw.1.1.1.1.1.1.1.0 in
    given_send (param 0 g.row.T) (param 3 g.row.T-View) (param 4 g.row.T-Local) g.T.Tasker _ _ view local
