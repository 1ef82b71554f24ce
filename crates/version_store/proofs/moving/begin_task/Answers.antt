use Rattle.version_store.proofs.Closes.{fails}
use Rattle.version_store.proofs.TaskOpenings.{begun_opening, closed_again}
use Rattle.version_store.proofs.moving.begin_task.Goals as goal

pub returns-in_err-opening-clause-closed : goal.returns-in_err-opening-clause-closed
returns-in_err-opening-clause-closed g c =
    let t = g.T.Tasker in
    let a = c.args.tasker.now in
    fails (t.rules a) (t.fits_view a) (t.fits_local a) c.args.limits.now c.args.seat.now c.args.seat.now.slot c.args.playing c.from_residual.result c.from_residual.ensures.0

pub close_opening-requires-clause-opening : goal.close_opening-requires-clause-opening
close_opening-requires-clause-opening g c = λ κs within.
    let t = g.T.Tasker in
    let a = c.args.tasker.now in
    let p = c.opening_parts-entries.result in
    begun_opening (t.rules a) (t.fits_view a) (t.fits_local a) c.args.limits.now c.args.seat.now c.args.playing c.args.local c.requires.can c.in_ok-opening.opening p.0.entries p.0.slot p.1 c.in_ok-opening.ensures.opening c.in_ok-opening.ensures.runs c.opening_parts-entries.ensures

pub returns-clause-closed : goal.returns-clause-closed
returns-clause-closed g c =
    let t = g.T.Tasker in
    let a = c.args.tasker.now in
    closed_again (t.rules a) (t.fits_view a) (t.fits_local a) c.args.limits.now c.close_opening.new.seat c.args.seat.now.slot c.args.playing c.opening_parts-entries.result.0.slot c.close_opening.result c.close_opening.ensures.closed
