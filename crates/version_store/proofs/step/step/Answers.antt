use Rattle.std.proofs.Common.{refl, Ok, sym, subst}
use Rattle.version_store.specs.Advances.{StepFails, HasOpened, HasStepped}
use Rattle.version_store.proofs.Opens.{spared_still}
use Rattle.version_store.proofs.Steps.{blocked_steps, done_steps, gone_steps, goes, looks_kept}
use Rattle.version_store.proofs.step.step.Goals as goal

pub returns-in-Ok-Done-clause-step : goal.returns-in-Ok-Done-clause-step
returns-in-Ok-Done-clause-step g c =
    let t = g.T.Tasker in
    let a = c.args.tasker.now in
    subst (λ x. HasStepped (t.rules a) (t.fits_view a) c.args.limits.now c.args.seat c.open_move.new.seat c.args.playing (Ok x)) (sym c.after_move.ensures)
    (done_steps (t.rules a) (t.fits_view a) (t.fits_local a) c.args.limits.now c.args.seat c.open_move.new.seat c.args.playing c.in-Ok-Done.playing
    (subst (λ x. HasOpened (t.rules a) (t.fits_view a) (t.fits_local a) c.args.limits.now c.args.seat c.open_move.new.seat c.args.playing (Ok x)) c.in-Ok-Done.field-0-is c.in-Ok-Done.ensures.open))

pub returns-in-Ok-Blocked-clause-step : goal.returns-in-Ok-Blocked-clause-step
returns-in-Ok-Blocked-clause-step g c =
    let t = g.T.Tasker in
    let a = c.args.tasker.now in
    blocked_steps (t.rules a) (t.fits_view a) (t.fits_local a) c.args.limits.now c.args.seat c.open_move.new.seat c.args.playing c.in-Ok-Blocked.playing c.in-Ok-Blocked.slot c.in-Ok-Blocked.clock
    (subst (λ x. HasOpened (t.rules a) (t.fits_view a) (t.fits_local a) c.args.limits.now c.args.seat c.open_move.new.seat c.args.playing (Ok x)) c.in-Ok-Blocked.field-0-is c.in-Ok-Blocked.ensures.open)

pub returns-in-Ok-Goes-clause-step : goal.returns-in-Ok-Goes-clause-step
returns-in-Ok-Goes-clause-step g c =
    let t = g.T.Tasker in
    let a = c.args.tasker.now in
    subst (λ x. HasStepped (t.rules a) (t.fits_view a) c.args.limits.now c.args.seat c.finish-seat.result.0 c.args.playing x) (sym c.moved.ensures)
    (gone_steps (t.rules a) (t.fits_view a) (t.fits_local a) c.args.limits.now c.args.seat c.open_move.new.seat c.finish-seat.result.0 c.args.playing c.in-Ok-Goes.playing c.in-Ok-Goes.local c.finish-seat.result.1
    (goes (t.rules a) (t.fits_view a) (t.fits_local a) c.args.limits.now c.args.seat c.open_move.new.seat c.args.playing c.in-Ok-Goes.playing c.in-Ok-Goes.local
    (subst (λ x. HasOpened (t.rules a) (t.fits_view a) (t.fits_local a) c.args.limits.now c.args.seat c.open_move.new.seat c.args.playing (Ok x)) c.in-Ok-Goes.field-0-is c.in-Ok-Goes.ensures.open))
    c.finish-seat.ensures.same c.finish-seat.ensures.after c.finish-seat.ensures.clock)

pub returns-in-Err-clause-step : goal.returns-in-Err-clause-step
returns-in-Err-clause-step g c = StepFails c.in-Err.error refl

pub returns-in-Ok-Goes-clause-looks : goal.returns-in-Ok-Goes-clause-looks
returns-in-Ok-Goes-clause-looks g c =
    let t = g.T.Tasker in
    let a = c.args.tasker.now in
    spared_still (t.rules a) (t.fits_view a) (t.fits_local a) c.args.limits.now c.args.seat c.finish-seat.result.0 c.args.playing c.open_move.new.seat c.in-Ok-Goes.ensures.looks
    (looks_kept c.open_move.new.seat c.finish-seat.result.0 c.finish-seat.ensures.same)
