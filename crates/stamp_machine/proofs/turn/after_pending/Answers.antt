use Rattle.std.proofs.Common.{sym, subst, ap, ◌∙◌}
use Rattle.std.specs.Prelude.{IfOk, ◌≡◌}
use Rattle.stamp_machine.specs.Openings.{turn_of_opening}
use Rattle.stamp_machine.specs.Plays.{CanGrow, after_move}
use Rattle.stamp_machine.proofs.Openings.{begun_grows, begun_moved, pending_grows}
use Rattle.stamp_machine.proofs.turn.after_pending.Goals as goal

pub join-requires-after_bounds : goal.join-requires-after_bounds
join-requires-after_bounds g c = λ κs within.
    let t = g.T.Tasker in
    let a = c.args.tasker.now in
    pending_grows g.row.T-View.Denot g.row.T-Local.Denot (t.rules a) (t.fits_view a) (t.fits_local a) (t.may_follow a) (t.agrees a) (g.met.T.Tasker.lawful a) c.args.limits.now c.args.so_far c.args.key c.args.turn c.args.local c.requires.grow

pub task_opening-requires-clause-view : goal.task_opening-requires-clause-view
task_opening-requires-clause-view g c = λ κs within.
    let t = g.T.Tasker in
    let a = c.args.tasker.now in
    (begun_grows g.row.T-View.Denot g.row.T-Local.Denot (t.rules a) (t.fits_view a) (t.fits_local a) (t.may_follow a) (t.agrees a) (g.met.T.Tasker.lawful a) c.args.limits.now c.args.so_far c.args.key c.args.turn c.args.local c.in_ok-so_far.so_far c.requires.grow (sym c.if-at_start.ensures) c.in_ok-so_far.ensures).fits

pub after_opening-requires-clause-grow : goal.after_opening-requires-clause-grow
after_opening-requires-clause-grow g c = λ κs within.
    let t = g.T.Tasker in
    let a = c.args.tasker.now in
    subst (λ opening. CanGrow (t.rules a) (t.fits_view a) (t.may_follow a) c.in_ok-so_far.so_far c.args.key (turn_of_opening (t.rules a) opening).entries) (sym c.in_ok-opening.ensures.opening)
    (begun_grows g.row.T-View.Denot g.row.T-Local.Denot (t.rules a) (t.fits_view a) (t.fits_local a) (t.may_follow a) (t.agrees a) (g.met.T.Tasker.lawful a) c.args.limits.now c.args.so_far c.args.key c.args.turn c.args.local c.in_ok-so_far.so_far c.requires.grow (sym c.if-at_start.ensures) c.in_ok-so_far.ensures)

pub returns-then-at_start : goal.returns-then-at_start
returns-then-at_start g c =
    let t = g.T.Tasker in
    let a = c.args.tasker.now in
    subst (λ x. IfOk c.after_opening.result (λ after. after ≡ x))
    (ap (λ opening. after_move (t.rules a) c.in_ok-so_far.so_far c.args.key (turn_of_opening (t.rules a) opening)) c.in_ok-opening.ensures.opening
    ∙ begun_moved g.row.T-View.Denot g.row.T-Local.Denot (t.rules a) (t.fits_view a) (t.fits_local a) (t.may_follow a) (t.agrees a) (g.met.T.Tasker.lawful a) c.args.limits.now c.args.so_far c.args.key c.args.turn c.args.local c.in_ok-so_far.so_far (sym c.if-at_start.ensures) c.in_ok-so_far.ensures)
    c.after_opening.ensures
