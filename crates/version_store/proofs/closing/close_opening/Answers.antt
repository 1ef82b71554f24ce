use Rattle.std.proofs.Math.Facts.{Fits-of_lt}
use Rattle.version_store.proofs.Closes.{can_publish_at, ends_here, fails, goes_on, moves_fit, raise_later, raise_put, raise_stamp}
use Rattle.version_store.proofs.closing.close_opening.Goals as goal

pub publish-requires-clause-can : goal.publish-requires-clause-can
publish-requires-clause-can g c =
    let t = g.T.Tasker in
    let a = c.args.tasker.now in
    can_publish_at g.row.T-View.Denot g.row.T-Local.Denot (t.rules a) (t.fits_view a) (t.fits_local a) (t.may_follow a) (t.agrees a) (g.met.T.Tasker.lawful a) c.args.limits.now c.args.seat.now c.args.playing c.args.entries c.args.local c.requires.opening c.args.key c.requires.key

pub returns-in_err-publish-clause-closed : goal.returns-in_err-publish-clause-closed
returns-in_err-publish-clause-closed g c =
    let t = g.T.Tasker in
    let a = c.args.tasker.now in
    fails (t.rules a) (t.fits_view a) (t.fits_local a) c.args.limits.now c.publish.new.seat c.args.seat.now.slot c.args.playing c.from_residual.result c.from_residual.ensures.0

pub overflow_add-playing : goal.overflow_add-playing
overflow_add-playing g c =
    let t = g.T.Tasker in
    let a = c.args.tasker.now in
    Fits-of_lt (moves_fit g.row.T-View.Denot g.row.T-Local.Denot (t.rules a) (t.fits_view a) (t.fits_local a) (t.may_follow a) (t.agrees a) (g.met.T.Tasker.lawful a) c.args.limits.now c.args.seat.now c.args.playing c.args.entries c.args.local c.requires.opening)

pub raise-requires-clause-stamp : goal.raise-requires-clause-stamp
raise-requires-clause-stamp g c =
    let t = g.T.Tasker in
    let a = c.args.tasker.now in
    raise_stamp g.row.T-View.Denot g.row.T-Local.Denot (t.rules a) (t.fits_view a) (t.fits_local a) (t.may_follow a) (t.agrees a) (g.met.T.Tasker.lawful a) c.args.limits.now c.args.seat.now c.args.playing c.args.entries c.args.local c.requires.opening c.args.board.now c.args.key c.requires.key c.publish.new.seat c.publish.new.merge c.in_ok-publish.ensures.putting c.in_ok-publish.ensures.ok c.in-None.is c.seat_clock.result c.seat_clock.ensures

pub raise-requires-clause-later : goal.raise-requires-clause-later
raise-requires-clause-later g c =
    let t = g.T.Tasker in
    let a = c.args.tasker.now in
    raise_later g.row.T-View.Denot g.row.T-Local.Denot (t.rules a) (t.fits_view a) (t.fits_local a) (t.may_follow a) (t.agrees a) (g.met.T.Tasker.lawful a) c.args.limits.now c.args.seat.now c.args.playing c.args.entries c.args.local c.requires.opening c.args.board.now c.args.key c.requires.key c.publish.new.seat c.publish.new.merge c.in_ok-publish.ensures.putting c.in_ok-publish.ensures.ok c.in-None.is c.seat_clock.result c.seat_clock.ensures

pub raise-requires-clause-written : goal.raise-requires-clause-written
raise-requires-clause-written g c =
    let t = g.T.Tasker in
    let a = c.args.tasker.now in
    raise_put g.row.T-View.Denot g.row.T-Local.Denot (t.rules a) (t.fits_view a) (t.fits_local a) (t.may_follow a) (t.agrees a) (g.met.T.Tasker.lawful a) c.args.limits.now c.args.seat.now c.args.playing c.args.entries c.args.local c.requires.opening c.args.board.now c.args.key c.requires.key c.publish.new.seat c.publish.new.merge c.in_ok-publish.ensures.putting c.in_ok-publish.ensures.ok c.in-None.is c.seat_clock.result c.seat_clock.ensures

pub returns-in-Some-clause-closed : goal.returns-in-Some-clause-closed
returns-in-Some-clause-closed g c =
    let t = g.T.Tasker in
    let a = c.args.tasker.now in
    goes_on g.row.T-View.Denot g.row.T-Local.Denot (t.rules a) (t.fits_view a) (t.fits_local a) (t.may_follow a) (t.agrees a) (g.met.T.Tasker.lawful a) c.args.limits.now c.args.seat.now c.args.playing c.args.entries c.args.local c.requires.opening c.args.board.now c.args.key c.requires.key c.publish.new.seat c.publish.new.merge c.in_ok-publish.ensures.putting c.in_ok-publish.ensures.ok c.in-Some.local c.in-Some.is

pub returns-in-None-clause-closed : goal.returns-in-None-clause-closed
returns-in-None-clause-closed g c =
    let t = g.T.Tasker in
    let a = c.args.tasker.now in
    ends_here g.row.T-View.Denot g.row.T-Local.Denot (t.rules a) (t.fits_view a) (t.fits_local a) (t.may_follow a) (t.agrees a) (g.met.T.Tasker.lawful a) c.args.limits.now c.args.seat.now c.args.playing c.args.entries c.args.local c.requires.opening c.args.board.now c.args.key c.requires.key c.publish.new.seat c.publish.new.merge c.in_ok-publish.ensures.putting c.in_ok-publish.ensures.ok c.in-None.is c.seat_clock.result c.seat_clock.ensures c.raise.new.seat c.raise.ensures.view
