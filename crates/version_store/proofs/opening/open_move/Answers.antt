use Rattle.std.proofs.Common.{ap, refl}
use Rattle.version_store.proofs.Moves.{fits_live, store_live}
use Rattle.version_store.proofs.Opens.{blocked_opens, failed_opens, moved_opens, spared_still}
use Rattle.version_store.proofs.opening.open_move.Goals as goal

pub reads_history-requires-clause-fits : goal.reads_history-requires-clause-fits
reads_history-requires-clause-fits g c = λ κs within.
    let t = g.T.Tasker in
    let a = c.args.tasker.now in
    fits_live g.row.T-View.Denot g.row.T-Local.Denot (t.rules a) (t.fits_view a) (t.fits_local a) (t.may_follow a) (t.agrees a) (g.met.T.Tasker.lawful a) c.args.limits.now c.args.seat.now c.args.playing c.requires.stands c.requires.lives

pub reads_history-requires-clause-store : goal.reads_history-requires-clause-store
reads_history-requires-clause-store g c = λ κs within.
    let t = g.T.Tasker in
    let a = c.args.tasker.now in
    store_live g.row.T-View.Denot g.row.T-Local.Denot (t.rules a) (t.fits_view a) (t.fits_local a) (t.may_follow a) (t.agrees a) (g.met.T.Tasker.lawful a) c.args.limits.now c.args.seat.now c.args.playing c.requires.stands c.requires.lives

pub returns-then-not-reads_history-clause-open : goal.returns-then-not-reads_history-clause-open
returns-then-not-reads_history-clause-open g c =
    let t = g.T.Tasker in
    let a = c.args.tasker.now in
    moved_opens (t.rules a) (t.fits_view a) (t.fits_local a) c.args.limits.now c.args.seat.now c.unread_move.new.seat c.args.playing c.args.seat.now.slot c.args.playing refl refl refl c.unread_move.result c.unread_move.ensures.moved

pub returns-in_err-playing-clause-open : goal.returns-in_err-playing-clause-open
returns-in_err-playing-clause-open g c =
    let t = g.T.Tasker in
    let a = c.args.tasker.now in
    failed_opens (t.rules a) (t.fits_view a) (t.fits_local a) c.args.limits.now c.args.seat.now c.hear_for_move.new.seat c.args.playing c.from_residual.result c.from_residual.ensures.0

pub returns-in-Some-clause-open : goal.returns-in-Some-clause-open
returns-in-Some-clause-open g c =
    let t = g.T.Tasker in
    let a = c.args.tasker.now in
    blocked_opens (t.rules a) (t.fits_view a) (t.fits_local a) c.args.limits.now c.args.seat.now c.hear_for_move.new.seat c.args.playing c.in_ok-playing.playing c.in_ok-playing.short c.in-Some.short c.in_ok-playing.ensures.heard c.in-Some.is

pub returns-in-None-clause-open : goal.returns-in-None-clause-open
returns-in-None-clause-open g c =
    let t = g.T.Tasker in
    let a = c.args.tasker.now in
    moved_opens (t.rules a) (t.fits_view a) (t.fits_local a) c.args.limits.now c.args.seat.now c.read_move.new.seat c.args.playing c.hear_for_move.new.seat.slot c.in_ok-playing.playing
    c.in_ok-playing.ensures.same.slot (ap (λ x. x.slot) c.in_ok-playing.ensures.heard.stays) (ap (λ x. x.moves) c.in_ok-playing.ensures.heard.stays) c.read_move.result c.read_move.ensures.moved

pub returns-in-None-clause-looks : goal.returns-in-None-clause-looks
returns-in-None-clause-looks g c =
    let t = g.T.Tasker in
    let a = c.args.tasker.now in
    spared_still (t.rules a) (t.fits_view a) (t.fits_local a) c.args.limits.now c.args.seat.now c.read_move.new.seat c.args.playing c.hear_for_move.new.seat c.in_ok-playing.ensures.looks c.read_move.ensures.looks
