use Rattle.std.proofs.Common.{refl, ◌∙◌}
use Rattle.version_store.proofs.Moves.{closed_moves, failed_moves, never, store_live, unread_opening, words_live}
use Rattle.version_store.proofs.moving.unread_move.Goals as goal

pub pending_opening-requires-clause-words : goal.pending_opening-requires-clause-words
pending_opening-requires-clause-words g c =
    let t = g.T.Tasker in
    let a = c.args.tasker.now in
    words_live g.row.T-View.Denot g.row.T-Local.Denot (t.rules a) (t.fits_view a) (t.fits_local a) (t.may_follow a) (t.agrees a) (g.met.T.Tasker.lawful a) c.args.limits.now c.args.seat.now c.args.playing c.requires.stands c.requires.lives

pub pending_opening-requires-clause-store : goal.pending_opening-requires-clause-store
pending_opening-requires-clause-store g c =
    let t = g.T.Tasker in
    let a = c.args.tasker.now in
    store_live g.row.T-View.Denot g.row.T-Local.Denot (t.rules a) (t.fits_view a) (t.fits_local a) (t.may_follow a) (t.agrees a) (g.met.T.Tasker.lawful a) c.args.limits.now c.args.seat.now c.args.playing c.requires.stands c.requires.lives

pub returns-in_err-opening-clause-moved : goal.returns-in_err-opening-clause-moved
returns-in_err-opening-clause-moved g c =
    let t = g.T.Tasker in
    let a = c.args.tasker.now in
    failed_moves (t.rules a) (t.fits_view a) (t.fits_local a) c.args.limits.now c.args.seat.now c.args.seat.now.slot c.args.playing c.from_residual.result c.from_residual.ensures.0

pub close_opening-requires-clause-opening : goal.close_opening-requires-clause-opening
close_opening-requires-clause-opening g c = λ κs within.
    let t = g.T.Tasker in
    let a = c.args.tasker.now in
    unread_opening g.row.T-View.Denot g.row.T-Local.Denot (t.rules a) (t.fits_view a) (t.fits_local a) (t.may_follow a) (t.agrees a) (g.met.T.Tasker.lawful a) c.args.limits.now c.args.seat.now c.args.playing c.requires.stands c.requires.lives c.requires.unread c.opening_parts-entries.result.0.entries c.opening_parts-entries.result.0.slot c.opening_parts-entries.result.1 (c.opening_parts-entries.ensures ∙ c.in_ok-opening.ensures)

pub returns-clause-moved : goal.returns-clause-moved
returns-clause-moved g c =
    let t = g.T.Tasker in
    let a = c.args.tasker.now in
    closed_moves g.row.T-View.Denot g.row.T-Local.Denot (t.rules a) (t.fits_view a) (t.fits_local a) (t.may_follow a) (t.agrees a) (g.met.T.Tasker.lawful a) c.args.limits.now c.args.seat.now c.args.playing c.requires.stands c.requires.lives c.close_opening.new.seat _ c.close_opening.result refl (λ reading. absurd (never _ reading c.requires.unread)) c.close_opening.ensures.closed
