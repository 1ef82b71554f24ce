use Rattle.version_store.proofs.Moves.{failed_moves, pending_words}
use Rattle.version_store.proofs.ReadMoves.{can_absorb, can_begin, can_join_all, can_publish, fits_still, goes_on, read_moves, store_still}
use Rattle.version_store.proofs.moving.read_move.Goals as goal

pub absorb_below-requires-clause-can : goal.absorb_below-requires-clause-can
absorb_below-requires-clause-can g c = λ κs within.
    let t = g.T.Tasker in
    let a = c.args.tasker.now in
    can_absorb g.row.T-View.Denot g.row.T-Local.Denot (t.rules a) (t.fits_view a) (t.fits_local a) (t.may_follow a) (t.agrees a) (g.met.T.Tasker.lawful a) c.args.limits.now c.args.seat.now c.args.playing c.requires.stands c.requires.lives c.args.key c.requires.key c.requires.enough

pub returns-in_err-playing-clause-moved : goal.returns-in_err-playing-clause-moved
returns-in_err-playing-clause-moved g c =
    let t = g.T.Tasker in
    let a = c.args.tasker.now in
    failed_moves (t.rules a) (t.fits_view a) (t.fits_local a) c.args.limits.now c.args.seat.now c.args.seat.now.slot c.args.playing c.from_residual.result c.from_residual.ensures.0

pub pending_opening-requires-clause-words : goal.pending_opening-requires-clause-words
pending_opening-requires-clause-words g c =
    let t = g.T.Tasker in
    let a = c.args.tasker.now in
    pending_words (t.fits_local a) c.in_ok-playing.playing.slot.live
    (fits_still g.row.T-View.Denot g.row.T-Local.Denot (t.rules a) (t.fits_view a) (t.fits_local a) (t.may_follow a) (t.agrees a) (g.met.T.Tasker.lawful a) c.args.limits.now c.args.seat.now c.args.playing c.requires.stands c.requires.lives c.args.key c.requires.key c.requires.reading c.in_ok-playing.playing c.in_ok-playing.ensures)

pub pending_opening-requires-clause-store : goal.pending_opening-requires-clause-store
pending_opening-requires-clause-store g c =
    let t = g.T.Tasker in
    let a = c.args.tasker.now in
    store_still g.row.T-View.Denot g.row.T-Local.Denot (t.rules a) (t.fits_view a) (t.fits_local a) (t.may_follow a) (t.agrees a) (g.met.T.Tasker.lawful a) c.args.limits.now c.args.seat.now c.args.playing c.requires.stands c.requires.lives c.args.key c.requires.key c.requires.reading c.in_ok-playing.playing c.in_ok-playing.ensures

pub returns-in_err-opening-clause-moved : goal.returns-in_err-opening-clause-moved
returns-in_err-opening-clause-moved g c =
    let t = g.T.Tasker in
    let a = c.args.tasker.now in
    failed_moves (t.rules a) (t.fits_view a) (t.fits_local a) c.args.limits.now c.args.seat.now c.args.seat.now.slot c.args.playing c.from_residual-in_err-opening.result c.from_residual-in_err-opening.ensures.0

pub join-requires-clause-can : goal.join-requires-clause-can
join-requires-clause-can g c = λ κs within.
    let t = g.T.Tasker in
    let a = c.args.tasker.now in
    let o = c.opening_parts-entries.result in
    let q = c.in_ok-playing.playing in
    can_publish g.row.T-View.Denot g.row.T-Local.Denot (t.rules a) (t.fits_view a) (t.fits_local a) (t.may_follow a) (t.agrees a) (g.met.T.Tasker.lawful a) c.args.limits.now c.args.seat.now c.args.playing c.requires.stands c.requires.lives c.args.key c.requires.key c.requires.reading q c.in_ok-playing.ensures o.0.entries o.0.slot c.unwrap-local.result
    (goes_on c.args.limits.now q.slot o.0.slot c.in_ok-opening.opening o.0.entries o.1 c.unwrap-local.result c.in_ok-opening.ensures c.opening_parts-entries.ensures c.unwrap-local.ensures)

pub join-requires-clause-grow : goal.join-requires-clause-grow
join-requires-clause-grow g c = λ κs within.
    let t = g.T.Tasker in
    let a = c.args.tasker.now in
    let o = c.opening_parts-entries.result in
    let q = c.in_ok-playing.playing in
    can_join_all g.row.T-View.Denot g.row.T-Local.Denot (t.rules a) (t.fits_view a) (t.fits_local a) (t.may_follow a) (t.agrees a) (g.met.T.Tasker.lawful a) c.args.limits.now c.args.seat.now c.args.playing c.requires.stands c.requires.lives c.args.key c.requires.key c.requires.reading q c.in_ok-playing.ensures o.0.entries o.0.slot c.unwrap-local.result
    (goes_on c.args.limits.now q.slot o.0.slot c.in_ok-opening.opening o.0.entries o.1 c.unwrap-local.result c.in_ok-opening.ensures c.opening_parts-entries.ensures c.unwrap-local.ensures)

pub returns-in_err-playing-2-clause-moved : goal.returns-in_err-playing-2-clause-moved
returns-in_err-playing-2-clause-moved g c =
    let t = g.T.Tasker in
    let a = c.args.tasker.now in
    failed_moves (t.rules a) (t.fits_view a) (t.fits_local a) c.args.limits.now c.join.new.seat c.args.seat.now.slot c.args.playing c.from_residual-in_err-playing-2.result c.from_residual-in_err-playing-2.ensures.0

pub begin_task-requires-clause-can : goal.begin_task-requires-clause-can
begin_task-requires-clause-can g c = λ κs within.
    let t = g.T.Tasker in
    let a = c.args.tasker.now in
    let o = c.opening_parts-entries.result in
    let q = c.in_ok-playing.playing in
    can_begin g.row.T-View.Denot g.row.T-Local.Denot (t.rules a) (t.fits_view a) (t.fits_local a) (t.may_follow a) (t.agrees a) (g.met.T.Tasker.lawful a) c.args.limits.now c.args.seat.now c.args.playing c.requires.stands c.requires.lives c.args.key c.requires.key c.requires.reading q c.in_ok-playing.ensures o.0.entries o.0.slot c.unwrap-local.result
    (goes_on c.args.limits.now q.slot o.0.slot c.in_ok-opening.opening o.0.entries o.1 c.unwrap-local.result c.in_ok-opening.ensures c.opening_parts-entries.ensures c.unwrap-local.ensures)
    c.args.board.now c.join.new.seat c.in_ok-playing-2.playing c.in_ok-playing-2.ensures.putting c.in_ok-playing-2.ensures.ok

pub returns-clause-moved : goal.returns-clause-moved
returns-clause-moved g c =
    let t = g.T.Tasker in
    let a = c.args.tasker.now in
    let o = c.opening_parts-entries.result in
    let q = c.in_ok-playing.playing in
    read_moves g.row.T-View.Denot g.row.T-Local.Denot (t.rules a) (t.fits_view a) (t.fits_local a) (t.may_follow a) (t.agrees a) (g.met.T.Tasker.lawful a) c.args.limits.now c.args.seat.now c.args.playing c.requires.stands c.requires.lives c.args.key c.requires.key c.requires.reading q c.in_ok-playing.ensures o.0.entries o.0.slot c.unwrap-local.result
    (goes_on c.args.limits.now q.slot o.0.slot c.in_ok-opening.opening o.0.entries o.1 c.unwrap-local.result c.in_ok-opening.ensures c.opening_parts-entries.ensures c.unwrap-local.ensures)
    c.args.board.now c.join.new.seat c.in_ok-playing-2.playing c.in_ok-playing-2.ensures.putting c.in_ok-playing-2.ensures.ok c.begin_task.new.seat c.begin_task.result c.begin_task.ensures.closed
