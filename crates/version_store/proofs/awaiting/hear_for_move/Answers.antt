use Rattle.version_store.proofs.Awaits.{awaited, can_hear, spared_looks}
use Rattle.version_store.proofs.awaiting.hear_for_move.Goals as goal

pub hear_all-requires-clause-can : goal.hear_all-requires-clause-can
hear_all-requires-clause-can g c = λ κs within.
    let t = g.T.Tasker in
    let a = c.args.tasker.now in
    can_hear (t.rules a) (t.fits_view a) c.args.limits.now c.args.seat.now c.args.seat.now c.args.playing c.requires.stands c.args.key c.requires.key

pub returns-in_err-found-clause-looks : goal.returns-in_err-found-clause-looks
returns-in_err-found-clause-looks g c =
    let t = g.T.Tasker in
    let a = c.args.tasker.now in
    spared_looks (t.rules a) (t.fits_view a) c.args.limits.now c.args.seat.now c.hear_all.new.seat c.args.playing c.requires.stands c.args.key c.requires.key c.requires.reading c.in_err-found.ensures.heard.seat

pub returns-clause-looks : goal.returns-clause-looks
returns-clause-looks g c =
    let t = g.T.Tasker in
    let a = c.args.tasker.now in
    spared_looks (t.rules a) (t.fits_view a) c.args.limits.now c.args.seat.now c.hear_all.new.seat c.args.playing c.requires.stands c.args.key c.requires.key c.requires.reading c.in_ok-found.ensures.heard.seat

pub returns-clause-heard : goal.returns-clause-heard
returns-clause-heard g c =
    let t = g.T.Tasker in
    let a = c.args.tasker.now in
    awaited (t.rules a) (t.fits_view a) c.args.limits.now c.args.seat.now c.hear_all.new.seat c.args.playing c.requires.stands c.args.key c.requires.key c.requires.reading c.hear_all.new.merge c.hear_all.new.heard c.in_ok-found.found
    c.in_ok-found.ensures.heard.seat c.in_ok-found.ensures.heard.heard_on c.in_ok-found.ensures.heard.found
