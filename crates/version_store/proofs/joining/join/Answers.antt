use Rattle.std.proofs.Common.{◌∙◌}
use Rattle.version_store.proofs.Joined.{joining_first, joining_next, joining_put}
use Rattle.version_store.proofs.joining.join.Goals as goal

pub loop-entry-init : goal.loop-entry-init
loop-entry-init g c =
    let t = g.T.Tasker in
    let a = c.args.tasker.now in
    joining_first g.row.T-View.Denot g.row.T-Local.Denot (t.rules a) (t.fits_view a) (t.fits_local a) (t.may_follow a) (t.agrees a) (g.met.T.Tasker.lawful a) c.args.board.now c.args.key c.args.seat.now c.args.playing c.args.entries c.into_iter-entry-iterator.result.rest.items c.requires.seat c.requires.can c.requires.grow (c.into_iter-entry-iterator.ensures.into_iter_gives.0 ∙ c.into_vec-entry-items.ensures)

pub put_entry-requires-clause-can : goal.put_entry-requires-clause-can
put_entry-requires-clause-can g c =
    let t = g.T.Tasker in
    let a = c.args.tasker.now in
    joining_put g.row.T-View.Denot g.row.T-Local.Denot (t.rules a) (t.fits_view a) (t.fits_local a) (t.may_follow a) (t.agrees a) (g.met.T.Tasker.lawful a) c.args.board.now c.args.key c.args.seat.now c.args.playing c.loop-entry.seat c.loop-entry.playing c.loop-entry.yielded c.loop-entry.entry-iterator.rest.items c.in-Some.entry c.next.new.self.rest.items c.loop-entry.invariant c.in-Some.ensures.steps.0

pub loop-entry-preserved : goal.loop-entry-preserved
loop-entry-preserved g c =
    let t = g.T.Tasker in
    let a = c.args.tasker.now in
    joining_next g.row.T-View.Denot g.row.T-Local.Denot (t.rules a) (t.fits_view a) (t.fits_local a) (t.may_follow a) (t.agrees a) (g.met.T.Tasker.lawful a) c.args.board.now c.args.key c.args.seat.now c.args.playing c.loop-entry.seat c.put_entry.new.seat c.loop-entry.playing c.loop-entry.yielded c.loop-entry.entry-iterator.rest.items c.in-Some.entry c.next.new.self.rest.items c.absorb.new.view c.push.new.self c.loop-entry.invariant c.in-Some.ensures.steps.0 c.in_ok-put_entry.ensures.putting c.in_ok-put_entry.ensures.ok c.in_ok-absorb.ensures c.in_ok-push.ensures.ok
