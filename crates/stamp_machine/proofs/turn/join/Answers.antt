use Rattle.std.proofs.Common.{refl, ◌∙◌, arith}
use Rattle.std.proofs.lemmas.Grind.{common_steps}
use Rattle.stamp_machine.proofs.Joins.{joins_first, joins_can, joins_next, more_entries, more_view}
use Rattle.stamp_machine.proofs.turn.join.Goals as goal

pub loop-entry-init : goal.loop-entry-init
loop-entry-init g c =
    let t = g.T.Tasker in
    let a = c.args.tasker.now in
    record {
      entries = grind (arith, common_steps);
      view = refl;
      joins = joins_first g.row.T-View.Denot g.row.T-Local.Denot (t.rules a) (t.fits_view a) (t.fits_local a) (t.may_follow a) (t.agrees a) (g.met.T.Tasker.lawful a) c.args.so_far c.args.key c.args.batch c.into_iter-entry-iterator.result.rest.items c.requires (c.into_iter-entry-iterator.ensures.into_iter_gives.0 ∙ c.into_vec-entry-items.ensures);
    }

pub absorb-requires-clause-fits : goal.absorb-requires-clause-fits
absorb-requires-clause-fits g c = c.loop-entry.invariant.joins.fits

pub absorb-requires-clause-follows : goal.absorb-requires-clause-follows
absorb-requires-clause-follows g c =
    let t = g.T.Tasker in
    let a = c.args.tasker.now in
    joins_can g.row.T-View.Denot g.row.T-Local.Denot (t.rules a) (t.fits_view a) (t.fits_local a) (t.may_follow a) (t.agrees a) (g.met.T.Tasker.lawful a) c.args.key c.loop-entry.entries c.loop-entry.view c.loop-entry.entry-iterator.rest.items c.in-Some.entry c.next.new.self.rest.items c.loop-entry.invariant.joins c.in-Some.ensures.steps.0

pub loop-entry-preserved : goal.loop-entry-preserved
loop-entry-preserved g c =
    let t = g.T.Tasker in
    let a = c.args.tasker.now in
    let law = g.met.T.Tasker.lawful a in
    record {
      entries = more_entries g.row.T-View.Denot g.row.T-Local.Denot (t.rules a) (t.fits_view a) (t.fits_local a) (t.may_follow a) (t.agrees a) law c.args.key c.args.so_far.entries c.loop-entry.entries c.push.new.self c.loop-entry.yielded c.in-Some.entry c.loop-entry.invariant.entries c.in_ok-push.ensures.ok;
      view = more_view g.row.T-View.Denot g.row.T-Local.Denot (t.rules a) (t.fits_view a) (t.fits_local a) (t.may_follow a) (t.agrees a) law c.args.key c.args.so_far.view c.loop-entry.view c.absorb.new.view c.loop-entry.yielded c.in-Some.entry c.loop-entry.invariant.view c.in_ok-absorb.ensures;
      joins = joins_next g.row.T-View.Denot g.row.T-Local.Denot (t.rules a) (t.fits_view a) (t.fits_local a) (t.may_follow a) (t.agrees a) law c.args.key c.loop-entry.entries c.loop-entry.view c.loop-entry.entry-iterator.rest.items c.in-Some.entry c.next.new.self.rest.items c.push.new.self c.absorb.new.view c.loop-entry.invariant.joins c.in-Some.ensures.steps.0 c.in_ok-absorb.ensures c.in_ok-push.ensures.ok;
    }
