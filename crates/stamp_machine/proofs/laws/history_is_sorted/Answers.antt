use Rattle.stamp_machine.proofs.Histories.{sorted, slot_sorted}
use Rattle.stamp_machine.proofs.laws.history_is_sorted.Goals as goal

pub returns-clause-all : goal.returns-clause-all
returns-clause-all g c =
    let t = g.T.Tasker in
    let a = c.args.tasker.now in
    sorted g.row.T-View.Denot g.row.T-Local.Denot (t.rules a) (t.fits_view a) (t.fits_local a) (t.may_follow a) (t.agrees a) (g.met.T.Tasker.lawful a) c.args.limits.now c.requires

pub returns-clause-each : goal.returns-clause-each
returns-clause-each g c =
    let t = g.T.Tasker in
    let a = c.args.tasker.now in
    slot_sorted g.row.T-View.Denot g.row.T-Local.Denot (t.rules a) (t.fits_view a) (t.fits_local a) (t.may_follow a) (t.agrees a) (g.met.T.Tasker.lawful a) c.args.limits.now c.requires
