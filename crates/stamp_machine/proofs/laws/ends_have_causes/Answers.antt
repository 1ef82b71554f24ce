use Rattle.stamp_machine.proofs.Endings.{ends_explained}
use Rattle.stamp_machine.proofs.Stops.{stops}
use Rattle.stamp_machine.proofs.laws.ends_have_causes.Goals as goal

pub returns : goal.returns
returns g c =
    let t = g.T.Tasker in
    let a = c.args.tasker.now in
    ends_explained g.row.T-View.Denot g.row.T-Local.Denot (t.rules a) c.args.limits.now c.requires.no_halt
    (stops g.row.T-View.Denot g.row.T-Local.Denot (t.rules a) (t.fits_view a) (t.fits_local a) (t.may_follow a) (t.agrees a) (g.met.T.Tasker.lawful a) c.args.limits.now c.requires.ranges)
