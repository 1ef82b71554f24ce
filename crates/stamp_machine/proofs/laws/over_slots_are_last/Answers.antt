use Rattle.stamp_machine.proofs.Occurrences.{over_last}
use Rattle.stamp_machine.proofs.laws.over_slots_are_last.Goals as goal

pub returns : goal.returns
returns g c =
    let t = g.T.Tasker in
    let a = c.args.tasker.now in
    over_last g.row.T-View.Denot g.row.T-Local.Denot (t.rules a) (t.fits_view a) (t.fits_local a) (t.may_follow a) (t.agrees a) (g.met.T.Tasker.lawful a) c.args.limits.now c.requires
