use Rattle.stamp_machine.proofs.Ranges.{entries_have_words}
use Rattle.stamp_machine.proofs.laws.entries_have_words.Goals as goal

pub returns : goal.returns
returns g c =
    let t = g.T.Tasker in
    let a = c.args.tasker.now in
    entries_have_words g.row.T-View.Denot g.row.T-Local.Denot (t.rules a) (t.fits_view a) (t.fits_local a) (t.may_follow a) (t.agrees a) (g.met.T.Tasker.lawful a) c.args.limits.now c.requires
