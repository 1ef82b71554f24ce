use Rattle.version_store.proofs.RunRises.{run_rises}
use Rattle.version_store.proofs.story.RunStory.of.Goals as goal

pub invariant_of-result : goal.invariant_of-result
invariant_of-result g c =
    let t = g.T.Tasker in
    let a = c.args.tasker.now in
    record {
      ranges = c.requires;
      rises = run_rises g.row.T-View.Denot g.row.T-Local.Denot (t.rules a) (t.fits_view a) (t.fits_local a) (t.may_follow a) (t.agrees a) (g.met.T.Tasker.lawful a) c.args.limits c.requires;
    }
