use Rattle.std.proofs.Common.{ap, ◌∙◌}
use Rattle.version_store.specs.Carriers.{fresh_playing}
use Rattle.version_store.proofs.Beginnings.{fresh_whole}
use Rattle.version_store.proofs.carrier.Carrier.new.Goals as goal

pub invariant_of-result : goal.invariant_of-result
invariant_of-result g c =
    let t = g.T.Tasker in
    let a = c.args.tasker.now in
    fresh_whole g.row.T-View.Denot g.row.T-Local.Denot (t.rules a) (t.fits_view a) (t.fits_local a) (t.may_follow a) (t.agrees a) (g.met.T.Tasker.lawful a) c.args.limits.now c.requires.ranges
    (t.rules c.of.result.value) (t.fits_view c.of.result.value) (ap t.rules c.of.ensures) (ap t.fits_view c.of.ensures)
    c.args.seat c.in_ok-playing.playing (c.in_ok-playing.ensures ∙ ap (fresh_playing (t.rules a) c.args.limits.now) c.slot.ensures)
    c.requires.seat c.requires.lists c.requires.slot c.requires.clock c.requires.none_put
