use Rattle.std.proofs.Common.{◌≡◌, sym, ap, subst, ◌∙◌}
use Rattle.std.specs.Prelude.{IfOk}
use Rattle.stamp_machine.specs.Slots.{next_slot}
use Rattle.stamp_machine.proofs.Playing.{plays_first, plays_whole}
use Rattle.stamp_machine.proofs.run.run_alone.Goals as goal

pub loop-number-init : goal.loop-number-init
loop-number-init g c =
    let t = g.T.Tasker in
    let a = c.args.tasker.now in
    plays_first g.row.T-View.Denot g.row.T-Local.Denot (t.rules a) (t.fits_view a) (t.fits_local a) (t.may_follow a) (t.agrees a) (g.met.T.Tasker.lawful a) c.args.limits.now c.requires c.in_ok-play.play c.in_ok-play.ensures

pub returns : goal.returns
returns g c =
    let t = g.T.Tasker in
    let a = c.args.tasker.now in
    let w = plays_whole g.row.T-View.Denot g.row.T-Local.Denot (t.rules a) (t.fits_view a) (t.fits_local a) (t.may_follow a) (t.agrees a) (g.met.T.Tasker.lawful a) c.args.limits.now c.requires c.loop-number.play c.loop-number.invariant in
    subst (λ h. IfOk c.leave.result (λ x. x ≡ h)) (w (ap next_slot (sym c.as_slice.ensures) ∙ (sym c.next_slot.ensures ∙ c.in_default.is))) c.leave.ensures
