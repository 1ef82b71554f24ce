use Rattle.std.proofs.Common.{sym, ◌∙◌}
use Rattle.version_store.proofs.Steps.{carrier_advances}
use Rattle.version_store.proofs.carrier.Carrier.advance.Goals as goal

pub returns-clause-advance : goal.returns-clause-advance
returns-clause-advance g c =
    let t = g.T.Tasker in
    let a = c.args.tasker.now in
    carrier_advances c.self.inside.tasker.value (t.rules a) (t.fits_view a) c.args.limits.now c.self.inside.limits c.self.inside.parts c.args.self.now c.unwrap-seat.result.seat c.step-seat.result.0 c.unwrap-seat.result.playing c.unwrap-playing.result c.step-seat.result.1 c.settle-parts.result.0 c.settle-parts.result.1
    c.self.view_is c.requires.limits (sym c.take.ensures.value ∙ c.unwrap-seat.ensures) c.unwrap-playing.ensures c.step-seat.ensures.looks c.step-seat.ensures.step c.settle-parts.ensures.parts c.settle-parts.ensures.advance
