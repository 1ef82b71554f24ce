use Rattle.std.proofs.Common.{◌∙◌, arith}
use Rattle.std.proofs.lemmas.Grind.{common_steps}
use Rattle.stamp_machine.proofs.Playing.{can_turn, few_slots, has_moved, has_fewer, next_within, taken_out, put_there}
use Rattle.stamp_machine.proofs.run.play_after_move.Goals as goal

pub remove-slot-requires : goal.remove-slot-requires
remove-slot-requires g c = let h = next_within c.args.play.slots c.args.number c.requires.next in grind (arith, common_steps, c.into_vec-slots.ensures, h)

pub overflow_cast-number : goal.overflow_cast-number
overflow_cast-number g c =
    let t = g.T.Tasker in
    let a = c.args.tasker.now in
    let few = few_slots g.row.T-View.Denot g.row.T-Local.Denot (t.rules a) (t.fits_view a) (t.fits_local a) (t.may_follow a) (t.agrees a) (g.met.T.Tasker.lawful a) c.args.limits.now c.requires.ranges c.args.play c.requires.plays in
    let within = next_within c.args.play.slots c.args.number c.requires.next in
    record { fits = omega arith }

pub turn-requires-clause-can : goal.turn-requires-clause-can
turn-requires-clause-can g c = λ κs within.
    let t = g.T.Tasker in
    let a = c.args.tasker.now in
    can_turn g.row.T-View.Denot g.row.T-Local.Denot (t.rules a) (t.fits_view a) (t.fits_local a) (t.may_follow a) (t.agrees a) (g.met.T.Tasker.lawful a) c.args.limits.now c.requires.ranges c.args.play c.requires.plays c.args.number c.remove-slot.result c.requires.next
    (taken_out c.args.play.slots c.into_vec-slots.result.items c.args.number c.remove-slot.result c.requires.next c.into_vec-slots.ensures c.remove-slot.ensures.value)

pub returns-clause-plays : goal.returns-clause-plays
returns-clause-plays g c =
    let t = g.T.Tasker in
    let a = c.args.tasker.now in
    has_moved g.row.T-View.Denot g.row.T-Local.Denot (t.rules a) (t.fits_view a) (t.fits_local a) (t.may_follow a) (t.agrees a) (g.met.T.Tasker.lawful a) c.args.limits.now c.requires.ranges c.args.play c.requires.plays c.args.number c.remove-slot.result c.in_ok-after.after c.of.result c.requires.next
    (taken_out c.args.play.slots c.into_vec-slots.result.items c.args.number c.remove-slot.result c.requires.next c.into_vec-slots.ensures c.remove-slot.ensures.value)
    c.in_ok-after.ensures
    (c.of.ensures ∙ put_there c.args.play.slots c.into_vec-slots.result.items c.remove-slot.new.self.items c.insert.new.self.items c.args.number c.in_ok-after.after.slot c.requires.next c.into_vec-slots.ensures c.remove-slot.ensures.items c.in_ok-insert.ensures.items)

pub returns-clause-fewer : goal.returns-clause-fewer
returns-clause-fewer g c =
    let t = g.T.Tasker in
    let a = c.args.tasker.now in
    has_fewer g.row.T-View.Denot g.row.T-Local.Denot (t.rules a) (t.fits_view a) (t.fits_local a) (t.may_follow a) (t.agrees a) (g.met.T.Tasker.lawful a) c.args.limits.now c.requires.ranges c.args.play c.requires.plays c.args.number c.remove-slot.result c.in_ok-after.after c.of.result c.requires.next
    (taken_out c.args.play.slots c.into_vec-slots.result.items c.args.number c.remove-slot.result c.requires.next c.into_vec-slots.ensures c.remove-slot.ensures.value)
    c.in_ok-after.ensures
    (c.of.ensures ∙ put_there c.args.play.slots c.into_vec-slots.result.items c.remove-slot.new.self.items c.insert.new.self.items c.args.number c.in_ok-after.after.slot c.requires.next c.into_vec-slots.ensures c.remove-slot.ensures.items c.in_ok-insert.ensures.items)
