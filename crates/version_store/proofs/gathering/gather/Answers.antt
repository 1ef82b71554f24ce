use Rattle.std.proofs.Common.{◌≡◌, ℕ, ◌<◌, ap, ◌∙◌, arith}
use Rattle.commit_order.specs.Queues.{queue_of}
use Rattle.version_store.specs.Gathers.{IsAtEnd}
use Rattle.version_store.proofs.GatheredSlots.{all_low, each_got, gathered, next_gathered, starts}
use Rattle.version_store.proofs.gathering.gather.Goals as goal

pub loop-number-init : goal.loop-number-init
loop-number-init g c tasker limits ended =
    starts (g.T.Tasker.rules tasker) c.args.board.now tasker limits c.args.carriers
    c.in_ok-merge.merge c.new-records.result c.new-ends.result _ c.in_ok-merge.ensures
    c.new-records.ensures c.new-ends.ensures
    (omega (arith, c.len-slots.ensures, ended.number, ended.ranges.few_slots)) ended

pub take_carrier-requires-after_bounds : goal.take_carrier-requires-after_bounds
take_carrier-requires-after_bounds g c κs within =
    let e = c.requires.ended in
    let w = c.loop-number.invariant c.requires.tasker c.requires.limits e in
    w.slots c.loop-number.number (omega arith)
    (omega (arith, c.loop-number-test.true, c.len-slots.ensures, e.number, e.ranges.few_slots))

pub feed_carrier-requires-clause-ended : goal.feed_carrier-requires-clause-ended
feed_carrier-requires-clause-ended g c κs within =
    let w = c.loop-number.invariant c.requires.tasker c.requires.limits c.requires.ended in
    let t = c.take_carrier.ensures in
    (each_got (IsAtEnd c.args.board.now c.requires.tasker c.requires.limits) c.loop-number.left t.place c.take_carrier.result w.runs t.there).ended

pub feed_carrier-requires-clause-within : goal.feed_carrier-requires-clause-within
feed_carrier-requires-clause-within g c κs within =
    let e = c.requires.ended in
    let w = c.loop-number.invariant c.requires.tasker c.requires.limits e in
    let below : c.loop-number.number < c.requires.limits.slots =
    omega (arith, c.loop-number-test.true, c.len-slots.ensures, e.number, e.ranges.few_slots) in
    omega (arith, c.take_carrier.ensures.slot, w.size, below)

pub feed_carrier-requires-clause-fresh : goal.feed_carrier-requires-clause-fresh
feed_carrier-requires-clause-fresh g c κs within =
    let w = c.loop-number.invariant c.requires.tasker c.requires.limits c.requires.ended in
    ap (λ (n : ℕ). queue_of c.loop-number.merge n) c.take_carrier.ensures.slot
    ∙ w.fresh c.loop-number.number (omega arith)

pub loop-number-preserved : goal.loop-number-preserved
loop-number-preserved g c tasker limits ended =
    next_gathered g.T.Tasker.rules c.args.board.now tasker limits c.loop-number.number
    c.loop-number.merge c.feed_carrier.new.merge c.loop-number.records c.push.new.self
    c.loop-number.ends c.push-in-loop-number.new.self c.loop-number.left
    c.take_carrier.new.carriers c.take_carrier.result c.in_ok-slot.slot
    (c.loop-number.invariant tasker limits ended) c.take_carrier.ensures
    c.in_ok-slot.ensures.slot c.in_ok-slot.ensures.fed c.in_ok-push.ensures.ok
    c.in_ok-push-2.ensures.ok

pub take_all-requires : goal.take_all-requires
take_all-requires g c =
    let t = g.T.Tasker in
    let a = c.requires.tasker in
    let e = c.requires.ended in
    let whole : c.loop-number.number ≡ c.requires.limits.slots =
    omega (arith, c.loop-number-test.false, c.loop-number.auto.number-end, c.len-slots.ensures, e.number, e.ranges.few_slots) in
    all_low g.row.T-View.Denot g.row.T-Local.Denot (t.rules a) (t.fits_view a) (t.fits_local a) (t.may_follow a) (t.agrees a) (g.met.T.Tasker.lawful a) c.requires.limits c.args.board.now a c.loop-number.number c.loop-number.merge c.loop-number.records c.loop-number.ends c.loop-number.left whole (c.loop-number.invariant a c.requires.limits e)

pub returns : goal.returns
returns g c a limits e =
    let t = g.T.Tasker in
    let whole : c.loop-number.number ≡ limits.slots =
    omega (arith, c.loop-number-test.false, c.loop-number.auto.number-end, c.len-slots.ensures, e.number, e.ranges.few_slots) in
    gathered g.row.T-View.Denot g.row.T-Local.Denot (t.rules a) (t.fits_view a) (t.fits_local a) (t.may_follow a) (t.agrees a) (g.met.T.Tasker.lawful a) limits c.args.board.now a c.loop-number.number c.loop-number.merge c.loop-number.records c.loop-number.ends c.loop-number.left c.in_ok-take_all.field-0 whole (c.loop-number.invariant a limits e) c.in_ok-take_all.ensures
