use Rattle.std.proofs.Common.{ℕ, ◌≡◌, ◌<◌, ◌+◌, List, length, sym, ap, ◌∙◌, subst}
use Rattle.stamp_machine.specs.Machine.{final}
use Rattle.clock_words.specs.Seats.{SeatView}
use Rattle.commit_order.specs.Queues.{Queue}
use Rattle.version_store.specs.Carriers.{clock_heard}
use Rattle.version_store.specs.Hearing.{is_enough}
use Rattle.version_store.specs.declared.heard.Heard.{Heard}
use Rattle.version_store.proofs.Hears.{run_history}
use Rattle.version_store.proofs.HearsAll.{IsHearing, hearing_first, hearing_on, hearing_skip, hearing_then, others_then, short_then}
use Rattle.version_store.proofs.hearing_all.hear_all.Goals.{then-slot-key+then-not-is_enough+in_ok-clock+else-not-is_enough-2, else-slot-key, else-slot-key-via-then-slot-key+else-not-is_enough, else-slot-key-via-else-slot-key}
use Rattle.version_store.proofs.hearing_all.hear_all.Goals as goal

pub loop-slot-init : goal.loop-slot-init
loop-slot-init g c = hearing_first _ c.args.limits.now.slots c.args.key c.args.board.now c.args.seat.now c.args.merge.now c.args.heard.now c.requires.seat c.requires.can

pub bounds-as_slice-slot : goal.bounds-as_slice-slot
bounds-as_slice-slot g c =
    let can = c.loop-slot.invariant.on.can.each c.loop-slot.slot c.loop-slot-test.true c.if-slot-key.true in
    subst (λ (l : List Heard). c.loop-slot.slot < length l) (sym c.as_slice.ensures)
    (subst (λ (n : ℕ). c.loop-slot.slot < n) (sym can.size) c.loop-slot-test.true)

pub hear-requires-clause-can : goal.hear-requires-clause-can
hear-requires-clause-can g c = λ κs within. c.loop-slot.invariant.on.can.each c.loop-slot.slot c.loop-slot-test.true c.if-slot-key.true

pub returns-then-not-is_enough-2 : goal.returns-then-not-is_enough-2
returns-then-not-is_enough-2 g c =
    let t = g.T.Tasker in
    let a = c.args.tasker.now in
    let H = (final (t.rules a) c.args.limits.now).entries in
    let known = run_history g.row.T-View.Denot g.row.T-Local.Denot (t.rules a) (t.fits_view a) (t.fits_local a) (t.may_follow a) (t.agrees a) (g.met.T.Tasker.lawful a) c.args.limits.now c.requires.ranges in
    let little = ap (λ (l : List Heard). is_enough c.args.key c.loop-slot.slot (clock_heard l c.loop-slot.slot)) (sym c.as_slice.ensures) ∙ sym c.if-not-is_enough.ensures in
    record {
      heard = record {
        seat = others_then H known c.args.limits.now.slots c.args.key c.args.seat.now c.loop-slot.seat c.hear.new.seat c.args.merge.now c.loop-slot.merge c.hear.new.merge c.args.heard.now c.loop-slot.heard c.hear.new.heard c.loop-slot.slot c.loop-slot-test.true c.loop-slot.invariant c.if-slot-key.true little c.in_ok-clock.ensures.heard;
        heard_on = hearing_on H known c.args.limits.now.slots c.args.key c.args.seat.now c.loop-slot.seat c.hear.new.seat c.args.merge.now c.loop-slot.merge c.hear.new.merge c.args.heard.now c.loop-slot.heard c.hear.new.heard c.loop-slot.slot c.loop-slot-test.true c.loop-slot.invariant c.if-slot-key.true little c.in_ok-clock.clock c.in_ok-clock.ensures.heard c.in_ok-clock.ensures.more;
        found = short_then H known c.args.limits.now.slots c.args.key c.args.seat.now c.loop-slot.seat c.hear.new.seat c.args.merge.now c.loop-slot.merge c.hear.new.merge c.args.heard.now c.loop-slot.heard c.hear.new.heard c.loop-slot.slot c.loop-slot-test.true c.loop-slot.invariant c.if-slot-key.true little c.in_ok-clock.clock c.in_ok-clock.ensures.heard c.in_ok-clock.ensures.more (sym c.if-not-is_enough-2.ensures);
      };
    }

pub loop-slot-preserved : goal.loop-slot-preserved
loop-slot-preserved g c =
    let t = g.T.Tasker in
    let a = c.args.tasker.now in
    let H = (final (t.rules a) c.args.limits.now).entries in
    let known = run_history g.row.T-View.Denot g.row.T-Local.Denot (t.rules a) (t.fits_view a) (t.fits_local a) (t.may_follow a) (t.agrees a) (g.met.T.Tasker.lawful a) c.args.limits.now c.requires.ranges in
    let Is : SeatView → List Queue → List Heard → Type 0 = λ s q h. IsHearing H c.args.limits.now.slots c.args.key c.args.seat.now s c.args.merge.now q c.args.heard.now h (c.loop-slot.slot + 1) in
    let Put : (s s' : SeatView) (q q' : List Queue) (h h' : List Heard) → s' ≡ s → q' ≡ q → h' ≡ h → Is s q h → Is s' q' h' =
    λ s s' q q' h h' e f k x. subst (λ (z : SeatView). Is z q' h') (sym e) (subst (λ (z : List Queue). Is s z h') (sym f) (subst (λ (z : List Heard). Is s q z) (sym k) x)) in
    elim c.if-slot-key.branch [
      | then-slot-key+then-not-is_enough+in_ok-clock+else-not-is_enough-2 w ↦ (
          let little = ap (λ (l : List Heard). is_enough c.args.key c.loop-slot.slot (clock_heard l c.loop-slot.slot)) (sym w.as_slice.ensures) ∙ sym w.if-not-is_enough.ensures in
          Put _ c.if-slot-key.seat _ c.if-slot-key.merge _ c.if-slot-key.heard w.seat-is w.merge-is w.heard-is
          (hearing_then H known c.args.limits.now.slots c.args.key c.args.seat.now c.loop-slot.seat w.hear.new.seat c.args.merge.now c.loop-slot.merge w.hear.new.merge c.args.heard.now c.loop-slot.heard w.hear.new.heard c.loop-slot.slot c.loop-slot-test.true c.loop-slot.invariant w.if-slot-key.true little w.in_ok-clock.clock w.in_ok-clock.ensures.heard w.in_ok-clock.ensures.more (sym w.if-not-is_enough-2.ensures)))
      | else-slot-key w ↦ Put _ c.if-slot-key.seat _ c.if-slot-key.merge _ c.if-slot-key.heard w.seat-is w.merge-is w.heard-is
          (hearing_skip H c.args.limits.now.slots c.args.key c.args.seat.now c.loop-slot.seat c.args.merge.now c.loop-slot.merge c.args.heard.now c.loop-slot.heard c.loop-slot.slot c.loop-slot.invariant
          (λ apart. elim w.else-slot-key.branch [
            | else-slot-key-via-then-slot-key+else-not-is_enough w' ↦ ap (λ (l : List Heard). is_enough c.args.key c.loop-slot.slot (clock_heard l c.loop-slot.slot)) (sym w'.as_slice.ensures) ∙ sym w'.if-not-is_enough.ensures
            | else-slot-key-via-else-slot-key w' ↦ absurd (apart w'.if-slot-key.false)
          ]))
    ]
