use Rattle.std.proofs.Common.{ℕ, replicate, refl, sym, ap, ◌∙◌, arith}
use Rattle.clock_words.proofs.Calls.{handed_seen, one_seat_more}
use Rattle.clock_words.proofs.Handing.{hands_out_next, maker_after, seat_after}
use Rattle.clock_words.proofs.Surface.{mirror_of_new}
use Rattle.clock_words.proofs.seating.hand_out.Goals as goal

pub split_seat-place-requires : goal.split_seat-place-requires
split_seat-place-requires g c =
    let size = c.requires.size in (
      c.loop-slot.invariant.table,
      omega arith,
      hands_out_next _ _ _ c.loop-slot.slot _ (ap (λ m. m.0) c.loop-slot.invariant.view)
          (omega arith),
    )

pub invariant_of-push : goal.invariant_of-push
invariant_of-push g c =
    mirror_of_new _ _ _ c.loop-slot.slot
    (seat_after _ _ c.loop-slot.slot _ _ c.loop-slot.invariant.view c.split_seat-place.ensures.4)
    (omega arith) refl refl (c.in_ok-seen.ensures ∙ ap (λ (n : ℕ). replicate n 0)
    (sym c.requires.shape))

pub loop-slot-preserved : goal.loop-slot-preserved
loop-slot-preserved g c =
    let before = c.loop-slot.invariant in
    let handed = seat_after _ _ c.loop-slot.slot _ _ before.view c.split_seat-place.ensures.4 in
    record {
      table = c.split_seat-place.ensures.0 ∙ before.table;
      view = maker_after _ _ c.loop-slot.slot _ _ before.view c.split_seat-place.ensures.2;
      seats = one_seat_more _ _ _ _ c.loop-slot.slot before.seats
          (handed_seen _ _ _ _ _ c.loop-slot.slot (c.split_seat-place.ensures.3 ∙ before.table)
          (ap (λ m. m.0) handed)) c.in_ok-push.ensures.ok;
    }
