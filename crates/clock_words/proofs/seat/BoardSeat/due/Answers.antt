use Rattle.std.proofs.Common.{length, ap, ◌∙◌, arith}
use Rattle.std.proofs.lemmas.List.{get_or_read}
use Rattle.clock_words.specs.Clocks.{due_count}
use Rattle.clock_words.specs.Seats.{SeatView, due_seen}
use Rattle.clock_words.proofs.Surface.{as_many_kept, count_of_seen}
use Rattle.clock_words.proofs.seat.BoardSeat.due.Goals as goal

pub index-requires : goal.index-requires
index-requires c =
    let kept = as_many_kept c.self.inside c.self.invariant in
    let seen = ap (λ (z : SeatView). length z.seen) c.self.view_is in omega arith

pub returns : goal.returns
returns c =
    let kept = as_many_kept c.self.inside c.self.invariant in
    let seen = ap (λ (z : SeatView). length z.seen) c.self.view_is in
    c.due_count.ensures
    ∙ (ap due_count (get_or_read c.self.inside.seen.items c.args.slot c.index.result.now
    (omega arith) c.index.ensures 0)
    ∙ (count_of_seen c.self.inside c.args.slot c.self.invariant
    ∙ ap (λ (z : SeatView). due_seen z c.args.slot) c.self.view_is))
