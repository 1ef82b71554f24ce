use Rattle.std.proofs.Common.{ℕ, List, length, sym, refl, ap, ◌∙◌, arith}
use Rattle.clock_words.specs.Views.{greater_of}
use Rattle.clock_words.proofs.Calls.{join_seen, seat_after_join}
use Rattle.clock_words.proofs.Handing.{joins}
use Rattle.clock_words.proofs.Surface.{mirror_after_join}
use Rattle.clock_words.proofs.Tables.{as_many_seen, at_table, story_of_view}
use Rattle.clock_words.proofs.board.Board.join.Goals as goal

pub keep_greater-requires : goal.keep_greater-requires
keep_greater-requires g c =
    let here = as_many_seen _ _ _ _ _ c.seat.inside.place _ _ c.self.invariant (sym c.self.view_is)
    (sym c.seat.view_is) c.requires.seat in
    let there = as_many_seen _ _ _ _ _ c.other.inside.place _ _ c.self.invariant
    (sym c.self.view_is)
    (sym c.other.view_is) c.requires.other in
    let a = ap length c.seat.invariant.seen in let b = ap length c.other.invariant.seen in
    omega arith

pub join_seat-requires : goal.join_seat-requires
join_seat-requires g c =
    let here = at_table _ _ _ _ _ c.seat.inside.place _ _ c.self.invariant (sym c.self.view_is)
    (sym c.seat.view_is)
    c.requires.seat c.seat.invariant.role in
    let there = at_table _ _ _ _ _ c.other.inside.place _ _ c.self.invariant (sym c.self.view_is)
    (sym c.other.view_is) c.requires.other c.other.invariant.role in
    let size = here.size in (
      here.table_is,
      there.table_is,
      c.other.invariant.none_held,
      omega arith,
      joins _ _ _ _ _ _ here.owning,
    )

pub invariant_of-seat : goal.invariant_of-seat
invariant_of-seat g c =
    let here = story_of_view _ _ _ _ _ c.seat.inside.place _ _ c.self.invariant (sym c.self.view_is)
    (sym c.seat.view_is) c.requires.seat in
    let there = story_of_view _ _ _ _ _ c.other.inside.place _ _ c.self.invariant
    (sym c.self.view_is)
    (sym c.other.view_is) c.requires.other in
    mirror_after_join c.seat.inside _ c.other.inside c.seat.invariant c.other.invariant
    (here ∙ sym there) c.join_seat.ensures.2 refl refl refl (c.keep_greater.ensures
    ∙ ap (λ (l : List ℕ). greater_of c.seat.inside.seen.items l) c.as_slice.ensures.value)

pub returns-clause-view : goal.returns-clause-view
returns-clause-view g c =
    join_seen _ _ c.seat.inside.place.me.0 _ _ c.join_seat.ensures.0 c.seat.view_is _
    c.other.inside.place.me.0 _
    (ap (λ p. p.0) c.join_seat.ensures.2) c.other.view_is

pub returns-clause-seat : goal.returns-clause-seat
returns-clause-seat g c =
    seat_after_join _ _ _ c.requires.seat _ c.requires.other (returns-clause-view g c)
