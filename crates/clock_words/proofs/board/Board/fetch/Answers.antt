use Rattle.std.proofs.Common.{sym, refl, ap, ◌∙◌}
use Rattle.std.proofs.Common.{length, drop, take, List}
use Rattle.clock_words.specs.Stories.{words_of}
use Rattle.clock_words.specs.declared.story.StampedWord.{StampedWord}
use Rattle.clock_words.proofs.Calls.{due_is, fetch_seen, seat_after_fetch}
use Rattle.clock_words.proofs.Surface.{mirror_after_fetch}
use Rattle.clock_words.proofs.Tables.{at_table, list_told, slot_known, within_of}
use Rattle.clock_words.proofs.board.Board.fetch.Goals as goal

pub load_words-requires-clause-seat : goal.load_words-requires-clause-seat
load_words-requires-clause-seat g c =
    at_table _ _ _ _ _ _ _ _ c.self.invariant (sym c.self.view_is) (sym c.seat.view_is)
    c.requires.seat c.seat.invariant.role

pub load_words-requires-clause-within : goal.load_words-requires-clause-within
load_words-requires-clause-within g c =
    within_of _ _ _ _ _ _ c.self.invariant (sym c.self.view_is)

pub load_words-requires-clause-shape : goal.load_words-requires-clause-shape
load_words-requires-clause-shape g c = c.self.invariant.told_shape

pub load_words-requires-clause-slot : goal.load_words-requires-clause-slot
load_words-requires-clause-slot g c =
    slot_known _ _ _ _ _ _ c.self.invariant (sym c.self.view_is) c.args.slot c.requires.slot

pub load_words-requires-clause-are_due : goal.load_words-requires-clause-are_due
load_words-requires-clause-are_due g c =
    let at = load_words-requires-clause-seat g c in
    due_is c.seat.inside _ _ c.seat.invariant c.seat.view_is at.owning.told.lists c.args.slot _
    c.requires.are_due

pub invariant_of-seat : goal.invariant_of-seat
invariant_of-seat g c =
    mirror_after_fetch c.seat.inside _ c.args.slot _ c.seat.invariant c.load_words.ensures.view refl
    refl refl refl

pub returns-clause-view : goal.returns-clause-view
returns-clause-view g c =
    fetch_seen _ _ _ _ _ c.load_words.ensures.seat.0 c.seat.view_is c.args.slot _
    (ap (λ p. p.0) c.load_words.ensures.view)

pub returns-clause-seat : goal.returns-clause-seat
returns-clause-seat g c =
    seat_after_fetch _ _ _ c.requires.seat c.args.slot _ (returns-clause-view g c)

pub returns-clause-words : goal.returns-clause-words
returns-clause-words g c =
    c.load_words.ensures.words
    ∙ ap (λ (l : List StampedWord). take (length c.args.out.now) (drop c.args.from (words_of l)))
    (list_told _ _ _ _ _ _ c.self.invariant (sym c.self.view_is) c.args.slot)
