use Rattle.std.proofs.Common.{sym, subst}
use Rattle.clock_words.specs.Clocks.{IsStamp}
use Rattle.clock_words.proofs.Stamps.{stamp_is}
use Rattle.clock_words.proofs.Tables.{size_told, slot_told}
use Rattle.clock_words.proofs.board.Board.hint.Goals as goal

pub peek_clock-requires-clause-size : goal.peek_clock-requires-clause-size
peek_clock-requires-clause-size g c = size_told _ _ _ _ _ _ c.self.invariant (sym c.self.view_is)

pub peek_clock-requires-clause-slot : goal.peek_clock-requires-clause-slot
peek_clock-requires-clause-slot g c =
    slot_told _ _ _ _ _ _ c.self.invariant (sym c.self.view_is) c.args.slot c.requires

pub returns : goal.returns
returns g c = subst IsStamp (sym c.stamp_of.ensures) (stamp_is c.peek_clock.result)
