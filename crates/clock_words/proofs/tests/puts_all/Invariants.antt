use Rattle.std.proofs.Common.{◌≡◌}
use Rattle.clock_words.specs.Seats.{IsSeat}
use Rattle.clock_words.proofs.tests.puts_all.Given as goal

abbrev pub invariant-loop-turn : goal.invariant-loop-turn
invariant-loop-turn l = record {
  seat : IsSeat l.board l.seat;
  slot : l.seat.slot ≡ 0;
  own : l.seat.own ≡ l.turn;
  written : l.seat.written ≡ l.turn;
}
