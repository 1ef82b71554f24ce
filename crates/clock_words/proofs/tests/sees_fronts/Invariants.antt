use Rattle.clock_words.specs.Seats.{IsSeat}
use Rattle.clock_words.proofs.tests.sees_fronts.Given as goal

abbrev pub invariant-loop : goal.invariant-loop
invariant-loop l = IsSeat l.board l.seat
