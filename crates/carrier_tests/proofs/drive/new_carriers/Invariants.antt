use Rattle.std.proofs.Common.{◌≡◌, length}
use Rattle.carrier_tests.specs.Driven.{AreFirst}
use Rattle.version_store.proofs.Seats.{AreSeatsFrom}
use Rattle.carrier_tests.proofs.drive.new_carriers.Given as goal

abbrev pub invariant-loop-seat : goal.invariant-loop-seat
invariant-loop-seat g l = record {
  seats : AreSeatsFrom l.board l.limits.slots (length l.yielded) l.seat-iterator.rest.items;
  carriers : AreFirst l.board l.tasker l.limits l.carriers.items;
  number : length l.carriers.items ≡ length l.yielded;
}
