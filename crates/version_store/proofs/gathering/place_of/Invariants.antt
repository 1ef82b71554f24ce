use Rattle.std.proofs.Common.{◌≡◌, false, nat_eq, take}
use Rattle.std.specs.List.{list_any}
use Rattle.version_store.proofs.gathering.place_of.Given as goal

abbrev pub invariant-loop-place : goal.invariant-loop-place
invariant-loop-place g l =
    list_any (λ c. nat_eq c.seat.slot l.number) (take l.place l.carriers) ≡ false
