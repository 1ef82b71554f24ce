use Rattle.std.proofs.Common.{◌≡◌, drop}
use Rattle.std.specs.List.{list_all}
use Rattle.version_store.specs.Advances.{has_ended}
use Rattle.carrier_tests.proofs.drive.all_ended.Given as goal

abbrev pub invariant-loop-carrier : goal.invariant-loop-carrier
invariant-loop-carrier g l =
    list_all (λ c. has_ended c) (drop l.carrier-index l.carriers)
    ≡ list_all (λ c. has_ended c) l.carriers
