use Rattle.std.proofs.Common.{drop}
use Rattle.tree_build.specs.FirstRecords.{HasRecordPlaces}
use Rattle.tree_build.proofs.record_place.first_records.Given as goal

abbrev pub invariant-loop-slot : goal.invariant-loop-slot
invariant-loop-slot l = HasRecordPlaces l.slot (drop l.slot l.lists) l.places
