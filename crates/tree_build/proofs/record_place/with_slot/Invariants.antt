use Rattle.std.proofs.Common.{drop}
use Rattle.tree_build.specs.FirstRecords.{HasSlotPlaces}
use Rattle.tree_build.proofs.record_place.with_slot.Given as goal

abbrev pub invariant-loop-index : goal.invariant-loop-index
invariant-loop-index l =
    HasSlotPlaces l.slot l.index (drop l.index l.records) l.fn.later l.places
