use Rattle.std.proofs.Common.{drop}
use Rattle.tree_build.specs.FirstRecords.{HasFirstPartings}
use Rattle.tree_build.proofs.parting.first_partings.Given as goal

abbrev pub invariant-loop-place : goal.invariant-loop-place
invariant-loop-place l = HasFirstPartings (drop l.place l.entries) l.partings
