use Rattle.std.proofs.Common.{◌≡◌, drop}
use Rattle.std.specs.List.{list_all}
use Rattle.cut_derive.specs.Gomory.{has_weight}
use Rattle.cut_derive.proofs.numbers.have_weights.Given as goal

abbrev pub invariant-loop-part : goal.invariant-loop-part
invariant-loop-part l = list_all has_weight (drop l.part-index l.parts) ≡ list_all has_weight l.parts
