use Rattle.std.proofs.Common.{◌≡◌, take}
use Rattle.cut_derive.specs.Gomory.{combined_least}
use Rattle.cut_derive.proofs.sums.combined_least.Given as goal

abbrev pub invariant-loop-part : goal.invariant-loop-part
invariant-loop-part l = l.sum ≡ combined_least l.model.rows l.cuts (take l.part-index l.parts)
