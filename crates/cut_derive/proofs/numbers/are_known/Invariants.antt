use Rattle.std.proofs.Common.{◌≡◌, drop}
use Rattle.cut_derive.specs.Gomory.{are_known}
use Rattle.cut_derive.proofs.numbers.are_known.Given as goal

abbrev pub invariant-loop-part : goal.invariant-loop-part
invariant-loop-part l = are_known l.model.rows l.cuts (drop l.part-index l.parts) ≡ are_known l.model.rows l.cuts l.parts
