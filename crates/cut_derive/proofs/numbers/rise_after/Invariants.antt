use Rattle.std.proofs.Common.{◌≡◌, drop}
use Rattle.leaf_truth.specs.Multipliers.{rise_after}
use Rattle.cut_derive.proofs.numbers.rise_after.Given as goal

abbrev pub invariant-loop-part : goal.invariant-loop-part
invariant-loop-part l = rise_after l.last (drop l.part-index l.parts) ≡ rise_after l.fn.name l.parts
