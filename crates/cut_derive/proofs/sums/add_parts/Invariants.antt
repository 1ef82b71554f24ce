use Rattle.std.proofs.Common.{take}
use Rattle.cut_derive.specs.Premises.{AreSums}
use Rattle.cut_derive.proofs.sums.add_parts.Given as goal

abbrev pub invariant-loop-part : goal.invariant-loop-part
invariant-loop-part l = AreSums l.model l.cuts (take l.part-index l.parts) l.coefs
