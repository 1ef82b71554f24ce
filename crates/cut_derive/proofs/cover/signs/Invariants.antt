use Rattle.std.proofs.Common.{◌≡◌, take}
use Rattle.cut_derive.specs.Chosen.{signs_of}
use Rattle.cut_derive.proofs.cover.signs.Given as goal

abbrev pub invariant-loop-term : goal.invariant-loop-term
invariant-loop-term l = l.terms ≡ signs_of (take l.term-index l.chosen)
