use Rattle.std.proofs.Common.{◌≡◌, ◌≤◌, take, pos}
use Rattle.cut_derive.specs.Chosen.{negatives_of}
use Rattle.cut_derive.proofs.cover.negatives.Given as goal

abbrev pub invariant-loop-term : goal.invariant-loop-term
invariant-loop-term l = record {
  value : l.count ≡ pos (negatives_of (take l.term-index l.chosen));
  small : negatives_of (take l.term-index l.chosen) ≤ l.term-index;
}
