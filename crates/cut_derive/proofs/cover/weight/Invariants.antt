use Rattle.std.proofs.Common.{◌≡◌, ◌≤◌, ◌*◌, ◌^◌, take}
use Rattle.cut_derive.specs.Chosen.{weight_of}
use Rattle.cut_derive.proofs.cover.weight.Given as goal

abbrev pub invariant-loop-term : goal.invariant-loop-term
invariant-loop-term l = record {
  value : l.sum ≡ weight_of (take l.term-index l.chosen);
  small : l.sum ≤ l.term-index * 2 ^ 50;
}
