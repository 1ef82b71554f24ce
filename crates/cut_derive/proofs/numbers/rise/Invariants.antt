use Rattle.std.proofs.Common.{◌≡◌, drop}
use Rattle.cut_derive.specs.Covers.{rise_from}
use Rattle.cut_derive.proofs.numbers.rise.Given as goal

abbrev pub invariant-loop-col : goal.invariant-loop-col
invariant-loop-col l = rise_from l.low (drop l.col-index l.cols) ≡ rise_from 0 l.cols
