use Rattle.std.proofs.Common.{◌≡◌, map, take}
use Rattle.width_admit.specs.Columns.{low}
use Rattle.width_admit.specs.Held.{held_number}
use Rattle.width_admit.proofs.columns.lows_of.Given as goal

abbrev pub invariant-loop-col : goal.invariant-loop-col
invariant-loop-col l = l.lows ≡ map (λ c. held_number (low c.low)) (take l.col-index l.cols)
