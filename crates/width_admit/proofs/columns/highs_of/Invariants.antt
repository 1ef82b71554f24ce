use Rattle.std.proofs.Common.{◌≡◌, map, take}
use Rattle.width_admit.specs.Columns.{high}
use Rattle.width_admit.specs.Held.{held_number}
use Rattle.width_admit.proofs.columns.highs_of.Given as goal

abbrev pub invariant-loop-col : goal.invariant-loop-col
invariant-loop-col l = l.highs ≡ map (λ c. held_number (high l.upper c.high)) (take l.col-index l.cols)
