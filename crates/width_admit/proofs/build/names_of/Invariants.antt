use Rattle.std.proofs.Common.{◌≡◌, map, take}
use Rattle.width_admit.proofs.build.names_of.Given as goal

abbrev pub invariant-loop-col : goal.invariant-loop-col
invariant-loop-col l = l.names ≡ map (λ c. c.name) (take l.col-index l.cols)
