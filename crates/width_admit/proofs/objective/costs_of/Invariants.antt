use Rattle.std.proofs.Common.{◌≡◌, map, take}
use Rattle.width_admit.specs.Admission.{minimised_number}
use Rattle.width_admit.specs.Held.{held_whole}
use Rattle.width_admit.proofs.objective.costs_of.Given as goal

abbrev pub invariant-loop-col : goal.invariant-loop-col
invariant-loop-col l = l.costs ≡ map (λ c. minimised_number l.maximise (held_whole l.exponent c.cost)) (take l.col-index l.cols)
