use Rattle.std.proofs.Common.{◌≡◌, ◌≤◌, ◌+◌, ◌*◌, ◌^◌, drop}
use Rattle.width_admit.specs.Held.{costs_width_from}
use Rattle.width_admit.proofs.objective.costs_width.Given as goal

abbrev pub invariant-loop-at : goal.invariant-loop-at
invariant-loop-at l = record {
  summed : l.width + costs_width_from l.root l.exponent l.at (drop l.at l.cols) ≡ costs_width_from l.root l.exponent 0 l.cols;
  small : l.width ≤ l.at * 2 ^ 83;
}
