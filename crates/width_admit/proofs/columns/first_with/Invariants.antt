use Rattle.std.proofs.Common.{◌≡◌, drop}
use Rattle.width_admit.specs.Admission.{first_from}
use Rattle.width_admit.specs.Held.{has_fault}
use Rattle.width_admit.proofs.columns.first_with.Given as goal

abbrev pub invariant-loop-at : goal.invariant-loop-at
invariant-loop-at l = first_from (λ _ c. has_fault l.fault l.upper c) l.at (drop l.at l.cols) ≡ first_from (λ _ c. has_fault l.fault l.upper c) 0 l.cols
