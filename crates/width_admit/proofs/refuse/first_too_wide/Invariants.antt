use Rattle.std.proofs.Common.{◌≡◌, drop}
use Rattle.width_admit.specs.ExactRows.{exact_row, is_too_wide}
use Rattle.width_admit.specs.Admission.{first_from}
use Rattle.width_admit.proofs.refuse.first_too_wide.Given as goal

abbrev pub invariant-loop-at : goal.invariant-loop-at
invariant-loop-at l =
    first_from (λ i row. is_too_wide (l.root) (exact_row l.mps.cols i row)) l.at (drop l.at l.rows) ≡ first_from (λ i row. is_too_wide (l.root) (exact_row l.mps.cols i row)) 0 l.mps.rows
