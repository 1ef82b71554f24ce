use Rattle.std.proofs.Common.{ℕ, ◌≤◌, ◌<◌, get_or}
use Rattle.row_propagate.specs.Quiet.{IsLoose, no_term}
use Rattle.row_propagate.proofs.visiting.first_tight.Given as goal

abbrev pub invariant-loop-place : goal.invariant-loop-place
invariant-loop-place l = (i : ℕ) → l.start ≤ i → i < l.place → IsLoose l.bounds l.room (get_or l.terms i no_term)
